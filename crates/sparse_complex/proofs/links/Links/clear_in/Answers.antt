-- Each step takes the first arrow out.
use Rattle.std.proofs.Common.{◌<◌, eqb, refl, sym, ap, subst, ◌∙◌, arith}
use Rattle.std.proofs.lemmas.Bool.{eq-eqb, eqb-true}
use Rattle.sparse_complex.specs.Inner.Lists.{node_at}
use Rattle.sparse_complex.specs.Inner.Graph.{width, has_arrow}
use Rattle.sparse_complex.proofs.WriteLemmas.{head_is}
use Rattle.sparse_complex.proofs.ArrowChangeLemmas.{width-unlinked}
use Rattle.sparse_complex.proofs.ClearLemmas.{clear-start, clear-step, clear-end, clear-smaller-in, node-first_in, no_in}
use Rattle.sparse_complex.proofs.links.Links.clear_in.Goals as goal

pub loop-at-init : goal.loop-at-init
loop-at-init c =
    record {
      place = clear-start (λ s t. eqb t c.args.key) c.args.self.now c.requires.listed;
      first = ap (λ h. h.first_in) (head_is _ c.args.key _ c.requires.key c.index.ensures);
    }

pub unlink-requires-clause-live : goal.unlink-requires-clause-live
unlink-requires-clause-live c =
    (node-first_in c.loop-at.self c.loop-at.invariant.place.listed c.args.key c.loop-at.at c.loop-at.invariant.first
    c.loop-at-test.true).0

pub index-requires-in-loop-at : goal.index-requires-in-loop-at
index-requires-in-loop-at c =
    let n = node-first_in c.loop-at.self c.loop-at.invariant.place.listed c.args.key c.loop-at.at
    c.loop-at.invariant.first c.loop-at-test.true in
    let l : c.args.key < width c.unlink.new.self =
    subst (λ w. c.args.key < w)
    (sym (width-unlinked c.loop-at.self c.unlink.new.self c.loop-at.invariant.place.listed c.loop-at.at n.0
    c.unlink.ensures.unlinked ∙ c.loop-at.invariant.place.width)) c.requires.key in
    omega arith

pub loop-at-smaller : goal.loop-at-smaller
loop-at-smaller c =
    let n = node-first_in c.loop-at.self c.loop-at.invariant.place.listed c.args.key c.loop-at.at
    c.loop-at.invariant.first c.loop-at-test.true in
    clear-smaller-in c.loop-at.self c.unlink.new.self c.loop-at.invariant.place.listed c.loop-at.at c.args.key n.0 n.1
    c.unlink.ensures.unlinked

pub loop-at-preserved : goal.loop-at-preserved
loop-at-preserved c =
    let n = node-first_in c.loop-at.self c.loop-at.invariant.place.listed c.args.key c.loop-at.at
    c.loop-at.invariant.first c.loop-at-test.true in
    record {
      place = clear-step
          (λ s t. eqb t c.args.key) c.args.self.now c.loop-at.self c.loop-at.invariant.place c.loop-at.at n.0
          (eq-eqb (node_at c.loop-at.self.pool.nodes c.loop-at.at).to c.args.key n.1) c.unlink.new.self
          c.unlink.ensures.unlinked;
      first = ap (λ h. h.first_in) (head_is _ c.args.key _
          (subst (λ w. c.args.key < w)
          (sym (width-unlinked c.loop-at.self c.unlink.new.self c.loop-at.invariant.place.listed c.loop-at.at n.0
          c.unlink.ensures.unlinked ∙ c.loop-at.invariant.place.width)) c.requires.key)
          c.index-in-loop-at.ensures);
    }

pub returns : goal.returns
returns c =
    clear-end (λ s t. eqb t c.args.key) c.args.self.now c.loop-at.self c.loop-at.invariant.place
    (λ s u e. ap (λ k. has_arrow c.loop-at.self s k) (eqb-true u c.args.key e)
    ∙ no_in c.loop-at.self c.loop-at.invariant.place.listed c.args.key _ refl
    (c.loop-at.invariant.first ∙ c.loop-at-test.false) s)
