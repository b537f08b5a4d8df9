-- Each step passes an arrow to another key.
use Rattle.std.proofs.Common.{◌||◌, ap, sym, ◌∙◌}
use Rattle.std.proofs.lemmas.Bool.{ne_eqb}
use Rattle.sparse_complex.specs.Inner.Lists.{among, node_at, outs_from}
use Rattle.sparse_complex.specs.Inner.Graph.{tos}
use Rattle.sparse_complex.proofs.WriteLemmas.{head_is, is_node-contains}
use Rattle.sparse_complex.proofs.WalkLemmas.{out-live, out-facts, out-begin, out-none}
use Rattle.sparse_complex.proofs.GraphLemmas.{has_arrow-targets}
use Rattle.sparse_complex.proofs.links.Links.find.Goals as goal

pub loop-at-init : goal.loop-at-init
loop-at-init c =
    let b = out-begin c.args.self.now c.requires.listed c.args.from _
    (head_is _ c.args.from _ c.requires.key c.index.ensures) in
    record {
      on = b.0;
      ahead = ap (λ is. among c.args.to (tos c.args.self.now is)) b.1
          ∙ has_arrow-targets c.args.self.now c.requires.listed c.args.from c.args.to;
    }

pub get-node-requires : goal.get-node-requires
get-node-requires c =
    is_node-contains _ _
    (out-live c.args.self.now c.requires.listed c.args.from c.loop-at.at c.loop-at.invariant.on c.loop-at-test.true)

pub returns-then-node-to-clause-found : goal.returns-then-node-to-clause-found
returns-then-node-to-clause-found c =
    let s = out-facts c.args.self.now c.requires.listed c.args.from c.loop-at.at _ c.loop-at.invariant.on
    c.loop-at-test.true c.get-node.ensures.node in
    (s.live, s.from_is, s.to_is ∙ c.if-node-to.true)

pub loop-at-smaller : goal.loop-at-smaller
loop-at-smaller c =
    (out-facts c.args.self.now c.requires.listed c.args.from c.loop-at.at _ c.loop-at.invariant.on c.loop-at-test.true
    c.get-node.ensures.node).smaller

pub loop-at-preserved : goal.loop-at-preserved
loop-at-preserved c =
    let s = out-facts c.args.self.now c.requires.listed c.args.from c.loop-at.at _ c.loop-at.invariant.on
    c.loop-at-test.true c.get-node.ensures.node in
    record {
      on = s.on;
      ahead =
          sym (ap (λ is. among c.args.to (tos c.args.self.now is)) s.ahead
          ∙ ap (λ b. b
          || among c.args.to
          (tos c.args.self.now (outs_from c.args.self.now.pool.nodes c.get-node.result.next_out)))
          (ne_eqb c.args.to (node_at c.args.self.now.pool.nodes c.loop-at.at).to
          (λ e. c.if-node-to.false (sym s.to_is ∙ sym e))))
          ∙ c.loop-at.invariant.ahead;
    }

pub returns-clause-none : goal.returns-clause-none
returns-clause-none c = λ _.
    sym c.loop-at.invariant.ahead
    ∙ ap (λ is. among c.args.to (tos c.args.self.now is))
    (out-none c.args.self.now c.requires.listed c.loop-at.at c.loop-at-test.false)
