-- The key that has one ends the search.
use Rattle.std.proofs.Common.{◌<◌, length, ap, sym, ◌∙◌, arith, inl, inr}
use Rattle.std.proofs.lemmas.Bool.{ne_eqb}
use Rattle.sparse_complex.specs.declared.links.Head.{Head}
use Rattle.sparse_complex.specs.Inner.Lists.{no_id, head_at}
use Rattle.sparse_complex.proofs.WriteLemmas.{head_is}
use Rattle.sparse_complex.proofs.ArrowChangeLemmas.{lt_or_eq}
use Rattle.sparse_complex.proofs.slices.first_with_arrow.Goals as goal

pub returns-then-index-clause-some_here : goal.returns-then-index-clause-some_here
returns-then-index-clause-some_here c =
    λ l. ne_eqb (head_at c.args.links.now.heads.items c.loop-key.key).first_out no_id
    (λ e. c.if-index.true (ap (λ (h : Head). h.first_out) (sym (head_is _ c.loop-key.key _ l c.index.ensures)) ∙ e))

pub loop-key-preserved : goal.loop-key-preserved
loop-key-preserved c =
    let l : c.loop-key.key < length c.args.links.now.heads.items = omega arith in
    record {
      begun = omega arith;
      within = omega arith;
      none_before = λ k b m.
          elim (lt_or_eq k c.loop-key.key m) [
            | inl less ↦ c.loop-key.invariant.none_before k b less
            | inr is ↦
                ap (λ j. (head_at c.args.links.now.heads.items j).first_out) is
                ∙ ap (λ (h : Head). h.first_out) (head_is _ c.loop-key.key _ l c.index.ensures) ∙ c.if-index.false
          ];
    }
