-- All neighbours were looked at.
use Rattle.std.proofs.Common.{◌≡◌, ◌-◌, ◌∙◌, get_or, sym, arith, refl}
use Rattle.std.proofs.lemmas.Bool.{false≢true}
use Rattle.std.proofs.lemmas.List.{get_or_default}
use Rattle.hat_division.specs.DegreeLists.{stands_before_by_component}
use Rattle.hat_division.specs.MultiTable.{degrees_of}
use Rattle.hat_division.proofs.Multi.RowOrder.{ordered_by_neighbours}
use Rattle.hat_division.proofs.multi_tables.are_ordered.Goals as goal

pub returns : goal.returns
returns c =
    ((λ yes. ordered_by_neighbours c.args.rows.now (λ k d l. c.loop-i.invariant k d (omega arith))), (λ all. refl))

pub returns-then-not-comes_before : goal.returns-then-not-comes_before
returns-then-not-comes_before c =
    let rows = c.args.rows.now in
    let i = c.loop-i.i in
    let p = c.index-rows-i.result in
    let q = c.index-rows-i-in-loop-i.result in
    let inside = c.loop-i-test.true in
    let above = c.loop-i.auto.i in
    let same : q ≡ get_or rows i p =
    c.index-rows-i-in-loop-i.is ∙ get_or_default rows i q p inside in (
      λ h. absurd (false≢true h),
      λ all. absurd (false≢true (sym (sym c.comes_before.ensures ∙ c.if-not-comes_before.true)
          ∙ (λ j. stands_before_by_component (degrees_of (c.index-rows-i.is j)) (degrees_of (same j)))
          ∙ all (i - 1) i p (omega arith) inside)),
    )
