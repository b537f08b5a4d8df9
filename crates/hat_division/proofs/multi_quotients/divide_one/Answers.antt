-- Row by row, from the top.
use Rattle.std.proofs.Common.{[], ◌∷◌, ◌+◌, ◌-◌, ◌≤◌, take, All, sym, ap, subst, refl, ◌∙◌, arith, rules}
use Rattle.std.proofs.lemmas.Int.{to_z-of_z}
use Rattle.std.proofs.lemmas.Bool.{false≢true}
use mir.Syntax.{w32}
use mir.Val.{SFits, to_z, of_z}
use Rattle.hat_division.specs.MultiTable.{degrees_of, component_rank_at, step_up, step_down, IsSmallByComponent}
use Rattle.hat_division.specs.Inner.Rows.{HasPlace}
use Rattle.hat_division.specs.declared.multi_tables.MultiRow.{MultiRow}
use Rattle.hat_division.proofs.Multi.MultiTableLemmas.{multi_shape, component_rank_at-ranks_of, step_up_IsStepUp, step_up-before, quotient_by-is}
use Rattle.hat_division.proofs.Factors.RowSteps.{row_fails, row_kept, row_pushed, all_taken}
use Rattle.hat_division.proofs.Factors.QuotientSteps.{IsCandidateFor}
use Rattle.hat_division.proofs.Multi.DividedRows.{general, end_small, end_place, end_found, end_none}
use Rattle.hat_division.proofs.multi_quotients.divide_one.Goals.{then-above-row+in_ok-push, else-above-row}
use Rattle.hat_division.proofs.multi_quotients.divide_one.Goals as goal

pub returns-then-row-above : goal.returns-then-row-above
returns-then-row-above c q h =
    let up = step_up c.args.i in
    let key = degrees_of c.row-item.result in
    row_fails multi_shape up (step_up_IsStepUp c.args.i) c.args.rows.now (general c.args.rows.now c.requires.positive)
    (step_up-before c.args.i) c.loop-row.row-index c.row-item.result c.loop-row-test.true c.row-item.is
    c.loop-row.quotient.items c.loop-row.invariant c.rank_up-above.result
    (c.rank_up-above.ensures ∙ ap (λ xs. component_rank_at xs (up key)) c.as_slice.ensures.value
    ∙ component_rank_at-ranks_of c.loop-row.quotient.items (up key)) c.if-row-above.true q
    ((quotient_by-is (up ∷ []) c.args.rows.now q).0 h)

pub loop-row-preserved : goal.loop-row-preserved
loop-row-preserved c =
    let i = c.args.i in
    let rows = c.args.rows.now in
    let n = c.loop-row.row-index in
    let row = c.row-item.result in
    let now = c.loop-row.quotient.items in
    let above = c.rank_up-above.result in
    let fits : SFits w32 row.m = search rules in
    let positive = general rows c.requires.positive in
    let is =
    c.rank_up-above.ensures ∙ ap (λ xs. component_rank_at xs (step_up i (degrees_of row))) c.as_slice.ensures.value
    ∙ component_rank_at-ranks_of now (step_up i (degrees_of row)) in
    let enough = c.if-row-above.false in
    let new : MultiRow = record { m = to_z w32 (of_z w32 row.m); d = row.d; rank = row.rank - above } in
    elim c.if-above-row.branch as (λ _.
    IsCandidateFor multi_shape (step_up i) rows (take (n + 1) rows) c.if-above-row.quotient.items) [
      | then-above-row+in_ok-push w ↦
          subst (λ xs. IsCandidateFor multi_shape (step_up i) rows (take (n + 1) rows) xs)
          (sym (ap (λ v. v.items) w.quotient-is ∙ w.in_ok-push.ensures.items))
          (row_pushed multi_shape (step_up i) (step_up_IsStepUp i) rows positive (step_up-before i) n row
          c.loop-row-test.true c.row-item.is now c.loop-row.invariant above is new
          (λ j. (to_z-of_z w32 row.m fits j, row.d)) refl w.if-above-row.true)
      | else-above-row w ↦
          let less = w.if-above-row.false in
          subst (λ xs. IsCandidateFor multi_shape (step_up i) rows (take (n + 1) rows) xs)
          (sym (ap (λ v. v.items) w.quotient-is))
          (row_kept multi_shape (step_up i) (step_up_IsStepUp i) rows positive (step_up-before i) n row
          c.loop-row-test.true c.row-item.is now c.loop-row.invariant above is (omega arith) (omega arith))
    ]

pub have_lower-requires-clause-small : goal.have_lower-requires-clause-small
have_lower-requires-clause-small c =
    subst (λ xs. All IsSmallByComponent xs) (sym c.as_slice-2.ensures.value)
    (end_small c.args.i c.args.rows.now c.requires.positive c.loop-row.quotient.items
    (all_taken multi_shape (step_up c.args.i) (step_up_IsStepUp c.args.i) c.args.rows.now
    (general c.args.rows.now c.requires.positive) c.loop-row.row-index c.loop-row.quotient.items c.loop-row.invariant
    c.loop-row-test.false) c.requires.small)

pub have_lower-requires-clause-place : goal.have_lower-requires-clause-place
have_lower-requires-clause-place c =
    subst (λ xs. All (HasPlace c.args.i) xs) (sym c.as_slice-2.ensures.value)
    (end_place c.args.i c.args.rows.now c.requires.positive c.loop-row.quotient.items
    (all_taken multi_shape (step_up c.args.i) (step_up_IsStepUp c.args.i) c.args.rows.now
    (general c.args.rows.now c.requires.positive) c.loop-row.row-index c.loop-row.quotient.items c.loop-row.invariant
    c.loop-row-test.false) c.requires.place)

pub returns-then-have_lower : goal.returns-then-have_lower
returns-then-have_lower c =
    end_found c.args.i c.args.rows.now c.requires.positive c.loop-row.quotient.items
    (all_taken multi_shape (step_up c.args.i) (step_up_IsStepUp c.args.i) c.args.rows.now
    (general c.args.rows.now c.requires.positive) c.loop-row.row-index c.loop-row.quotient.items c.loop-row.invariant
    c.loop-row-test.false)
    (subst (λ xs. All (λ row. 1 ≤ component_rank_at c.args.rows.now (step_down c.args.i (degrees_of row))) xs)
    c.as_slice-2.ensures.value (c.have_lower.ensures.0 c.if-have_lower.true))

pub returns-else-have_lower : goal.returns-else-have_lower
returns-else-have_lower c q h =
    end_none c.args.i c.args.rows.now c.requires.positive c.loop-row.quotient.items
    (all_taken multi_shape (step_up c.args.i) (step_up_IsStepUp c.args.i) c.args.rows.now
    (general c.args.rows.now c.requires.positive) c.loop-row.row-index c.loop-row.quotient.items c.loop-row.invariant
    c.loop-row-test.false)
    (λ all. false≢true (sym c.if-have_lower.false ∙ c.have_lower.ensures.1
    (subst (λ xs. All (λ row. 1 ≤ component_rank_at c.args.rows.now (step_down c.args.i (degrees_of row))) xs)
    (sym c.as_slice-2.ensures.value) all))) q h
