-- Row by row, from the top.
use Rattle.std.proofs.Common.{◌+◌, ◌-◌, ◌≤◌, pos, ◌+ℤ◌, take, get_or, All, sym, ap, subst, refl, ◌∙◌, arith, rules}
use Rattle.std.specs.Prelude.{◌-ℤ◌}
use Rattle.std.proofs.lemmas.Int.{to_z-of_z}
use Rattle.std.proofs.lemmas.List.{get_or_default}
use Rattle.std.proofs.lemmas.Bool.{false≢true}
use mir.Syntax.{w32}
use mir.Val.{SFits, to_z, of_z}
use Rattle.hat_division.specs.Product.{rank_at, IsSmall}
use Rattle.hat_division.specs.declared.tables.TableRow.{TableRow}
use Rattle.hat_division.proofs.Factors.BigradedRows.{general, bidegree_up-before, small_under, end_found, end_none}
use Rattle.hat_division.proofs.Factors.BigradedTables.{bigraded_shape, bidegree_up, bidegree_up_IsStepUp, rank_at-ranks_of, quotient-is}
use Rattle.hat_division.proofs.Factors.QuotientSteps.{IsCandidateFor}
use Rattle.hat_division.proofs.Factors.RowSteps.{row_fails, row_kept, row_pushed, all_taken, candidate_under}
use Rattle.hat_division.proofs.quotients.divide_one.Goals.{then-above-row+in_ok-push, else-above-row}
use Rattle.hat_division.proofs.quotients.divide_one.Goals as goal

pub returns-then-row-above : goal.returns-then-row-above
returns-then-row-above c q h =
    let rows = c.args.rows.now in
    let n = c.loop-row.row-index in
    let none : TableRow = record { m = pos 0; a = pos 0; rank = 0 } in
    let row = get_or rows n none in
    row_fails bigraded_shape bidegree_up bidegree_up_IsStepUp c.args.rows.now
    (general c.args.rows.now c.requires.positive)
    bidegree_up-before n row c.loop-row-test.true (get_or_default rows n none row c.loop-row-test.true)
    c.loop-row.quotient.items c.loop-row.invariant c.rank_up-above.result
    (c.rank_up-above.ensures ∙ ap (λ xs. rank_at xs (row.m +ℤ pos 1) (row.a +ℤ pos 1)) c.as_slice.ensures.value
    ∙ rank_at-ranks_of c.loop-row.quotient.items (row.m +ℤ pos 1) (row.a +ℤ pos 1)) c.if-row-above.true q
    ((quotient-is 1 c.args.rows.now q).0 h)

pub loop-row-preserved : goal.loop-row-preserved
loop-row-preserved c =
    let rows = c.args.rows.now in
    let n = c.loop-row.row-index in
    let none : TableRow = record { m = pos 0; a = pos 0; rank = 0 } in
    let row = get_or rows n none in
    let item = get_or_default rows n none row c.loop-row-test.true in
    let now = c.loop-row.quotient.items in
    let above = c.rank_up-above.result in
    let fits_m : SFits w32 row.m = search rules in
    let fits_a : SFits w32 row.a = search rules in
    let positive = general rows c.requires.positive in
    let is = c.rank_up-above.ensures ∙ ap (λ xs. rank_at xs (row.m +ℤ pos 1) (row.a +ℤ pos 1)) c.as_slice.ensures.value
    ∙ rank_at-ranks_of now (row.m +ℤ pos 1) (row.a +ℤ pos 1) in
    let enough = c.if-row-above.false in
    let new : TableRow =
    record { m = to_z w32 (of_z w32 row.m); a = to_z w32 (of_z w32 row.a); rank = row.rank - above } in
    elim c.if-above-row.branch as (λ _.
    IsCandidateFor bigraded_shape bidegree_up rows (take (n + 1) rows) c.if-above-row.quotient.items) [
      | then-above-row+in_ok-push w ↦
          subst (λ xs. IsCandidateFor bigraded_shape bidegree_up rows (take (n + 1) rows) xs)
          (sym (ap (λ v. v.items) w.quotient-is ∙ w.in_ok-push.ensures.items))
          (row_pushed bigraded_shape bidegree_up bidegree_up_IsStepUp rows positive bidegree_up-before n row
          c.loop-row-test.true item now c.loop-row.invariant above is new
          (λ j. (to_z-of_z w32 row.m fits_m j, to_z-of_z w32 row.a fits_a j)) refl w.if-above-row.true)
      | else-above-row w ↦
          let less = w.if-above-row.false in
          subst (λ xs. IsCandidateFor bigraded_shape bidegree_up rows (take (n + 1) rows) xs)
          (sym (ap (λ v. v.items) w.quotient-is))
          (row_kept bigraded_shape bidegree_up bidegree_up_IsStepUp rows positive bidegree_up-before n row
          c.loop-row-test.true item now c.loop-row.invariant above is (omega arith) (omega arith))
    ]

pub have_lower-requires-clause-small : goal.have_lower-requires-clause-small
have_lower-requires-clause-small c =
    let rows = c.args.rows.now in
    let now = c.loop-row.quotient.items in
    let all = all_taken bigraded_shape bidegree_up bidegree_up_IsStepUp rows (general rows c.requires.positive)
    c.loop-row.row-index now c.loop-row.invariant c.loop-row-test.false in
    subst (λ xs. All IsSmall xs) (sym c.as_slice-2.ensures.value)
    (small_under rows now all.positive_so_far
    (candidate_under bigraded_shape bidegree_up bidegree_up_IsStepUp rows (general rows c.requires.positive) now all)
    c.requires.positive c.requires.small)

pub returns-then-have_lower : goal.returns-then-have_lower
returns-then-have_lower c =
    let rows = c.args.rows.now in
    let now = c.loop-row.quotient.items in
    end_found rows c.requires.positive now
    (all_taken bigraded_shape bidegree_up bidegree_up_IsStepUp rows (general rows c.requires.positive)
    c.loop-row.row-index now c.loop-row.invariant c.loop-row-test.false)
    (subst (λ xs. All (λ row. 1 ≤ rank_at rows (row.m -ℤ pos 1) (row.a -ℤ pos 1)) xs) c.as_slice-2.ensures.value
    (c.have_lower.ensures.0 c.if-have_lower.true))

pub returns-else-have_lower : goal.returns-else-have_lower
returns-else-have_lower c q h =
    let rows = c.args.rows.now in
    let now = c.loop-row.quotient.items in
    end_none rows c.requires.positive now
    (all_taken bigraded_shape bidegree_up bidegree_up_IsStepUp rows (general rows c.requires.positive)
    c.loop-row.row-index now c.loop-row.invariant c.loop-row-test.false)
    (λ all. false≢true (sym c.if-have_lower.false ∙ c.have_lower.ensures.1
    (subst (λ xs. All (λ row. 1 ≤ rank_at rows (row.m -ℤ pos 1) (row.a -ℤ pos 1)) xs)
    (sym c.as_slice-2.ensures.value) all))) q h
