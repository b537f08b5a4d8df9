-- The row is put before the first that does not stand before it.
use Rattle.std.proofs.Common.{◌≡◌, ◌<◌, ◌≤◌, ℕ, true, false, length, get_or, List, refl, sym, ap, subst, ◌∙◌, arith}
use Rattle.std.specs.List.{insert}
use Rattle.std.proofs.lemmas.Bool.{false≢true}
use Rattle.std.proofs.lemmas.List.{get_or_default}
use Rattle.std.proofs.lemmas.Int.{to_z-of_z}
use mir.Syntax.{w32}
use mir.Val.{to_z, of_z}
use Rattle.hat_division.specs.DegreeLists.{stands_before_by_component}
use Rattle.hat_division.specs.MultiTable.{degrees_of, IsCounted}
use Rattle.hat_division.specs.declared.multi_tables.MultiRow.{MultiRow}
use Rattle.hat_division.proofs.Multi.DegreeListLemmas.{same_multidegree-is}
use Rattle.hat_division.proofs.Multi.CellCounts.{counted_raised, counted_inserted}
use Rattle.hat_division.proofs.counts.count_cell.Goals.{else-place-len-via-then-place-len+else-stands_at, else-place-len-via-else-place-len}
use Rattle.hat_division.proofs.counts.count_cell.Goals as goal

pub returns-then-stands_at-clause-counted : goal.returns-then-stands_at-clause-counted
returns-then-stands_at-clause-counted c =
    let old = c.args.rows.now.items in
    let place = c.place_of-place.result in
    let found = c.index-then-stands_at.result.now in
    let m = c.args.m in
    let d = c.args.d in
    let word = to_z-of_z w32 m c.ranges.m in
    let within : place < length old = omega arith in
    let same : c.index.result.now ≡ found =
    c.index.ensures ∙ get_or_default old place c.index.result.now found within ∙ sym c.index-then-stands_at.ensures in
    let at : degrees_of c.index.result.now ≡ (to_z w32 (of_z w32 m), d) =
    (same_multidegree-is (degrees_of c.index.result.now) (to_z w32 (of_z w32 m), d)).0
    (sym c.stands_at.ensures ∙ c.if-stands_at.true) in
    counted_raised old place found _ (m, d) c.requires.positive within c.index-then-stands_at.ensures
    (sym (ap degrees_of same) ∙ at ∙ (λ j. (word j, d))) (λ j. (word j, d)) refl

pub returns-clause-counted : goal.returns-clause-counted
returns-clause-counted c =
    let old = c.args.rows.now.items in
    let place = c.place_of-place.result in
    let m = c.args.m in
    let d = c.args.d in
    let word = to_z-of_z w32 m c.ranges.m in
    let new : MultiRow = record { m = to_z w32 (of_z w32 m); d = d; rank = 1 } in
    let within : place ≤ length old = omega arith in
    let before : (k : ℕ) (e : MultiRow) → k < place
    → stands_before_by_component (degrees_of (get_or old k e)) (degrees_of new) ≡ true =
    λ k e l. subst (λ (xs : List MultiRow). stands_before_by_component (degrees_of (get_or xs k e)) (degrees_of new)
    ≡ true)
    c.as_slice.ensures.value (c.place_of-place.ensures.before k e l) in
    let rest : (e : MultiRow) → place < length old
    → stands_before_by_component (degrees_of (get_or old place e)) (degrees_of new) ≡ false =
    λ e l. subst (λ (xs : List MultiRow). place < length xs
    → stands_before_by_component (degrees_of (get_or xs place e)) (degrees_of new) ≡ false) c.as_slice.ensures.value
    (c.place_of-place.ensures.rest e) l in
    subst (λ xs. IsCounted (m, d) old xs) (sym c.in_ok-insert.ensures.items)
    (elim c.else-place-len.branch as (λ _. IsCounted (m, d) old (insert old place new)) [
      | else-place-len-via-then-place-len+else-stands_at w ↦
          counted_inserted old place new (m, d) c.requires.positive (λ j. (word j, d)) refl within before rest
          (λ e l same. false≢true (sym (sym w.stands_at.ensures ∙ w.if-stands_at.false)
          ∙ (same_multidegree-is (degrees_of w.index.result.now) (to_z w32 (of_z w32 m), d)).1
          (ap degrees_of (w.index.ensures ∙ get_or_default old place w.index.result.now e l) ∙ same)))
      | else-place-len-via-else-place-len w ↦
          let past = w.if-place-len.false in
          counted_inserted old place new (m, d) c.requires.positive (λ j. (word j, d)) refl within before rest
          (λ e l. absurd (omega arith))
    ])
