-- One factor after another.
use Rattle.std.proofs.Common.{◌+◌, List, [], ◌∷◌, All, Vec, Global, sym, subst}
use Rattle.hat_division.specs.Factors.{copies}
use Rattle.hat_division.specs.MultiTable.{step_up, IsSmallByComponent, IsQuotientBy}
use Rattle.hat_division.specs.declared.multi_tables.MultiRow.{MultiRow}
use Rattle.hat_division.specs.Inner.Rows.{HasPlace}
use Rattle.hat_division.proofs.Multi.DividedRows.{general, quotient_small, quotient_place, answer_none, answer_some}
use Rattle.hat_division.proofs.Factors.RowSteps.{power_next, power_none}
use Rattle.hat_division.proofs.Multi.MultiTableLemmas.{multi_shape, step_up_IsStepUp, quotient_by-is}
use Rattle.hat_division.proofs.multi_quotients.divide_power.Goals as goal

pub divide_one-requires-clause-small : goal.divide_one-requires-clause-small
divide_one-requires-clause-small c =
    subst (λ xs. All IsSmallByComponent xs) (sym c.as_slice.ensures.value)
    (quotient_small (copies c.loop.counter (step_up c.args.i)) c.args.rows.items c.loop.left.items c.loop.invariant
    c.requires.small)

pub divide_one-requires-clause-place : goal.divide_one-requires-clause-place
divide_one-requires-clause-place c =
    subst (λ xs. All (HasPlace c.args.i) xs) (sym c.as_slice.ensures.value)
    (quotient_place (copies c.loop.counter (step_up c.args.i)) c.args.rows.items c.loop.left.items c.loop.invariant
    c.args.i c.requires.place)

pub returns-in_default : goal.returns-in_default
returns-in_default c q h =
    let one = step_up c.args.i ∷ [] in
    let none =
    answer_none ((r : List MultiRow) → IsQuotientBy one c.as_slice.result.now r → ⊥)
    (λ (v : Vec MultiRow Global). IsQuotientBy one c.as_slice.result.now v.items) c.in_ok-quotient.field-0
    c.in_default.is c.in_ok-quotient.ensures in
    let up = step_up c.args.i in
    let rows = c.args.rows.items in
    let left = c.loop.left.items in
    power_none multi_shape up (step_up_IsStepUp c.args.i) rows (general rows c.requires.positive)
    c.args.e c.loop.counter
    left c.loop-test.true ((quotient_by-is (copies c.loop.counter up) rows left).0 c.loop.invariant)
    (λ r hr. none r (subst (λ xs. IsQuotientBy one xs r) (sym c.as_slice.ensures.value)
    ((quotient_by-is one left r).1 hr))) q ((quotient_by-is (copies c.args.e up) rows q).0 h)

pub loop-preserved : goal.loop-preserved
loop-preserved c =
    let one = step_up c.args.i ∷ [] in
    let found =
    answer_some ((r : List MultiRow) → IsQuotientBy one c.as_slice.result.now r → ⊥)
    (λ (v : Vec MultiRow Global). IsQuotientBy one c.as_slice.result.now v.items) c.in_ok-quotient.field-0
    c.in-Some.quotient c.in-Some.is c.in_ok-quotient.ensures in
    let up = step_up c.args.i in
    let rows = c.args.rows.items in
    let left = c.loop.left.items in
    let new = c.in-Some.quotient.items in
    (quotient_by-is (copies (c.loop.counter + 1) up) rows new).1
    (power_next multi_shape up (step_up_IsStepUp c.args.i) rows (general rows c.requires.positive)
    c.loop.counter left new
    ((quotient_by-is (copies c.loop.counter up) rows left).0 c.loop.invariant)
    ((quotient_by-is one left new).0 (subst (λ xs. IsQuotientBy one xs new) c.as_slice.ensures.value found)))
