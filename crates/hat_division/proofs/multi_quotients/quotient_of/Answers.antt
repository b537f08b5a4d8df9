-- One component after another.
use Rattle.std.proofs.Common.{List, length, slice_index, Vec, Global, refl, subst}
use Rattle.hat_division.specs.Factors.{copies}
use Rattle.hat_division.specs.MultiTable.{steps_below, step_up, IsMultiTable, IsQuotientBy}
use Rattle.hat_division.specs.declared.multi_tables.MultiRow.{MultiRow}
use Rattle.hat_division.proofs.Multi.DividedRows.{quotient_small, quotient_place, quotient_table, component_next, component_none, table_positive, length_place, answer_none, answer_some}
use Rattle.hat_division.proofs.multi_quotients.quotient_of.Goals as goal

pub divide_power-requires-clause-small : goal.divide_power-requires-clause-small
divide_power-requires-clause-small c =
    quotient_small (steps_below c.args.exps.now c.loop-i.i) c.args.t.now c.loop-i.left.items c.loop-i.invariant
    c.requires.small

pub divide_power-requires-clause-place : goal.divide_power-requires-clause-place
divide_power-requires-clause-place c =
    quotient_place (steps_below c.args.exps.now c.loop-i.i) c.args.t.now c.loop-i.left.items c.loop-i.invariant
    c.loop-i.i
    (length_place (length c.args.exps.now) c.loop-i.i c.args.t.now c.loop-i-test.true c.requires.lengths)

pub returns-in_default : goal.returns-in_default
returns-in_default c q h =
    let i = c.loop-i.i in
    let e = slice_index c.args.exps.now i in
    let ups = copies e (step_up i) in
    let left = c.loop-i.left.items in
    let table = subst IsMultiTable c.rows.ensures.rows c.rows.ensures.table in
    let none =
    answer_none ((r : List MultiRow) → IsQuotientBy ups left r → ⊥)
    (λ (v : Vec MultiRow Global). IsQuotientBy ups left v.items) c.in_ok-quotient.field-0 c.in_default.is
    c.in_ok-quotient.ensures in
    component_none c.args.exps.now c.args.t.now (table_positive c.args.t.now table) i e left c.loop-i-test.true refl
    c.loop-i.invariant none q h

pub loop-i-preserved : goal.loop-i-preserved
loop-i-preserved c =
    let i = c.loop-i.i in
    let e = slice_index c.args.exps.now i in
    let ups = copies e (step_up i) in
    let left = c.loop-i.left.items in
    let table = subst IsMultiTable c.rows.ensures.rows c.rows.ensures.table in
    let found =
    answer_some ((r : List MultiRow) → IsQuotientBy ups left r → ⊥)
    (λ (v : Vec MultiRow Global). IsQuotientBy ups left v.items) c.in_ok-quotient.field-0 c.in-Some.quotient
    c.in-Some.is c.in_ok-quotient.ensures in
    component_next c.args.exps.now c.args.t.now (table_positive c.args.t.now table) i e left c.in-Some.quotient.items
    refl c.loop-i.invariant found

pub unwrap-requires : goal.unwrap-requires
unwrap-requires c =
    let table = subst IsMultiTable c.rows.ensures.rows c.rows.ensures.table in
    c.of.ensures.accepted.1
    (quotient_table (steps_below c.args.exps.now c.loop-i.i) c.args.t.now c.loop-i.left.items c.loop-i.invariant table)
