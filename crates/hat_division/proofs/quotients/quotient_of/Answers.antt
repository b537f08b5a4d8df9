-- One factor after another.
use Rattle.std.proofs.Common.{◌+◌, List, All, Vec, Global, sym, subst, ◌∙◌}
use Rattle.hat_division.specs.Product.{IsSmall, IsQuotient}
use Rattle.hat_division.specs.Inner.Products.{ArePositive}
use Rattle.hat_division.specs.Table.{IsTable}
use Rattle.hat_division.specs.declared.tables.TableRow.{TableRow}
use Rattle.hat_division.proofs.Factors.BigradedRows.{general, quotient_positive, quotient_start, quotient_under, small_under, table_under}
use Rattle.hat_division.proofs.Factors.BigradedTables.{bigraded_shape, bidegree_up, bidegree_up_IsStepUp, quotient-is}
use Rattle.hat_division.proofs.Factors.RowSteps.{power_next, power_none}
use Rattle.hat_division.proofs.Multi.DividedRows.{answer_none, answer_some}
use Rattle.hat_division.proofs.ProductLemmas.{ArePositive-table}
use Rattle.hat_division.proofs.quotients.quotient_of.Goals as goal

pub loop-init : goal.loop-init
loop-init c =
    let rows = c.args.t.now in
    let table = subst IsTable c.rows.ensures.rows c.rows.ensures.table in
    subst (IsQuotient 0 rows) (sym (c.in_ok-left.ensures ∙ c.rows.ensures.rows))
    (quotient_start rows (ArePositive-table rows table))

pub divide_one-requires-clause-positive : goal.divide_one-requires-clause-positive
divide_one-requires-clause-positive c =
    let left = c.loop.left.items in
    subst (λ xs. ArePositive xs) (sym c.as_slice.ensures.value)
    (quotient_positive c.loop.counter c.args.t.now left c.loop.invariant)

pub divide_one-requires-clause-small : goal.divide_one-requires-clause-small
divide_one-requires-clause-small c =
    let rows = c.args.t.now in
    let left = c.loop.left.items in
    let table = subst IsTable c.rows.ensures.rows c.rows.ensures.table in
    subst (λ xs. All IsSmall xs) (sym c.as_slice.ensures.value)
    (small_under rows left (general left (quotient_positive c.loop.counter rows left c.loop.invariant))
    (quotient_under c.loop.counter rows left c.loop.invariant) (ArePositive-table rows table) c.requires.small)

pub returns-in_default : goal.returns-in_default
returns-in_default c q h =
    let rows = c.args.t.now in
    let left = c.loop.left.items in
    let n = c.loop.counter in
    let k = c.args.k in
    let table = subst IsTable c.rows.ensures.rows c.rows.ensures.table in
    let none =
    answer_none ((r : List TableRow) → IsQuotient 1 c.as_slice.result.now r → ⊥)
    (λ (v : Vec TableRow Global). IsQuotient 1 c.as_slice.result.now v.items) c.in_ok-quotient.field-0 c.in_default.is
    c.in_ok-quotient.ensures in
    power_none bigraded_shape bidegree_up bidegree_up_IsStepUp rows
    (general rows (ArePositive-table rows table)) k n left
    c.loop-test.true ((quotient-is n rows left).0 c.loop.invariant)
    (λ r hr. none r (subst (λ xs. IsQuotient 1 xs r) (sym c.as_slice.ensures.value) ((quotient-is 1 left r).1 hr))) q
    ((quotient-is k rows q).0 h)

pub loop-preserved : goal.loop-preserved
loop-preserved c =
    let rows = c.args.t.now in
    let left = c.loop.left.items in
    let n = c.loop.counter in
    let new = c.in-Some.quotient.items in
    let table = subst IsTable c.rows.ensures.rows c.rows.ensures.table in
    let found =
    answer_some ((r : List TableRow) → IsQuotient 1 c.as_slice.result.now r → ⊥)
    (λ (v : Vec TableRow Global). IsQuotient 1 c.as_slice.result.now v.items) c.in_ok-quotient.field-0
    c.in-Some.quotient c.in-Some.is c.in_ok-quotient.ensures in
    (quotient-is (n + 1) rows new).1
    (power_next bigraded_shape bidegree_up bidegree_up_IsStepUp rows
    (general rows (ArePositive-table rows table)) n left new
    ((quotient-is n rows left).0 c.loop.invariant)
    ((quotient-is 1 left new).0 (subst (λ xs. IsQuotient 1 xs new) c.as_slice.ensures.value found)))

pub unwrap-requires : goal.unwrap-requires
unwrap-requires c =
    let rows = c.args.t.now in
    let left = c.loop.left.items in
    let table = subst IsTable c.rows.ensures.rows c.rows.ensures.table in
    c.of.ensures.accepted.1
    (table_under rows left (general left (quotient_positive c.loop.counter rows left c.loop.invariant))
    (quotient_under c.loop.counter rows left c.loop.invariant) (ArePositive-table rows table) table)
