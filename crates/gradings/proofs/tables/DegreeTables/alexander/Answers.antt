-- The degree is found, and it is small.
use Rattle.std.proofs.Common.{pos, ◌+ℤ◌, arith}
use Rattle.std.proofs.lemmas.Int.{ints}
use Rattle.torus_geom.specs.Degrees.{alexander}
use Rattle.gradings.proofs.TableLemmas.{IsFound, alexander_found}
use Rattle.gradings.proofs.tables.DegreeTables.alexander.Goals as goal

found : (c : goal.After-table_sum)
    → IsFound (alexander c.args.self.now c.args.x.now) (c.self.inside.alexander_of_marks +ℤ pos c.table_sum.result)
found c =
    alexander_found c.self.inside c.self.invariant c.args.self.now c.self.view_is c.args.x.now c.rows.result.now
    c.rows.ensures.state c.requires.one_size c.rows.ensures.rows c.table_sum.result c.table_sum.ensures.value

pub overflow_add-result : goal.overflow_add-result
overflow_add-result c =
    let value = (found c).value in
    let low = (found c).small.low in
    let high = (found c).small.high in
    let sum = c.table_sum.ensures.high in
    omega (arith, ints)

pub returns-clause-degree : goal.returns-clause-degree
returns-clause-degree c =
    let value = (found c).value in
    let low = (found c).small.low in
    let high = (found c).small.high in
    let sum = c.table_sum.ensures.high in
    omega (arith, ints)

pub returns-clause-low : goal.returns-clause-low
returns-clause-low c =
    let value = (found c).value in
    let low = (found c).small.low in
    let high = (found c).small.high in
    let sum = c.table_sum.ensures.high in
    omega (arith, ints)

pub returns-clause-high : goal.returns-clause-high
returns-clause-high c =
    let value = (found c).value in
    let low = (found c).small.low in
    let high = (found c).small.high in
    let sum = c.table_sum.ensures.high in
    omega (arith, ints)
