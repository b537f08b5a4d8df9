-- The degree is found, and it is small.
use Rattle.std.proofs.Common.{pos, ◌+ℤ◌, ◌-ℤ◌, ◌*ℤ◌, length, ap, arith}
use Rattle.std.proofs.lemmas.Int.{ints}
use Rattle.torus_geom.specs.Degrees.{maslov_o}
use Rattle.gradings.proofs.TableLemmas.{IsFound, maslov_found}
use Rattle.gradings.proofs.tables.DegreeTables.maslov.Goals as goal

found : (c : goal.After-pairs)
    → IsFound (maslov_o c.args.self.now c.args.x.now)
    (c.self.inside.maslov_of_marks +ℤ c.pairs.result -ℤ pos 2 *ℤ pos c.table_sum-o_below.result)
found c =
    maslov_found c.self.inside c.self.invariant c.args.self.now c.self.view_is c.args.x.now c.rows-points.result.now
    c.rows-points.ensures.state c.requires.one_size c.rows-points.ensures.rows c.table_sum-o_below.result
    c.table_sum-o_below.ensures.value c.pairs.result c.pairs.ensures.value

pub overflow_add-result : goal.overflow_add-result
overflow_add-result c =
    let value = (found c).value in
    let low = (found c).small.low in
    let high = (found c).small.high in
    let sum = c.table_sum-o_below.ensures.high in
    let room = c.rows-points.ensures.state.size.greatest in
    let points = ap length c.rows-points.ensures.rows in
    let count_low = c.pairs.ensures.low in
    let count_high = c.pairs.ensures.high in
    omega (arith, ints)

pub overflow_sub-result : goal.overflow_sub-result
overflow_sub-result c =
    let value = (found c).value in
    let low = (found c).small.low in
    let high = (found c).small.high in
    let sum = c.table_sum-o_below.ensures.high in
    let room = c.rows-points.ensures.state.size.greatest in
    let points = ap length c.rows-points.ensures.rows in
    let count_low = c.pairs.ensures.low in
    let count_high = c.pairs.ensures.high in
    omega (arith, ints)

pub returns-clause-degree : goal.returns-clause-degree
returns-clause-degree c =
    let value = (found c).value in
    let low = (found c).small.low in
    let high = (found c).small.high in
    let sum = c.table_sum-o_below.ensures.high in
    let room = c.rows-points.ensures.state.size.greatest in
    let points = ap length c.rows-points.ensures.rows in
    let count_low = c.pairs.ensures.low in
    let count_high = c.pairs.ensures.high in
    omega (arith, ints)

pub returns-clause-low : goal.returns-clause-low
returns-clause-low c =
    let value = (found c).value in
    let low = (found c).small.low in
    let high = (found c).small.high in
    let sum = c.table_sum-o_below.ensures.high in
    let room = c.rows-points.ensures.state.size.greatest in
    let points = ap length c.rows-points.ensures.rows in
    let count_low = c.pairs.ensures.low in
    let count_high = c.pairs.ensures.high in
    omega (arith, ints)

pub returns-clause-high : goal.returns-clause-high
returns-clause-high c =
    let value = (found c).value in
    let low = (found c).small.low in
    let high = (found c).small.high in
    let sum = c.table_sum-o_below.ensures.high in
    let room = c.rows-points.ensures.state.size.greatest in
    let points = ap length c.rows-points.ensures.rows in
    let count_low = c.pairs.ensures.low in
    let count_high = c.pairs.ensures.high in
    omega (arith, ints)
