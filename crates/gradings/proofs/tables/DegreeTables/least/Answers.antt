-- What is kept of the marks, with the columns added.
use Rattle.std.proofs.Common.{ap, subst, ◌∙◌, arith}
use Rattle.std.proofs.lemmas.Int.{ints}
use Rattle.torus_geom.specs.Marks.{size, IsGrid}
use Rattle.gradings.specs.Sums.{sum_before}
use Rattle.gradings.proofs.WeightLemmas.{IsLeast, least-kept, alexander-weights, rest_up_to}
use Rattle.gradings.proofs.tables.DegreeTables.least.Goals as goal

found : (c : goal.After-columns_below) → IsLeast c.args.self.now c.self.inside.alexander_of_marks c.columns_below.result
found c =
    least-kept c.self.inside c.self.invariant c.args.self.now c.self.view_is c.size.result c.columns_below.result
    (c.size.ensures.size ∙ ap size c.self.view_is) c.columns_below.ensures.high c.columns_below.ensures.value

pub overflow_add-result : goal.overflow_add-result
overflow_add-result c =
    let f = found c in
    let low = f.kept_low in
    let high = f.kept_high in
    let few = c.columns_below.ensures.high in
    omega (arith, ints)

pub returns-clause-value : goal.returns-clause-value
returns-clause-value c =
    let f = found c in
    let value = f.value in
    let low = f.low in
    let high = f.high in
    let few = c.columns_below.ensures.high in
    omega (arith, ints)

pub returns-clause-low : goal.returns-clause-low
returns-clause-low c =
    let f = found c in
    let value = f.value in
    let low = f.low in
    let high = f.high in
    let few = c.columns_below.ensures.high in
    omega (arith, ints)

pub returns-clause-high : goal.returns-clause-high
returns-clause-high c =
    let f = found c in
    let value = f.value in
    let low = f.low in
    let high = f.high in
    let few = c.columns_below.ensures.high in
    omega (arith, ints)

pub returns-clause-law : goal.returns-clause-law
returns-clause-law c = λ x s. alexander-weights c.args.self.now (subst IsGrid c.self.view_is c.self.invariant.grid) x s

pub returns-clause-sums : goal.returns-clause-sums
returns-clause-sums c = λ x s.
    let grid = subst IsGrid c.self.view_is c.self.invariant.grid in
    let few = rest_up_to c.args.self.now x 0 (sum_before c.args.self.now (size c.args.self.now) x) grid.is_size.greatest
    (omega arith) (omega (arith, ints)) in
    let low = few.0 in
    let high = few.1 in
    (omega (arith, ints), omega (arith, ints))
