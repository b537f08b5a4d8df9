use Rattle.std.proofs.Common.{◌≡◌, arith}
use Rattle.std.proofs.lemmas.Int.{ints}
use Rattle.torus_geom.specs.Degrees.{alexander}
use Rattle.gradings.proofs.DegreeReads.{AreDegrees, are_degrees}
use Rattle.gradings.proofs.degrees.degree.Goals as goal

found : (c : goal.After-half) → AreDegrees c.args.g.now c.args.x.now c.maslov-by_o.result c.maslov-by_x.result
found c =
    let by_o = c.maslov-by_o.ensures in
    let by_x = c.maslov-by_x.ensures in
    let size_is = c.size.ensures.size in
    let few = c.size.type_inv in
    are_degrees _ _ _ _ _ _ _ 300 c.components.result c.size.ensures.grid c.rows-points.ensures.state
    c.requires.one_size c.o_rows.ensures.rows c.x_rows.ensures.rows c.rows-points.ensures.rows by_o.degree by_x.degree
    (omega arith) (by_o.low, by_o.high) (by_x.low, by_x.high) c.components.ensures.number c.components.type_inv
    (omega arith)

half_found : (c : goal.After-half) → c.half.result ≡ alexander c.args.g.now c.args.x.now
half_found c =
    let is_o = (found c).is_o in
    let is_x = (found c).is_x in
    let whole = (found c).whole in
    c.half.ensures (alexander c.args.g.now c.args.x.now) (omega (arith, ints))

pub overflow_sub-by_o-2 : goal.overflow_sub-by_o-2
overflow_sub-by_o-2 c = omega (arith, ints)

pub returns-clause-maslov : goal.returns-clause-maslov
returns-clause-maslov c = let is_o = (found c).is_o in omega (arith, ints)

pub returns-clause-alexander : goal.returns-clause-alexander
returns-clause-alexander c = let half = half_found c in omega (arith, ints)

pub returns-clause-whole : goal.returns-clause-whole
returns-clause-whole c = (found c).whole

pub returns-clause-low : goal.returns-clause-low
returns-clause-low c = let half = half_found c in let low = (found c).small.low in
    (omega (arith, ints), omega (arith, ints))

pub returns-clause-high : goal.returns-clause-high
returns-clause-high c = let half = half_found c in let high = (found c).small.high in
    (omega (arith, ints), omega (arith, ints))
