use Rattle.std.proofs.Common.{arith}
use Rattle.std.proofs.lemmas.Int.{ints}
use Rattle.torus_geom.specs.Front.{writhe}
use Rattle.torus_geom.proofs.Sums.RunningSums.{IsSum-more, IsSum-all}
use Rattle.front_data.proofs.fronts.writhe.Goals as goal

pub loop-c-preserved : goal.loop-c-preserved
loop-c-preserved c =
    let term = c.writhe_of_column-sum.ensures in
    let small = c.size-c-end.ensures.grid.is_size.greatest in
    IsSum-more _ _ _ _ _ _ c.loop-c.invariant term.value (omega (arith, ints)) (omega (arith, ints))
    (omega (arith, ints))

pub returns-clause-value : goal.returns-clause-value
unfolding writhe
returns-clause-value c = IsSum-all _ _ _ _ _ c.loop-c.invariant (omega arith)
