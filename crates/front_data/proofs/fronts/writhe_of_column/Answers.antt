use Rattle.std.proofs.Common.{arith}
use Rattle.std.proofs.lemmas.Int.{ints}
use Rattle.torus_geom.proofs.Sums.RunningSums.{IsSum-more}
use Rattle.front_data.proofs.fronts.writhe_of_column.Goals as goal

pub loop-r-preserved : goal.loop-r-preserved
loop-r-preserved c =
    let term = c.sign-sum.ensures in
    IsSum-more _ _ _ _ _ _ c.loop-r.invariant term.value term.low term.high (omega (arith, ints))
