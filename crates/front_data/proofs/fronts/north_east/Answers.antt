use Rattle.std.proofs.Common.{◌∙◌, arith}
use Rattle.std.proofs.lemmas.Int.{ints}
use Rattle.torus_geom.proofs.Sums.RunningSums.{IsSum-more, IsSum-all}
use Rattle.front_data.proofs.FrontLemmas.{north_east-sum, north_east-south_west}
use Rattle.front_data.proofs.fronts.north_east.Goals as goal

pub loop-c-preserved : goal.loop-c-preserved
loop-c-preserved c =
    let term = c.north_east_at-sum.ensures in
    IsSum-more _ _ _ _ _ _ c.loop-c.invariant term.value term.low term.high (omega (arith, ints))

pub returns-clause-value : goal.returns-clause-value
returns-clause-value c = IsSum-all _ _ _ _ _ c.loop-c.invariant (omega arith) ∙ north_east-sum c.args.g.now

pub returns-clause-corners : goal.returns-clause-corners
returns-clause-corners c = north_east-south_west c.args.g.now c.size-c-end.ensures.grid
