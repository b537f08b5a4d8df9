use Rattle.std.proofs.Common.{◌∙◌, arith}
use Rattle.std.proofs.lemmas.Int.{ints}
use Rattle.torus_geom.proofs.Sums.RunningSums.{IsSum-more, IsSum-all}
use Rattle.front_data.proofs.FrontLemmas.{doubled_rotation-sum, two-rotation}
use Rattle.front_data.proofs.fronts.doubled_rotation.Goals as goal

pub loop-c-preserved : goal.loop-c-preserved
loop-c-preserved c =
    let term = c.doubled_rotation_at-sum.ensures in
    IsSum-more _ _ _ _ _ _ c.loop-c.invariant term.value term.low term.high (omega (arith, ints))

pub returns-clause-value : goal.returns-clause-value
returns-clause-value c = IsSum-all _ _ _ _ _ c.loop-c.invariant (omega arith) ∙ doubled_rotation-sum c.args.g.now

pub returns-clause-whole : goal.returns-clause-whole
returns-clause-whole c = two-rotation c.args.g.now c.size-c-end.ensures.grid
