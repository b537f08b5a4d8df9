-- The laws hold of each grid and each chain, whatever the symmetry.
use Rattle.std.proofs.Common.{length, ap, ◌∙◌}
use Rattle.pentagon_map.proofs.FrontStates.ByAxis.{plus_state-transposed}
use Rattle.grid_symmetry.proofs.FrontStates.{minus_state-half_turned, plus_state-half_turned}
use Rattle.grid_symmetry.proofs.StateLaws.{IsBijection-symmetric_state, border-mirror, border-symmetric, symmetric_state-symmetric_state}
use Rattle.grid_symmetry.proofs.symmetries.apply_state.Goals as goal

pub returns-clause-size : goal.returns-clause-size
returns-clause-size c =
    ap length c.symmetric_points.ensures
    ∙ (IsBijection-symmetric_state c.args.s (length c.args.x.now) c.args.x.now c.size.ensures.state.bijection).long

pub returns-clause-twice : goal.returns-clause-twice
returns-clause-twice c =
    symmetric_state-symmetric_state c.args.s (length c.args.x.now) c.args.x.now c.size.ensures.state.bijection

pub returns-clause-carries_border : goal.returns-clause-carries_border
returns-clause-carries_border c = border-symmetric c.args.s

pub returns-clause-mirror_border : goal.returns-clause-mirror_border
returns-clause-mirror_border c = border-mirror

pub returns-clause-flip_plus : goal.returns-clause-flip_plus
returns-clause-flip_plus c = plus_state-transposed

pub returns-clause-half_plus : goal.returns-clause-half_plus
returns-clause-half_plus c = plus_state-half_turned

pub returns-clause-half_minus : goal.returns-clause-half_minus
returns-clause-half_minus c = minus_state-half_turned
