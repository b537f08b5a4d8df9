-- The laws hold of the grid, whatever the symmetry.
use Rattle.std.proofs.Common.{ap, ◌∙◌}
use Rattle.torus_geom.specs.Marks.{size}
use Rattle.grid_symmetry.proofs.StateLaws.{components-symmetric, rank-exchanged, rank-mirror, size-symmetric, symmetric-symmetric, table-half_turned, table-transposed}
use Rattle.grid_symmetry.proofs.symmetries.apply.Goals as goal

pub returns-clause-size : goal.returns-clause-size
returns-clause-size c = ap size c.symmetric_grid.ensures ∙ size-symmetric c.args.s c.args.g.now c.size.ensures.grid

pub returns-clause-twice : goal.returns-clause-twice
returns-clause-twice c = symmetric-symmetric c.args.s c.args.g.now c.size.ensures.grid

pub returns-clause-keeps_components : goal.returns-clause-keeps_components
returns-clause-keeps_components c = components-symmetric c.args.s c.args.g.now c.size.ensures.grid

pub returns-clause-flip_table : goal.returns-clause-flip_table
returns-clause-flip_table c = table-transposed c.args.g.now c.size.ensures.grid

pub returns-clause-half_table : goal.returns-clause-half_table
returns-clause-half_table c = table-half_turned c.args.g.now c.size.ensures.grid

pub returns-clause-mirror_ranks : goal.returns-clause-mirror_ranks
returns-clause-mirror_ranks c = rank-mirror c.args.g.now c.size.ensures.grid

pub returns-clause-marks_ranks : goal.returns-clause-marks_ranks
returns-clause-marks_ranks c = rank-exchanged c.args.g.now c.size.ensures.grid
