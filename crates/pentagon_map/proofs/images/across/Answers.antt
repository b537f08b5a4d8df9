use Rattle.std.proofs.Common.{ap, ◌∙◌}
use Rattle.torus_geom.specs.Marks.{size}
use Rattle.grid_moves.proofs.Exchanged.TransposedGrids.{size-transposed}
use Rattle.pentagon_map.proofs.images.across.Goals as goal

pub returns-in-Rows-clause-size : goal.returns-in-Rows-clause-size
returns-in-Rows-clause-size c = ap size c.transpose.ensures ∙ size-transposed c.args.g.now
