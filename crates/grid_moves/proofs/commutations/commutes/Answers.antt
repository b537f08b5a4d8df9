-- The transposed grid has the same size.
use Rattle.std.proofs.Common.{ap, ◌∙◌, arith}
use Rattle.torus_geom.specs.Marks.{size}
use Rattle.torus_geom.proofs.TransposeLemmas.{length-transpose}
use Rattle.grid_moves.proofs.commutations.commutes.Goals as goal

pub are_commuting_columns-requires-in-Rows : goal.are_commuting_columns-requires-in-Rows
are_commuting_columns-requires-in-Rows c = let same = ap size c.transpose.ensures ∙ length-transpose c.args.g.now.o in
    omega (arith, same)
