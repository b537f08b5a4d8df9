-- The transposed grid has the same size.
use Rattle.std.proofs.Common.{ap, ◌∙◌, arith}
use Rattle.torus_geom.specs.Marks.{size}
use Rattle.torus_geom.proofs.TransposeLemmas.{length-transpose}
use Rattle.grid_moves.proofs.Exchanged.CommutesAgain.{are_commuting-swapped}
use Rattle.grid_moves.proofs.Exchanged.SwappedTwice.{swapped-swapped}
use Rattle.grid_moves.proofs.commutations.swap.Goals as goal

pub swapped_columns-requires-in-Rows : goal.swapped_columns-requires-in-Rows
swapped_columns-requires-in-Rows c = let same = ap size c.transpose.ensures ∙ length-transpose c.args.g.now.o in
    let below = c.requires.below in omega (arith, same)

pub returns-in-Cols-clause-twice : goal.returns-in-Cols-clause-twice
returns-in-Cols-clause-twice c = swapped-swapped c.args.axis c.args.g.now c.size.ensures.grid c.args.c c.requires.below

pub returns-in-Rows-clause-twice : goal.returns-in-Rows-clause-twice
returns-in-Rows-clause-twice c = swapped-swapped c.args.axis c.args.g.now c.size.ensures.grid c.args.c c.requires.below

pub returns-in-Cols-clause-commutes_again : goal.returns-in-Cols-clause-commutes_again
returns-in-Cols-clause-commutes_again c =
    are_commuting-swapped c.args.axis c.args.g.now c.size.ensures.grid c.args.c c.requires.below c.requires.commutes

pub returns-in-Rows-clause-commutes_again : goal.returns-in-Rows-clause-commutes_again
returns-in-Rows-clause-commutes_again c =
    are_commuting-swapped c.args.axis c.args.g.now c.size.ensures.grid c.args.c c.requires.below c.requires.commutes
