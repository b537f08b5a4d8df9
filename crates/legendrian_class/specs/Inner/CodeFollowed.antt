-- A grid and a set of codes, which is followed through moves of the grid.
--     at_start g          the grid g and the empty set
--     after_turn side p   both turned by one column or row
--     after_commutation axis c corner p
--                         columns, or rows, c - 1 and c of the grid exchanged, and the image of the set
--     codes_after s n z   the indices of what the states of size n whose indices are in z become by the symmetry s;
--                         none after the mirror image
use Rattle.std.specs.Prelude.{ℕ}
use Rattle.f2_algebra.specs.Chain.{Chain, nothing}
use Rattle.torus_geom.specs.Marks.{Marks, size}
use Rattle.grid_moves.specs.Inner.CodeCarried.{carried, turned_chain}
use Rattle.grid_moves.specs.Moves.{swapped, turned}
use Rattle.grid_moves.specs.declared.commutations.Axis.{Axis}
use Rattle.grid_moves.specs.declared.turns.Side.{Side}
use Rattle.grid_symmetry.specs.Symmetries.{symmetric_state}
use Rattle.grid_symmetry.specs.declared.symmetries.Symmetry.{Symmetry}
use Rattle.grid_symmetry.specs.declared.symmetries.Symmetry.TheVariants.{Mirror}
use Rattle.pentagon_map.specs.Inner.CodeImages.{image}
use Rattle.pentagon_map.specs.declared.Corner.{Corner}
use Rattle.legendrian_class.specs.FollowedCodes.{FollowedCodes}

abbrev pub at_start : Marks → FollowedCodes
at_start g = record { grid = g; chain = nothing }

abbrev pub after_turn : Side → FollowedCodes → FollowedCodes
after_turn side p = record { grid = turned side p.grid; chain = turned_chain side (size p.grid) p.chain }

abbrev pub after_commutation : Axis → ℕ → Corner → FollowedCodes → FollowedCodes
after_commutation axis c corner p = record { grid = swapped axis p.grid c; chain = image axis p.grid c corner p.chain }

abbrev pub codes_after : Symmetry → ℕ → Chain → Chain
codes_after Mirror n z = nothing
codes_after s n z = carried n (symmetric_state s) z
