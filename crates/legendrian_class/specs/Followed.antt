-- A grid and a chain of its states, which is followed through moves of the grid.
--     Followed            a grid and a chain
--     listed xs           the chain of the states of a list
--     at_start g          the grid g and the empty chain
--     after_turn side p   both turned by one column or row
--     after_commutation axis c corner p
--                         columns, or rows, c - 1 and c of the grid exchanged, and the image of the chain
--     chain_after_symmetry s p
--                         what the states of the chain become by the symmetry s; none after the mirror image
--     after_symmetry s p  the grid after the symmetry, and this chain
use Rattle.std.specs.Prelude.{ℕ, List}
use Rattle.std.specs.List.{list_any}
use Rattle.torus_geom.specs.Marks.{Marks, size}
use Rattle.torus_geom.specs.Rectangle.{is_same}
use Rattle.grid_moves.specs.Carried.{turned_chain}
use Rattle.grid_moves.specs.Moves.{swapped, turned}
use Rattle.grid_moves.specs.declared.commutations.Axis.{Axis}
use Rattle.grid_moves.specs.declared.turns.Side.{Side}
use Rattle.pentagon_map.specs.declared.Corner.{Corner}
use Rattle.grid_symmetry.specs.Symmetries.{symmetric, symmetric_chain}
use Rattle.grid_symmetry.specs.declared.symmetries.Symmetry.{Symmetry}
use Rattle.grid_symmetry.specs.declared.symmetries.Symmetry.TheVariants.{Mirror}
use Rattle.torus_geom.specs.Chains.{Chain, nothing}
use Rattle.pentagon_map.specs.Pentagon.{image}

pub record Followed : Type 0 where
  pub grid : Marks
  pub chain : Chain

abbrev pub listed : List (List ℕ) → Chain
listed xs = λ y. list_any (λ x. is_same x y) xs

abbrev pub at_start : Marks → Followed
at_start g = record { grid = g; chain = nothing }

abbrev pub after_turn : Side → Followed → Followed
after_turn side p = record { grid = turned side p.grid; chain = turned_chain side (size p.grid) p.chain }

abbrev pub after_commutation : Axis → ℕ → Corner → Followed → Followed
after_commutation axis c corner p = record { grid = swapped axis p.grid c; chain = image axis p.grid c corner p.chain }

-- no chain is followed across the mirror image
abbrev pub chain_after_symmetry : Symmetry → Followed → Chain
chain_after_symmetry Mirror p = nothing
chain_after_symmetry s p = symmetric_chain s (size p.grid) p.chain

abbrev pub after_symmetry : Symmetry → Followed → Followed
after_symmetry s p = record { grid = symmetric s p.grid; chain = chain_after_symmetry s p }
