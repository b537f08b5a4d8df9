-- Symmetries of a grid diagram, and what becomes of its states and chains (Ozsváth, Stipsicz and Szabó, "Grid Homology
-- for Knots and Links", chapters 3, 5 and 11). Marks are in squares, and points of states on circles, so that circle c
-- is on the left of column c.
--     opposite n c            the circle - c, mod n
--     reflected g             the grid with its columns in the order from right to left
--     reflected_state x       the state x on the circles of the reflected grid
--     half_turned g           the grid turned by half, about its middle
--     half_turned_state x     the state x on the circles of that grid
--     marks_exchanged g       O and X change names; states stay
--     symmetric s g           the grid after the symmetry s
--     symmetric_state s x     the state that x becomes
--     symmetric_chain s n z   the states that those of z, of size n, become
use Rattle.std.specs.Prelude.{ℕ, ◌-◌, ◌%◌, List, length, slice_index}
use Rattle.state_rank.specs.Bijection.{tabulate}
use Rattle.state_rank.specs.States.{transpose}
use Rattle.torus_geom.specs.Chains.{Chain, carried}
use Rattle.torus_geom.specs.Marks.{Marks}
use Rattle.torus_geom.specs.Transposed.{transposed}
use Rattle.grid_symmetry.specs.declared.symmetries.Symmetry.{Symmetry}
use Rattle.grid_symmetry.specs.declared.symmetries.Symmetry.TheVariants.{Flip, Half, Mirror, Marks as ExchangeMarks}

abbrev pub opposite : ℕ → ℕ → ℕ
opposite n c = (n - c) % n

abbrev pub reflected_rows : List ℕ → List ℕ
reflected_rows o = tabulate (length o) (λ c. slice_index o (length o - 1 - c))

abbrev pub reflected : Marks → Marks
reflected g = record { o = reflected_rows g.o; x = reflected_rows g.x }

abbrev pub reflected_state : List ℕ → List ℕ
reflected_state x = tabulate (length x) (λ c. slice_index x (opposite (length x) c))

abbrev pub half_turned_rows : List ℕ → List ℕ
half_turned_rows o = tabulate (length o) (λ c. length o - 1 - slice_index o (length o - 1 - c))

abbrev pub half_turned : Marks → Marks
half_turned g = record { o = half_turned_rows g.o; x = half_turned_rows g.x }

abbrev pub half_turned_state : List ℕ → List ℕ
half_turned_state x = tabulate (length x) (λ c. opposite (length x) (slice_index x (opposite (length x) c)))

abbrev pub marks_exchanged : Marks → Marks
marks_exchanged g = record { o = g.x; x = g.o }

abbrev pub symmetric : Symmetry → Marks → Marks
symmetric Flip g = transposed g
symmetric Half g = half_turned g
symmetric Mirror g = reflected g
symmetric ExchangeMarks g = marks_exchanged g

abbrev pub symmetric_state : Symmetry → List ℕ → List ℕ
symmetric_state Flip x = transpose x
symmetric_state Half x = half_turned_state x
symmetric_state Mirror x = reflected_state x
symmetric_state ExchangeMarks x = x

abbrev pub symmetric_chain : Symmetry → ℕ → Chain → Chain
symmetric_chain s n z = carried n (symmetric_state s) z
