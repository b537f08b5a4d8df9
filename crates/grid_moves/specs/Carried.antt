-- Chains carried with a grid that is turned or transposed.
--     turned_state side x     the state x after a turn of the grid: its points move with the squares
--     turned_chain side n z   the turned states of the states in z, of size n
--     transposed_chain n z    the transposed ones
--     target_column side n c  the column to which the marks of column c come
--     turned_place axis side n c  where columns, or rows, c - 1 and c come
use Rattle.std.specs.Prelude.{ℕ, List, length}
use Rattle.state_rank.specs.States.{transpose}
use Rattle.torus_geom.specs.Chains.{Chain, carried}
use Rattle.torus_geom.specs.Range.{one_up, one_down}
use Rattle.grid_moves.specs.declared.turns.Side.{Side}
use Rattle.grid_moves.specs.declared.turns.Side.TheVariants.{Left, Right, Up, Down}
use Rattle.grid_moves.specs.declared.commutations.Axis.{Axis}
use Rattle.grid_moves.specs.declared.commutations.Axis.TheVariants.{Cols, Rows}
use Rattle.grid_moves.specs.Moves.{turned_rows, moved_row}

-- a point goes with the circle left of it and the circle below it, as the mark up and right of it does
abbrev pub turned_state : Side → List ℕ → List ℕ
turned_state side x = turned_rows side (length x) x

abbrev pub turned_chain : Side → ℕ → Chain → Chain
turned_chain side n z = carried n (turned_state side) z

abbrev pub transposed_chain : ℕ → Chain → Chain
transposed_chain n z = carried n transpose z

abbrev pub target_column : Side → ℕ → ℕ → ℕ
target_column Left n c = one_down n c
target_column Right n c = one_up n c
target_column Up n c = c
target_column Down n c = c

abbrev pub turned_place : Axis → Side → ℕ → ℕ → ℕ
turned_place Cols side n c = target_column side n c
turned_place Rows side n c = moved_row side n c
