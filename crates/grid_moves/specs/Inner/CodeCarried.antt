-- Sets of codes carried along a map of states: turned with the grid, or transposed with it.
--     moved n f code          the index of f x, if `code` is the index of the state x of size n; a number that is the
--                             index of no state stays
--     carried n f z           the codes of z, each moved
--     turned_chain side n z   the indices of the turned states
--     transposed_chain n z    the indices of the transposed states
use Rattle.std.specs.Prelude.{ℕ, List, map, nat_lt, if◌then◌else◌}
use Rattle.f2_algebra.specs.Chain.{Chain, codes, of_codes}
use Rattle.state_rank.specs.States.{rank, unrank, factorial, transpose}
use Rattle.grid_moves.specs.Carried.{turned_state}
use Rattle.grid_moves.specs.declared.turns.Side.{Side}

abbrev pub moved : ℕ → (List ℕ → List ℕ) → ℕ → ℕ
moved n f code = if nat_lt code (factorial n) then rank (f (unrank n code)) else code

unfoldable pub carried : ℕ → (List ℕ → List ℕ) → Chain → Chain
carried n f z = of_codes (map (moved n f) (codes z))

abbrev pub turned_chain : Side → ℕ → Chain → Chain
turned_chain side n z = carried n (turned_state side) z

abbrev pub transposed_chain : ℕ → Chain → Chain
transposed_chain n z = carried n transpose z
