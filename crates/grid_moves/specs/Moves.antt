-- Moves of a grid diagram that keep its link (Ozsváth, Stipsicz and Szabó, "Grid Homology for Knots and
-- Links", chapters 3 and 5): cyclic turns, and the exchange of two neighbouring columns or rows that
-- commute. Columns n - 1 and 0 are neighbours, across the seam of the torus, and so are rows n - 1 and 0.
--     source_column side n c      the column whose marks come to column c in a turn
--     moved_row side n r          the row that row r becomes in a turn
--     turned_rows side n rows     a list of rows, one for each column, after a turn
--     turned side g               the grid after a turn by one column or row
--     is_marked_row g c r         column c has a mark in row r
--     are_commuting_columns g c   columns c - 1 and c commute
--     swapped_columns g c         the grid with columns c - 1 and c exchanged
--     are_commuting axis g c      columns, or rows, c - 1 and c commute
--     swapped axis g c            the grid with these columns, or rows, exchanged
use Rattle.std.specs.Prelude.{ℕ, Bool, ◌&&◌, ◌||◌, not, List, slice_index, swap, ◌==◌}
use Rattle.state_rank.specs.Bijection.{tabulate}
use Rattle.torus_geom.specs.Marks.{Marks, size}
use Rattle.torus_geom.specs.Transposed.{transposed}
use Rattle.torus_geom.specs.Range.{in_range}
use Rattle.torus_geom.specs.Range.{one_up, one_down}
use Rattle.grid_moves.specs.declared.turns.Side.{Side}
use Rattle.grid_moves.specs.declared.turns.Side.TheVariants.{Left, Right, Up, Down}
use Rattle.grid_moves.specs.declared.commutations.Axis.{Axis}
use Rattle.grid_moves.specs.declared.commutations.Axis.TheVariants.{Cols, Rows}

-- the column whose marks come to column c: to the left the next one, to the right the one before
abbrev pub source_column : Side → ℕ → ℕ → ℕ
source_column Left n c = one_up n c
source_column Right n c = one_down n c
source_column Up n c = c
source_column Down n c = c

-- the row that row r becomes: up it is one higher, down one lower
abbrev pub moved_row : Side → ℕ → ℕ → ℕ
moved_row Left n r = r
moved_row Right n r = r
moved_row Up n r = one_up n r
moved_row Down n r = one_down n r

abbrev pub turned_rows : Side → ℕ → List ℕ → List ℕ
turned_rows side n rows = tabulate n (λ c. moved_row side n (slice_index rows (source_column side n c)))

abbrev pub turned : Side → Marks → Marks
turned side g = record { o = turned_rows side (size g) g.o; x = turned_rows side (size g) g.x }

-- row r has a mark in column c
abbrev pub is_marked_row : Marks → ℕ → ℕ → Bool
is_marked_row g c r = (r == slice_index g.o c) || (r == slice_index g.x c)

-- Their four marks are in four different rows, and going round the circle of rows the marks of the one
-- column do not separate those of the other: of the marks of column c, both or none are in the range
-- from the O of column c - 1 up to its X.
abbrev pub are_commuting_columns : Marks → ℕ → Bool
are_commuting_columns g c =
    (not (is_marked_row g b (slice_index g.o c)) && not (is_marked_row g b (slice_index g.x c)))
    && is_same_test (is_between (slice_index g.o c)) (is_between (slice_index g.x c))
  where
    b : ℕ
    b = one_down (size g) c

    is_between : ℕ → Bool
    is_between r = in_range (size g) (slice_index g.o b) (slice_index g.x b) r

    is_same_test : Bool → Bool → Bool
    is_same_test p q = (p && q) || (not p && not q)

abbrev pub swapped_columns : Marks → ℕ → Marks
swapped_columns g c = record { o = swap g.o (one_down (size g) c) c; x = swap g.x (one_down (size g) c) c }

abbrev pub are_commuting : Axis → Marks → ℕ → Bool
are_commuting Cols g c = are_commuting_columns g c
are_commuting Rows g c = are_commuting_columns (transposed g) c

abbrev pub swapped : Axis → Marks → ℕ → Marks
swapped Cols g c = swapped_columns g c
swapped Rows g c = transposed (swapped_columns (transposed g) c)
