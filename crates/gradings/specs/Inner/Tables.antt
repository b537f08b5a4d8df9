-- The tables by which the degrees of the states of a grid are found, and what holds of them.
--     left_below n marks c r     how many of n marks are left of column c and below row r
--     pairs_of n rows            the pairs of columns c < d whose rows are in order too
--     weight n o x c r           how many X are left of column c and below row r less how many O, and MAX_SIZE more
--     entry table c r            the entry of a table at column c and row r
--     half_of_marks g            what the marks and the number of components give to the Alexander degree
--     IsTables t                 how the tables of a grid are kept
use Rattle.std.specs.Prelude.{◌≡◌, ℕ, ◌*◌, ◌<◌, ◌&&◌, nat_lt, List, [], slice_index, slice_index_or, ℤ, pos, ◌+ℤ◌, ◌-ℤ◌, int_div}
use Rattle.state_rank.specs.declared.TheConstants.{MAX_SIZE}
use Rattle.torus_geom.specs.Counts.{sum_below, count_below}
use Rattle.torus_geom.specs.Marks.{Marks, size, IsGrid}
use Rattle.torus_geom.specs.Components.{components}
use Rattle.gradings.specs.declared.tables.DegreeTables.TheInside.{Inside}

abbrev pub left_below : ℕ → List ℕ → ℕ → ℕ → ℤ
left_below n marks c r = count_below n (λ d. nat_lt d c && nat_lt (slice_index marks d) r)

abbrev pub pairs_of : ℕ → List ℕ → ℤ
pairs_of n rows = sum_below n (λ d. left_below n rows d (slice_index rows d))

abbrev pub weight : ℕ → List ℕ → List ℕ → ℕ → ℕ → ℤ
weight n o x c r = pos MAX_SIZE +ℤ (left_below n x c r -ℤ left_below n o c r)

abbrev pub entry : List (List ℕ) → ℕ → ℕ → ℕ
entry table c r = slice_index (slice_index_or table c []) r

-- half of what the marks and the number of components give to the Alexander degree, which is even
abbrev pub half_of_marks : Marks → ℤ
half_of_marks g =
    int_div (pairs_of (size g) g.o -ℤ pairs_of (size g) g.x -ℤ (pos (size g) -ℤ pos (components g))) (pos 2)

pub record IsTables (t : Inside) : Type 0 where
  pub grid : IsGrid t.grid
  pub o_below : (c r : ℕ) → c < size t.grid → r < MAX_SIZE
      → pos (entry t.o_below c r) ≡ left_below (size t.grid) t.grid.o c r
  pub weights : (c r : ℕ) → c < size t.grid → r < MAX_SIZE
      → pos (entry t.weights c r) ≡ weight (size t.grid) t.grid.o t.grid.x c r
  pub maslov_of_marks : t.maslov_of_marks ≡ pairs_of (size t.grid) t.grid.o +ℤ pos 1 -ℤ pos (size t.grid)
  pub alexander_of_marks : t.alexander_of_marks ≡ half_of_marks t.grid -ℤ pos (MAX_SIZE * size t.grid)
