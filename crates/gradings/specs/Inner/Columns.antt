-- What is kept while the sets of sums are made, column by column.
--     HoldsSumsOf g c used rows set    the set has the sums from column c on of the states that use the rows `used`
--                                      before c, and have one of the first `rows` rows on c
--     IsColumnDone g c i sets          the sets of the columns after c are made, and those below i of column c
use Rattle.std.specs.Prelude.{◌≡◌, ℕ, ◌+◌, ◌^◌, ◌<◌, List, length, slice_index, slice_index_or, pos, ◌+ℤ◌}
use Rattle.std.specs.Int.{bit_at}
use Rattle.state_rank.specs.Bijection.{IsBijection}
use Rattle.torus_geom.specs.Marks.{Marks, size}
use Rattle.gradings.specs.Sums.{sum_before, rows_used, HoldsSums}

abbrev pub HoldsSumsOf : Marks → ℕ → ℕ → ℕ → ℕ → Type 0
HoldsSumsOf g c used rows set =
    (z : List ℕ) (k : ℕ) → IsBijection (size g) z → rows_used c z ≡ used → slice_index z c < rows
    → pos k +ℤ sum_before g c z ≡ sum_before g (size g) z
    → bit_at set k ≡ 1

pub record IsColumnDone (g : Marks) (c i : ℕ) (sets : List ℕ) : Type 0 where
  pub long : length sets ≡ 2 ^ size g
  pub after : HoldsSums g (c + 1) sets
  pub here : (z : List ℕ) (k : ℕ) → IsBijection (size g) z → rows_used c z < i
      → pos k +ℤ sum_before g c z ≡ sum_before g (size g) z
      → bit_at (slice_index_or sets (rows_used c z) 0) k ≡ 1
