-- The components of the link of a grid diagram (Ozsváth, Stipsicz and Szabó, "Grid Homology for Knots
-- and Links", chapters 3 and 11): the cycles of the walk from a column to the row of its X, and from
-- there to the column whose O is in that row.
--     column_after g c     where the walk goes from column c
--     walk g k c           where the walk from c is after k steps
--     is_first g c         no column of the cycle of c is left of c
--     Meets g c d          the walk from column c comes to column d
--     HasOneOfEachCycle g pick   the columns that pass the test are one of each cycle
--     components g         the number of cycles: of columns that are the first of their cycle
use Rattle.std.specs.Prelude.{◌≡◌, ◌≢◌, ℕ, zero, suc, ◌<◌, Bool, IsTrue, length, slice_index, nat_le}
use Rattle.std.specs.List.{filter}
use Rattle.state_rank.specs.Bijection.{ascending, column_of}
use Rattle.torus_geom.specs.Counts.{all_below}
use Rattle.torus_geom.specs.Marks.{Marks, size}

abbrev pub column_after : Marks → ℕ → ℕ
column_after g c = column_of (size g) (slice_index g.o) (slice_index g.x c)

abbrev pub walk : Marks → ℕ → ℕ → ℕ
walk g zero c = c
walk g (suc k) c = column_after g (walk g k c)

-- a cycle has at most as many columns as the grid
abbrev pub is_first : Marks → ℕ → Bool
is_first g c = all_below (size g) (λ k. nat_le c (walk g k c))

abbrev pub Meets : Marks → ℕ → ℕ → Type 0
Meets g c d = (k : ℕ) × (walk g k c ≡ d)

pub record HasOneOfEachCycle (g : Marks) (pick : ℕ → Bool) : Type 0 where
  pub apart : (c d : ℕ) → c < size g → d < size g → IsTrue (pick c) → IsTrue (pick d) → c ≢ d → Meets g c d → ⊥
  pub met : (d : ℕ) → d < size g → (c : ℕ) × (c < size g) × IsTrue (pick c) × Meets g c d

unfoldable pub components : Marks → ℕ
components g = length (filter (is_first g) (ascending (size g)))
