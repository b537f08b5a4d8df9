-- The Alexander degree as a sum over the columns.
--     weight g c r          c, and how many X are left of column c and below row r, less how many O: from 0 to 2 c
--     least g               what the marks alone give: the Alexander degree of each state is this and the sum of the
--                           weights of its points
--     sum_before g c x      the sum of the weights of the points of x on the columns before c
--     rows_used c x         the rows of the points of x on the columns before c, as the bits of a number
--     HoldsSums g c sets    for each state and each column d from c on: the set at the rows that it uses before
--                           d has the sum of its weights from d on, as a bit
use Rattle.std.specs.Prelude.{◌≡◌, ℕ, zero, suc, ◌^◌, ◌≤◌, List, slice_index, slice_index_or, ℤ, pos, ◌+ℤ◌, ◌-ℤ◌}
use Rattle.std.specs.Int.{bit_at}
use Rattle.std.specs.Int.Bits.{bit_or}
use Rattle.state_rank.specs.Bijection.{IsBijection}
use Rattle.torus_geom.specs.Counts.{sum_below}
use Rattle.torus_geom.specs.Marks.{Marks, size}
use Rattle.gradings.specs.Inner.Tables.{left_below, half_of_marks}

abbrev pub weight : Marks → ℕ → ℕ → ℤ
weight g c r = pos c +ℤ (left_below (size g) g.x c r -ℤ left_below (size g) g.o c r)

abbrev pub least : Marks → ℤ
least g = half_of_marks g -ℤ sum_below (size g) (λ c. pos c)

abbrev pub sum_before : Marks → ℕ → List ℕ → ℤ
sum_before g c x = sum_below c (λ d. weight g d (slice_index x d))

abbrev pub rows_used : ℕ → List ℕ → ℕ
rows_used zero x = 0
rows_used (suc c) x = bit_or (rows_used c x) (2 ^ slice_index x c)

abbrev pub HoldsSums : Marks → ℕ → List ℕ → Type 0
HoldsSums g c sets =
    (z : List ℕ) (d k : ℕ) → IsBijection (size g) z → c ≤ d → d ≤ size g
    → pos k +ℤ sum_before g d z ≡ sum_before g (size g) z
    → bit_at (slice_index_or sets (rows_used d z) 0) k ≡ 1
