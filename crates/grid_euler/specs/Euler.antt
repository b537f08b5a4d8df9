-- The Euler numbers of a grid: of the states of one Alexander degree, those with an even Maslov degree are counted 1,
-- the others -1 (Ozsváth, Stipsicz and Szabó, "Grid Homology for Knots and Links", chapter 4). The same numbers are
-- the alternating sums of the ranks of homology. They are the coefficients of the Alexander polynomial times a power
-- of 1 - t^-1, up to sign.
--     sum_of f xs             the sum of f x over the elements x of xs
--     is_even m               the integer m is even
--     signed m d              d if m is even, else -d
--     euler_part g a x        what the state x adds at the Alexander degree a: 1 with the sign of its Maslov degree if
--                             its Alexander degree is a, else 0
--     euler_number g a        the sum of these over all states
--     row_part a row          what a row (m, a', d) of a table adds at a: d with the sign of m if a' is a, else 0
--     alternating_sum rows a  the sum of these over the rows of a table
--     AreDescending rows      the rows stand by a descending, no a twice
--     AreEulerRows rows       the rows stand so, and no value is 0
--     IsTableOf f rows        the rows are all (a, f a) with f a not 0, by a descending
--     IsEulerTable g rows     the rows are all a with their Euler numbers that are not 0, by a descending
use Rattle.std.specs.Prelude.{◌≡◌, ◌≢◌, ◌↔◌, ℕ, ◌%◌, ◌==◌, Bool, if◌then◌else◌, ℤ, pos, neg_ℤ, ◌+ℤ◌, ◌<ℤ◌, unsigned_abs, List, [], ◌∷◌}
use Rattle.std.specs.List.{All, AllPairs, Contains}
use Rattle.std.specs.Ordering.{int_eq}
use Rattle.state_rank.specs.States.{states}
use Rattle.torus_geom.specs.Marks.{Marks, size}
use Rattle.torus_geom.specs.Degrees.{maslov_o, alexander}
use Rattle.torus_geom.specs.Homology.{Row}
use Rattle.grid_euler.specs.declared.tables.EulerRow.{EulerRow}

abbrev pub sum_of : {A : Type 0} → (A → ℤ) → List A → ℤ
sum_of f [] = pos 0
sum_of f (x ∷ xs) = f x +ℤ sum_of f xs

abbrev pub is_even : ℤ → Bool
is_even m = unsigned_abs m % 2 == 0

abbrev pub signed : ℤ → ℕ → ℤ
signed m d = if is_even m then pos d else neg_ℤ (pos d)

abbrev pub euler_part : Marks → ℤ → List ℕ → ℤ
euler_part g a x = if int_eq (alexander g x) a then signed (maslov_o g x) 1 else pos 0

unfoldable pub euler_number : Marks → ℤ → ℤ
euler_number g a = sum_of (euler_part g a) (states (size g))

abbrev pub row_part : ℤ → Row → ℤ
row_part a row = if int_eq row.1 a then signed row.0 row.2 else pos 0

abbrev pub alternating_sum : List Row → ℤ → ℤ
alternating_sum rows a = sum_of (row_part a) rows

abbrev pub AreDescending : List EulerRow → Type 0
AreDescending rows = AllPairs (λ p q. q.a <ℤ p.a) rows

pub record AreEulerRows (rows : List EulerRow) : Type 0 where
  pub descending : AreDescending rows
  pub values : All (λ row. row.value ≢ pos 0) rows

pub record IsTableOf (f : ℤ → ℤ) (rows : List EulerRow) : Type 0 where
  pub descending : AreDescending rows
  pub complete : (row : EulerRow) → Contains rows row ↔ ((row.value ≢ pos 0) × (row.value ≡ f row.a))

abbrev pub IsEulerTable : Marks → List EulerRow → Type 0
IsEulerTable g rows = IsTableOf (euler_number g) rows
