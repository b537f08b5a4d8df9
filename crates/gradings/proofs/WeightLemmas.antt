-- The weights of points, and their sums.
use Rattle.std.proofs.Common.{◌≡◌, ℕ, zero, suc, ◌+◌, ◌-◌, ◌*◌, ◌<◌, ◌≤◌, ◌≤ℤ◌, List, slice_index, refl, ap, ◌∙◌, arith, inl, inr, nat_lt}
use Rattle.std.proofs.Math.IntN.{ℤ, pos, neg_ℤ, ◌+ℤ◌, ◌-ℤ◌}
use Rattle.std.proofs.lemmas.Int.{ints}
use Rattle.std.proofs.lemmas.Bool.{cases_eq}
use Rattle.state_rank.specs.Bijection.{IsBijection}
use Rattle.torus_geom.specs.Counts.{sum_below}
use Rattle.torus_geom.specs.Marks.{Marks, size, IsGrid}
use Rattle.torus_geom.specs.Degrees.{alexander}
use Rattle.torus_geom.proofs.Sums.SumLemmas.{balanced_sum}
use Rattle.gradings.specs.Inner.Tables.{left_below, half_of_marks, entry, IsTables}
use Rattle.gradings.specs.declared.tables.DegreeTables.TheInside.{Inside}
use Rattle.gradings.specs.Sums.{weight, least, sum_before}
use Rattle.gradings.proofs.MaslovLemmas.{lower_left-left, alexander_weight, alexander-linear}
use Rattle.gradings.proofs.TableLemmas.{IsUpTo, count_below_up_to, half_of_marks-is, half_of_marks_small}

-- there are at most c marks left of column c
left_below_up_to : (n : ℕ) (marks : List ℕ) (c r : ℕ) → c ≤ n → IsUpTo c (left_below n marks c r)
left_below_up_to n marks c r l =
    let is = lower_left-left n (slice_index marks) c r l in
    let few = count_below_up_to c (λ d. nat_lt (slice_index marks d) r) in
    let low = few.0 in
    let high = few.1 in
    (omega (arith, ints), omega (arith, ints))

-- a weight is from 0 to twice its column
pub weight_up_to : (g : Marks) (c r : ℕ) → c ≤ size g → IsUpTo (2 * c) (weight g c r)
weight_up_to g c r l =
    let by_x = left_below_up_to (size g) g.x c r l in
    let by_o = left_below_up_to (size g) g.o c r l in
    let x_low = by_x.0 in
    let x_high = by_x.1 in
    let o_low = by_o.0 in
    let o_high = by_o.1 in
    (omega (arith, ints), omega (arith, ints))

-- a sum of such numbers is from 0 to a square
sums_up_to : (n : ℕ) (f : ℕ → ℤ) → ((c : ℕ) → c < n → IsUpTo (2 * c) (f c)) → IsUpTo (n * n) (sum_below n f)
sums_up_to zero f h = (omega (arith, ints), omega (arith, ints))
sums_up_to (suc n) f h =
    let rest = sums_up_to n f (λ c l. h c (omega arith)) in
    let term = h n (omega arith) in
    let rest_low = rest.0 in
    let rest_high = rest.1 in
    let low = term.0 in
    let high = term.1 in
    let square : suc n * suc n ≡ n * n + (2 * n + 1) = omega arith in
    (omega (arith, ints), omega (arith, ints))

-- and grows with the number of terms
sums_grow : (n c : ℕ) (f : ℕ → ℤ) → c ≤ n → ((d : ℕ) → d < n → pos 0 ≤ℤ f d) → sum_below c f ≤ℤ sum_below n f
sums_grow zero c f l h =
    let e : c ≡ 0 = omega arith in
    let same : sum_below c f ≡ sum_below 0 f = ap (λ m. sum_below m f) e in
    omega (arith, ints)
sums_grow (suc n) c f l h = elim (cases_eq c (suc n)) [
  | inl e ↦
      let same : sum_below c f ≡ sum_below (suc n) f = ap (λ m. sum_below m f) e in
      omega (arith, ints)
  | inr p ↦
      let rest = sums_grow n c f (omega arith) (λ d m. h d (omega arith)) in
      let term = h n (omega arith) in
      omega (arith, ints)
]

square_small : (n : ℕ) → n ≤ 10 → n * n ≤ 100
square_small n h = grind arith

-- what the columns from c on give is from 0 to 100
pub rest_up_to : (g : Marks) (z : List ℕ) (c : ℕ) (sum : ℤ) → size g ≤ 10 → c ≤ size g
    → sum +ℤ sum_before g c z ≡ sum_before g (size g) z → IsUpTo 100 sum
rest_up_to g z c sum small l is =
    let each : (d : ℕ) → d < size g → pos 0 ≤ℤ weight g d (slice_index z d) =
    λ d m. (weight_up_to g d (slice_index z d) (omega arith)).0 in
    let grown = sums_grow (size g) c (λ d. weight g d (slice_index z d)) l each in
    let all = sums_up_to (size g) (λ d. weight g d (slice_index z d))
    (λ d m. weight_up_to g d (slice_index z d) (omega arith)) in
    let head = sums_up_to c (λ d. weight g d (slice_index z d))
    (λ d m. weight_up_to g d (slice_index z d) (omega arith)) in
    let square = square_small (size g) small in
    let all_low = all.0 in
    let all_high = all.1 in
    let head_low = head.0 in
    let head_high = head.1 in
    (omega (arith, ints), omega (arith, ints))

-- the Alexander degree is a number of the marks and the sum of the weights
pub alexander-weights : (g : Marks) → IsGrid g → (x : List ℕ) → IsBijection (size g) x
    → alexander g x ≡ least g +ℤ sum_before g (size g) x
alexander-weights g grid x state =
    let law = alexander-linear g grid x state in
    let parts =
    balanced_sum (size g) (λ c. weight g c (slice_index x c)) (λ c. pos c) (λ c. alexander_weight g c (slice_index x c))
    (λ c l. refl) in
    omega (arith, ints)

-- ---- what the tables keep
-- an entry is the weight and what the greatest size has more than the column
pub record IsEntry (g : Marks) (c r : ℕ) (found : ℕ) : Type 0 where
  pub low : 10 - c ≤ found
  pub value : pos (found - (10 - c)) ≡ weight g c r
  pub small : found - (10 - c) ≤ 20

pub entry-weight : (t : Inside) → IsTables t → (g : Marks) → t.grid ≡ g → (c r : ℕ) → c < size g → r < size g
    → IsEntry g c r (entry t.weights c r)
entry-weight t tables g view c r lc lr =
    let fits = tables.grid.is_size.greatest in
    let same = ap size view in
    let is : pos (entry t.weights c r)
    ≡ pos 10 +ℤ (left_below (size g) g.x c r -ℤ left_below (size g) g.o c r) =
    tables.weights c r (omega arith) (omega arith)
    ∙ ap (λ (h : Marks). pos 10 +ℤ (left_below (size h) h.x c r -ℤ left_below (size h) h.o c r)) view in
    let between = weight_up_to g c r (omega arith) in
    let low = between.0 in
    let high = between.1 in
    let enough : 10 - c ≤ entry t.weights c r = omega (arith, ints) in
    record { low = enough; value = omega (arith, ints); small = omega (arith, ints) }

columns_below-is : (n : ℕ) → sum_below n (λ c. pos 10 -ℤ pos c) ≡ pos (10 * n) -ℤ sum_below n (λ c. pos c)
columns_below-is zero = refl
columns_below-is (suc n) = let h = columns_below-is n in omega (arith, ints)

-- what the marks give is kept with the greatest size for each column
pub record IsLeast (g : Marks) (kept : ℤ) (more : ℕ) : Type 0 where
  pub value : kept +ℤ pos more ≡ least g
  pub low : neg_ℤ (pos 2000) ≤ℤ least g
  pub high : least g ≤ℤ pos 2000
  pub kept_low : neg_ℤ (pos 2000) ≤ℤ kept
  pub kept_high : kept ≤ℤ pos 2000

pub least-kept : (t : Inside) → IsTables t → (g : Marks) → t.grid ≡ g → (n more : ℕ) → n ≡ size g → more ≤ 10 * n
    → pos more ≡ sum_below n (λ c. pos 10 -ℤ pos c) → IsLeast g t.alexander_of_marks more
least-kept t tables g view n more long few is =
    let fits = tables.grid.is_size.greatest in
    let same = ap size view in
    let kept : t.alexander_of_marks ≡ half_of_marks g -ℤ pos (10 * size g) =
    tables.alexander_of_marks ∙ ap (λ (h : Marks). half_of_marks h -ℤ pos (10 * size h)) view in
    let sum : sum_below n (λ c. pos 10 -ℤ pos c) ≡ sum_below (size g) (λ c. pos 10 -ℤ pos c) =
    ap (λ m. sum_below m (λ c. pos 10 -ℤ pos c)) long in
    let columns = columns_below-is (size g) in
    let half : half_of_marks t.grid ≡ half_of_marks g = ap half_of_marks view in
    let even = half_of_marks-is t.grid tables.grid in
    let half_low = (half_of_marks_small t.grid tables.grid).low in
    let half_high = (half_of_marks_small t.grid tables.grid).high in
    record {
      value = omega (arith, ints);
      low = omega (arith, ints);
      high = omega (arith, ints);
      kept_low = omega (arith, ints);
      kept_high = omega (arith, ints);
    }
