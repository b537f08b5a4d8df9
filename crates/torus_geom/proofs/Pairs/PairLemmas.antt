-- Pairs of points, counted by the columns of functions: the pairs of a point of P that is lower left of one of Q.
use Rattle.std.proofs.Common.{◌≡◌, ℕ, zero, suc, ◌+◌, ◌-◌, ◌*◌, ◌≤◌, false, not, ◌&&◌, List, refl, ap, ap₂, ◌∙◌, sym, ltb, slice_index, arith, inl, inr}
use Rattle.std.proofs.Math.IntN.{ℤ, pos, ◌+ℤ◌, ◌-ℤ◌, ◌*ℤ◌}
use Rattle.std.proofs.lemmas.Int.{ints}
use Rattle.std.proofs.lemmas.Bool.{cases_eq, lt-ltb}
use Rattle.state_rank.specs.Bijection.{IsBijection}
use Rattle.state_rank.proofs.BijectionLemmas.{IsOneToOne, one_to_one}
use Rattle.torus_geom.specs.Counts.{one_if, sum_below, count_below}
use Rattle.torus_geom.specs.Degrees.{point, mark, is_lower_left, lower_left_pairs, maslov}
use Rattle.torus_geom.proofs.Sums.SumLemmas.{sum_below_same, sum_below-add, balanced_sum, balanced_pairs, sum_below_swap, sum_below_reindex, same_ints}

-- the points of P lower left of column c and row r
abbrev pub lower_left : ℕ → (ℕ → ℕ) → ℕ → ℕ → ℤ
lower_left n P c r = count_below n (λ d. ltb d c && ltb (P d) r)

-- those not left of c and not below r
abbrev pub upper_right : ℕ → (ℕ → ℕ) → ℕ → ℕ → ℤ
upper_right n P c r = count_below n (λ d. not (ltb d c) && not (ltb (P d) r))

-- the pairs of a point of P and one of Q, the first lower left of the second
abbrev pub pairs : ℕ → (ℕ → ℕ) → (ℕ → ℕ) → ℤ
pairs n P Q = sum_below n (λ c. lower_left n P c (Q c))

-- all numbers below n
pub count_below-all : (n : ℕ) → sum_below n (λ t. pos 1) ≡ pos n
count_below-all zero = refl
count_below-all (suc n) = let h = count_below-all n in omega (arith, ints)

-- the numbers below m
pub count_below-ltb : (n m : ℕ) → m ≤ n → count_below n (λ t. ltb t m) ≡ pos m
count_below-ltb zero m h = let e : m ≡ 0 = omega arith in ap pos (sym e)
count_below-ltb (suc n) m h = elim (cases_eq m (suc n)) [
  | inl e ↦
      sum_below_same (suc n) (λ t. one_if (ltb t m)) (λ t. pos 1) (λ t l. ap one_if (lt-ltb t m (omega arith)))
      ∙ count_below-all (suc n) ∙ ap pos (sym e)
  | inr q ↦ let i = count_below-ltb n m (omega arith) in let j : ltb n m ≡ false = grind arith in
      let k : one_if (ltb n m) ≡ pos 0 = ap one_if j in omega (arith, ints)
]

-- the points of a bijection below a row
pub count_below-rows : (n : ℕ) (P : ℕ → ℕ) → IsOneToOne n P → (r : ℕ) → r ≤ n → count_below n (λ d. ltb (P d) r) ≡ pos r
count_below-rows n P one r h = sum_below_reindex n P one (λ t. one_if (ltb t r)) ∙ count_below-ltb n r h

-- the points right of c and above r, by those left and below
pub upper_right-lower_left : (n : ℕ) (P : ℕ → ℕ) → IsOneToOne n P → (c r : ℕ) → c ≤ n → r ≤ n
    → upper_right n P c r +ℤ (pos c +ℤ pos r) ≡ pos n +ℤ lower_left n P c r
upper_right-lower_left n P one c r lc lr =
    let left = count_below-ltb n c lc in
    let below = count_below-rows n P one r lr in
    let all = count_below-all n in
    let added = sum_below-add n (λ d. one_if (ltb d c)) (λ d. one_if (ltb (P d) r)) in
    let balance =
    balanced_pairs n (λ d. one_if (not (ltb d c) && not (ltb (P d) r))) (λ d. one_if (ltb d c) +ℤ one_if (ltb (P d) r))
    (λ d. pos 1) (λ d. one_if (ltb d c && ltb (P d) r)) (λ d l.
    same_ints 2 (λ a b. one_if (not a && not b) +ℤ (one_if a +ℤ one_if b)) (λ a b. pos 1 +ℤ one_if (a && b)) refl
    (ltb d c) (ltb (P d) r)) in
    omega (arith, ints)

-- ---- the sum of the numbers below n, twice, is n times n - 1
reversed : (n : ℕ) → IsOneToOne n (λ c. (n - 1) - c)
reversed n = record { small = λ c l. omega arith; apart = λ b c lb lc p. omega arith }

-- n times n, by the sum of the numbers below n
pub sum_below_triangle : (n : ℕ)
    → sum_below n (λ c. pos n) ≡ pos n +ℤ (sum_below n (λ c. pos c) +ℤ sum_below n (λ c. pos c))
sum_below_triangle n =
    let reindexed = sum_below_reindex n (λ c. (n - 1) - c) (reversed n) (λ c. pos c) in
    let all = count_below-all n in
    let added = sum_below-add n (λ c. pos c) (λ c. pos ((n - 1) - c)) in
    let balance =
    balanced_sum n (λ c. pos n) (λ c. pos 1) (λ c. pos c +ℤ pos ((n - 1) - c)) (λ c l. omega (arith, ints)) in
    omega (arith, ints)

-- ---- the definitions
even-even : (a b : ℕ) → ltb (2 * a) (2 * b) ≡ ltb a b
even-even a b = grind arith

pub odd-odd : (a b : ℕ) → ltb (2 * a + 1) (2 * b + 1) ≡ ltb a b
odd-odd a b = grind arith

pub odd-even : (a b : ℕ) → ltb (2 * a + 1) (2 * b) ≡ ltb a b
odd-even a b = grind arith

pub even-odd : (a b : ℕ) → ltb (2 * a) (2 * b + 1) ≡ not (ltb b a)
even-odd a b = grind arith

module _ (n : ℕ) (x y : List ℕ) where
  -- pairs of points
  pub lower_left_pairs-points : lower_left_pairs n (point x) (point y) ≡ pairs n (slice_index x) (slice_index y)
  lower_left_pairs-points =
      sum_below_same n _ _ (λ d l. sum_below_same n (λ c. one_if
      (ltb (2 * c) (2 * d) && ltb (2 * slice_index x c) (2 * slice_index y d)))
      (λ c. one_if (ltb c d && ltb (slice_index x c) (slice_index y d))) (λ c k.
      ap₂ (λ p q. one_if (p && q)) (even-even c d) (even-even (slice_index x c) (slice_index y d))))

  -- pairs of marks
  pub lower_left_pairs-marks : lower_left_pairs n (mark x) (mark y) ≡ pairs n (slice_index x) (slice_index y)
  lower_left_pairs-marks =
      sum_below_same n _ _ (λ d l. sum_below_same n (λ c. one_if
      (ltb (2 * c + 1) (2 * d + 1) && ltb (2 * slice_index x c + 1) (2 * slice_index y d + 1)))
      (λ c. one_if (ltb c d && ltb (slice_index x c) (slice_index y d))) (λ c k.
      ap₂ (λ p q. one_if (p && q)) (odd-odd c d) (odd-odd (slice_index x c) (slice_index y d))))

  -- pairs of a mark and a point
  pub lower_left_pairs-marks_points : lower_left_pairs n (mark x) (point y) ≡ pairs n (slice_index x) (slice_index y)
  lower_left_pairs-marks_points =
      sum_below_same n _ _ (λ d l. sum_below_same n (λ c. one_if
      (ltb (2 * c + 1) (2 * d) && ltb (2 * slice_index x c + 1) (2 * slice_index y d)))
      (λ c. one_if (ltb c d && ltb (slice_index x c) (slice_index y d))) (λ c k.
      ap₂ (λ p q. one_if (p && q)) (odd-even c d) (odd-even (slice_index x c) (slice_index y d))))

  -- pairs the other way round: n more
  pub lower_left_pairs-points_marks : IsOneToOne n (slice_index x) → IsOneToOne n (slice_index y)
      → lower_left_pairs n (point x) (mark y) ≡ pos n +ℤ pairs n (slice_index y) (slice_index x)
  lower_left_pairs-points_marks ox oy =
      let rewritten =
      sum_below_same n (λ d. count_below n (λ c. is_lower_left (point x c) (mark y d)))
      (λ d. sum_below n (λ c. one_if (not (ltb d c) && not (ltb (slice_index y d) (slice_index x c))))) (λ d l.
      sum_below_same n (λ c. one_if (ltb (2 * c) (2 * d + 1) && ltb (2 * slice_index x c) (2 * slice_index y d + 1)))
      (λ c. one_if (not (ltb d c) && not (ltb (slice_index y d) (slice_index x c)))) (λ c k.
      ap₂ (λ p q. one_if (p && q)) (even-odd c d) (even-odd (slice_index x c) (slice_index y d)))) in
      let either_order =
      sum_below_swap n n (λ d c. one_if (not (ltb d c) && not (ltb (slice_index y d) (slice_index x c)))) in
      let balance =
      balanced_pairs n (λ c. upper_right n (slice_index y) c (slice_index x c)) (λ c. pos c +ℤ pos (slice_index x c))
      (λ c. pos n) (λ c. lower_left n (slice_index y) c (slice_index x c)) (λ c l.
      let s = ox.small c l in
      upper_right-lower_left n (slice_index y) oy c (slice_index x c) (omega arith) (omega arith)) in
      let added = sum_below-add n (λ c. pos c) (λ c. pos (slice_index x c)) in
      let reindexed = sum_below_reindex n (slice_index x) ox (λ c. pos c) in
      let triangle = sum_below_triangle n in
      omega (arith, ints)

-- the degree by pairs of points, of marks, and of a mark and a point
abbrev pub maslov_by_pairs : ℕ → (ℕ → ℕ) → (ℕ → ℕ) → ℤ
maslov_by_pairs n o x = (pairs n x x +ℤ pairs n o o +ℤ pos 1) -ℤ (pairs n o x +ℤ pairs n o x +ℤ pos n)

-- the Maslov degree, by pairs alone
pub maslov-by_pairs : (n : ℕ) (o x : List ℕ) → IsBijection n o → IsBijection n x
    → maslov n o x ≡ maslov_by_pairs n (slice_index o) (slice_index x)
unfolding maslov
maslov-by_pairs n o x bo bx =
    let of_points = lower_left_pairs-points n x x in
    let marks_right = lower_left_pairs-points_marks n x o (one_to_one n x bx) (one_to_one n o bo) in
    let marks_left = lower_left_pairs-marks_points n o x in
    let of_marks = lower_left_pairs-marks n o o in
    omega (arith, ints)

-- the degree is a number of the marks, and the pairs of points less twice a sum over the single points
pub maslov-by_points : (n : ℕ) (o x : List ℕ) → IsBijection n o → IsBijection n x
    → maslov n o x
    ≡ (pairs n (slice_index o) (slice_index o) +ℤ pos 1 -ℤ pos n)
    +ℤ (pairs n (slice_index x) (slice_index x) -ℤ pos 2
    *ℤ sum_below n (λ c. lower_left n (slice_index o) c (slice_index x c)))
maslov-by_points n o x bo bx = let by_pairs = maslov-by_pairs n o x bo bx in omega (arith, ints)
