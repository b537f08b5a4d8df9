-- Factors 1 + s cancel, if the step up raises a height by one: ranks that are 0 above some height are told by their
-- product, from the top down.
use Rattle.std.proofs.Common.{◌≡◌, ℕ, zero, suc, ◌+◌, ◌-◌, ◌≤◌, ℤ, pos, negsuc, ◌+ℤ◌, List, [], ◌∷◌, refl, sym, ◌∙◌, arith}
use Rattle.std.specs.Prelude.{◌<ℤ◌, ◌-ℤ◌}
use Rattle.std.proofs.lemmas.Int.{ints}
use Rattle.hat_division.specs.Factors.{times_one, times_all}

-- a step up, which has a way back and raises the height by one
pub record IsStepUp {K : Type 0} (height : K → ℤ) (up : K → K) : Type 0 where
  pub raises : (k : K) → height (up k) ≡ height k +ℤ pos 1
  pub down : K → K
  pub back : (k : K) → down (up k) ≡ k
  pub forth : (k : K) → up (down k) ≡ k

abbrev pub AreStepsUp : {K : Type 0} → (K → ℤ) → List (K → K) → Type 0
AreStepsUp height [] = Unit {0}
AreStepsUp height (up ∷ ups) = IsStepUp height up × AreStepsUp height ups

-- no rank above this height
abbrev pub IsZeroAbove : {K : Type 0} → (K → ℤ) → ℤ → (K → ℕ) → Type 0
IsZeroAbove {K} height top r = (k : K) → top <ℤ height k → r k ≡ 0

-- one up and one down
pub one_up_down : (m : ℤ) → (m +ℤ pos 1) -ℤ pos 1 ≡ m
one_up_down m = omega (arith, ints)

pub one_down_up : (m : ℤ) → (m -ℤ pos 1) +ℤ pos 1 ≡ m
one_down_up m = omega (arith, ints)

-- so many steps lead above a height
pub far : (top z : ℤ) → (n : ℕ) × (top <ℤ (z +ℤ pos n))
far top z = by (top -ℤ z) refl
  where
    by : (w : ℤ) → top -ℤ z ≡ w → (n : ℕ) × (top <ℤ (z +ℤ pos n))
    by (pos d) e = (d + 1, omega (arith, ints))
    by (negsuc d) e = (0, omega (arith, ints))

-- a product has at least the ranks
pub times_all-ge : {K : Type 0} (ups : List (K → K)) (r : K → ℕ) (k : K) → r k ≤ times_all ups r k
times_all-ge [] r k = omega arith
times_all-ge (up ∷ ups) r k = let h = times_all-ge ups (times_one up r) k in omega arith

module _ {K : Type 0} (height : K → ℤ) (top : ℤ) where
  -- a product is 0 above the same height
  pub times_one-zero : (up : K → K) → IsStepUp height up → (r : K → ℕ) → IsZeroAbove height top r
      → IsZeroAbove height top (times_one up r)
  times_one-zero up step r zero_above k above =
      let raised = step.raises k in
      let here = zero_above k above in
      let next = zero_above (up k) (omega (arith, ints)) in
      omega arith

  -- ---- one factor
  module _ (up : K → K) (step : IsStepUp height up) (f g : K → ℕ) (f_zero : IsZeroAbove height top f)
      (g_zero : IsZeroAbove height top g) (same : (k : K) → times_one up f k ≡ times_one up g k) where
    cancel_by : (n : ℕ) (k : K) → top <ℤ (height k +ℤ pos n) → f k ≡ g k
    cancel_by zero k h = f_zero k (omega (arith, ints)) ∙ sym (g_zero k (omega (arith, ints)))
    cancel_by (suc n) k h =
        let raised = step.raises k in
        let next = cancel_by n (up k) (omega (arith, ints)) in
        let product = same k in
        omega arith

    pub times_one-cancel : (k : K) → f k ≡ g k
    times_one-cancel k = let n = far top (height k) in cancel_by n.0 k n.1

  -- ---- all factors
  pub times_all-cancel : (ups : List (K → K)) → AreStepsUp height ups → (f g : K → ℕ) → IsZeroAbove height top f
      → IsZeroAbove height top g → ((k : K) → times_all ups f k ≡ times_all ups g k) → (k : K) → f k ≡ g k
  times_all-cancel [] steps f g f_zero g_zero same = same
  times_all-cancel (up ∷ ups) steps f g f_zero g_zero same =
      times_one-cancel up steps.0 f g f_zero g_zero
      (times_all-cancel ups steps.1 (times_one up f) (times_one up g) (times_one-zero up steps.0 f f_zero)
      (times_one-zero up steps.0 g g_zero) same)

  -- ---- what one factor leaves, computed: from the top down, what is left of each rank
  module _ (up : K → K) (step : IsStepUp height up) (r : K → ℕ) where
    abbrev pub left_by : ℕ → K → ℕ
    left_by zero k = 0
    left_by (suc n) k = r k - left_by n (up k)

    pub left_after : K → ℕ
    left_after k = left_by (far top (height k)).0 k

    -- it is no more than the rank
    left_by-le : (n : ℕ) (k : K) → left_by n k ≤ r k
    left_by-le zero k = omega arith
    left_by-le (suc n) k = omega arith

    pub left_after-le : (k : K) → left_after k ≤ r k
    unfolding left_after
    left_after-le k = left_by-le (far top (height k)).0 k

    module _ (q : K → ℕ) (q_zero : IsZeroAbove height top q) (is : (k : K) → r k ≡ times_one up q k) where
      left_by-is : (n : ℕ) (k : K) → top <ℤ (height k +ℤ pos n) → left_by n k ≡ q k
      left_by-is zero k h = sym (q_zero k (omega (arith, ints)))
      left_by-is (suc n) k h =
          let raised = step.raises k in
          let next = left_by-is n (up k) (omega (arith, ints)) in
          let product = is k in
          omega arith

      -- if the ranks are a product, it is the other factor
      pub left_after-is : (k : K) → left_after k ≡ q k
      unfolding left_after
      left_after-is k = let n = far top (height k) in left_by-is n.0 k n.1
