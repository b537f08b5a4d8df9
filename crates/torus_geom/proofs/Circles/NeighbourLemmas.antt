-- Ranges that begin or end near a circle.
use Rattle.std.proofs.Common.{◌≡◌, ◌≢◌, ℕ, zero, suc, ◌+◌, ◌<◌, ◌≤◌, true, ap, ap₂, ◌∙◌, eqb, arith, inl, inr}
use Rattle.std.proofs.lemmas.Bool.{cases_eq}
use Rattle.torus_geom.specs.Range.{one_up, one_down}
use Rattle.torus_geom.proofs.Circles.BetweenLemmas.{between}
use Rattle.torus_geom.proofs.Circles.TurnLemmas.{one_up-below, one_up-last, one_down-above, one_down-first}

-- the range from a circle to the next has it alone
pub between_to_next : (m i t : ℕ) → 2 ≤ m → i < m → t < m → between i (one_up m i) t ≡ eqb t i
between_to_next zero i t two li lt = absurd (omega arith)
between_to_next (suc m) i t two li lt = elim (cases_eq i m) [
  | inl e ↦ ap (λ j. between i j t) (ap (one_up (suc m)) e ∙ one_up-last m) ∙ last i t (omega arith) (omega arith)
  | inr p ↦ ap (λ j. between i j t) (one_up-below m i (omega arith)) ∙ next i t
]
  where
    next : (i t : ℕ) → between i (i + 1) t ≡ eqb t i
    next i t = grind arith

    last : (i t : ℕ) → 0 < i → t ≤ i → between i 0 t ≡ eqb t i
    last i t some l = grind arith

-- a range has the circle before its end
pub between_before_end : (m a b : ℕ) → a < m → b < m → a ≢ b → between a b (one_down m b) ≡ true
between_before_end zero a b la lb p = absurd (omega arith)
between_before_end (suc m) a zero la lb p =
    ap (between a 0) (one_down-first m) ∙ at_last a m (omega arith) (omega arith)
  where
    at_last : (a m : ℕ) → 0 < a → a ≤ m → between a 0 m ≡ true
    at_last a m some l = grind arith
between_before_end (suc m) a (suc b) la lb p =
    let e : suc b ≡ b + 1 = omega arith in
    ap₂ (between a) e (ap (one_down (suc m)) e ∙ one_down-above m b (omega arith))
    ∙ before a b (omega arith)
  where
    before : (a b : ℕ) → a ≢ b + 1 → between a (b + 1) b ≡ true
    before a b q = grind arith

-- a range that ends after the next circle, and does not begin there, has the circle
pub between_end_further : (m i a : ℕ) → i + 1 < m → a < m → a ≢ i + 1 → a ≢ one_up m (i + 1)
    → between a (one_up m (i + 1)) i ≡ true
between_end_further zero i a li la p q = absurd (omega arith)
between_end_further (suc m) i a li la p q = elim (cases_eq (i + 1) m) [
  | inl e ↦
      let at : one_up (suc m) (i + 1) ≡ 0 = ap (one_up (suc m)) e ∙ one_up-last m in
      ap (λ j. between a j i) at ∙ first a i (omega arith) (omega arith)
  | inr r ↦
      let at : one_up (suc m) (i + 1) ≡ i + 1 + 1 = one_up-below m (i + 1) (omega arith) in
      ap (λ j. between a j i) at ∙ next a i p (omega arith)
]
  where
    first : (a i : ℕ) → a ≢ 0 → a ≤ i → between a 0 i ≡ true
    first a i s l = grind arith

    next : (a i : ℕ) → a ≢ i + 1 → a ≢ i + 1 + 1 → between a (i + 1 + 1) i ≡ true
    next a i s t = grind arith

-- a range that begins at a circle and does not end at it or the next has the next
pub between_next_of : (i b : ℕ) → b ≢ i → b ≢ i + 1 → between i b (i + 1) ≡ true
between_next_of i b p q = grind arith

-- a range that ends at the next circle has the circle
pub between_end_next : (a i : ℕ) → a ≢ i + 1 → between a (i + 1) i ≡ true
between_end_next a i p = grind arith
