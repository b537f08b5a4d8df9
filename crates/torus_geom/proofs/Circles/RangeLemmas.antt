-- Cyclic ranges without a remainder.
use Rattle.std.proofs.Common.{◌≡◌, ℕ, ◌+◌, ◌-◌, ◌%◌, ◌<◌, ◌≤◌, ◌&&◌, ◌||◌, ap, ap₂, ◌∙◌, ltb, leb, arith, inl, inr, mod-eq_of_lt}
use Rattle.std.proofs.Math.Nat.{add-mod_right}
use Rattle.std.proofs.lemmas.Bool.{cases_lt}
use Rattle.torus_geom.specs.Range.{offset, in_range}

-- a circle at or above a: the plain difference
pub offset-above : (n a i : ℕ) → a ≤ i → i < n → offset n a i ≡ i - a
offset-above n a i h l = let e : i + (n - a) ≡ (i - a) + n = omega arith in
    ap (λ k. k % n) e ∙ add-mod_right (i - a) n ∙ mod-eq_of_lt (omega arith)

-- a circle below a: past the seam
pub offset-below : (n a i : ℕ) → i < a → a < n → offset n a i ≡ i + (n - a)
offset-below n a i h l = mod-eq_of_lt (omega arith)

-- a range that does not go across the seam
pub in_range-plain : (n a b i : ℕ) → a < b → b < n → i < n → in_range n a b i ≡ (leb a i && ltb i b)
in_range-plain n a b i ab lb li = elim (cases_lt i a) [
  | inl p ↦ ap₂ ltb (offset-below n a i p (omega arith)) (offset-above n a b (omega arith) lb) ∙ grind arith
  | inr p ↦ ap₂ ltb (offset-above n a i p li) (offset-above n a b (omega arith) lb) ∙ grind arith
]

-- a range that goes across the seam
pub in_range-across : (n a b i : ℕ) → b < a → a < n → i < n → in_range n a b i ≡ (leb a i || ltb i b)
in_range-across n a b i ba la li = elim (cases_lt i a) [
  | inl p ↦ ap₂ ltb (offset-below n a i p la) (offset-below n a b ba la) ∙ grind arith
  | inr p ↦ ap₂ ltb (offset-above n a i p li) (offset-below n a b ba la) ∙ grind arith
]
