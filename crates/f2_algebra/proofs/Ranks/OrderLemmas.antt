-- The order of bidegrees.
use Rattle.std.proofs.Common.{◌≡◌, ◌↔◌, ℤ, Bool, true, inl, inr, ap, arith}
use Rattle.std.specs.Prelude.{◌<ℤ◌, ◌&&◌, int_lt}
use Rattle.std.specs.Bool.{Decides}
use Rattle.std.specs.Ordering.{int_eq}
use Rattle.std.proofs.lemmas.Bool.{and_parts, and_from, or_cases}
use Rattle.std.proofs.lemmas.Bool.Decides.{Decides-int_eq}
use Rattle.std.proofs.lemmas.Int.{ints}
use Rattle.f2_algebra.specs.Bigraded.{stands_before, StandsBefore}

-- the test is true exactly if the one degree stands before the other
pub Decides-stands_before : (p q : ℤ × ℤ) → Decides (stands_before p q) (StandsBefore p q)
Decides-stands_before p q = (
  λ h. elim (or_cases (int_lt q.1 p.1) (int_eq q.1 p.1 && int_lt q.0 p.0) h) [
    | inl higher ↦ inl (int_lt-true q.1 p.1 higher)
    | inr same ↦
        let parts = and_parts (int_eq q.1 p.1) (int_lt q.0 p.0) same in
        inr ((Decides-int_eq q.1 p.1).0 parts.0, int_lt-true q.0 p.0 parts.1)
  ],
  λ h. elim h [
    | inl higher ↦ above p q higher
    | inr same ↦ level p q same.0 same.1
  ],
)
  where
    int_lt-true : (x y : ℤ) → int_lt x y ≡ true → x <ℤ y
    int_lt-true x y h = omega (arith, ints, h)

    above : (p q : ℤ × ℤ) → q.1 <ℤ p.1 → stands_before p q ≡ true
    above p q h = grind (arith, ints)

    level : (p q : ℤ × ℤ) → q.1 ≡ p.1 → q.0 <ℤ p.0 → stands_before p q ≡ true
    level p q e h = grind (arith, ints)

-- what stands before a degree stands before all that it stands before
pub stands_before-transitive : (p q r : ℤ × ℤ) → stands_before p q ≡ true → stands_before q r ≡ true
    → stands_before p r ≡ true
stands_before-transitive p q r h k = grind (arith, ints)

-- of two degrees at most one stands before the other
pub StandsBefore-asymmetric : (p q : ℤ × ℤ) → StandsBefore p q → StandsBefore q p → ⊥
StandsBefore-asymmetric p q (inl a) (inl b) = omega (arith, ints, a, b)
StandsBefore-asymmetric p q (inl a) (inr b) = omega (arith, ints, a, b.0)
StandsBefore-asymmetric p q (inr a) (inl b) = omega (arith, ints, a.0, b)
StandsBefore-asymmetric p q (inr a) (inr b) = omega (arith, ints, a.1, b.1)

-- a test of equal bidegrees
abbrev pub same_bidegree : ℤ × ℤ → ℤ × ℤ → Bool
same_bidegree p q = int_eq p.0 q.0 && int_eq p.1 q.1

pub same_bidegree-is : (p q : ℤ × ℤ) → (same_bidegree p q ≡ true) ↔ (p ≡ q)
same_bidegree-is p q = (
  λ h.
      let (first, second) = and_parts (int_eq p.0 q.0) (int_eq p.1 q.1) h in
      let e = (Decides-int_eq p.0 q.0).0 first in
      let f = (Decides-int_eq p.1 q.1).0 second in
      λ i. (e i, f i),
  λ e. and_from (int_eq p.0 q.0) (int_eq p.1 q.1) ((Decides-int_eq p.0 q.0).1 (ap (λ (t : ℤ × ℤ). t.0) e))
      ((Decides-int_eq p.1 q.1).1 (ap (λ (t : ℤ × ℤ). t.1) e)),
)
