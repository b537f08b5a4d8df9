-- A test of each number below n.
use Rattle.std.proofs.Common.{◌≡◌, ℕ, zero, suc, ◌+◌, ◌<◌, Bool, true, false, ◌&&◌, refl, ap, ap₂, ◌∙◌, sym, add-one, arith, inl, inr}
use Rattle.std.proofs.lemmas.Bool.{cases_eq, and_parts, and_left, and_right}
use Rattle.torus_geom.specs.Counts.{all_below}

-- what passes below n passes at each number
pub at_all_below : (n : ℕ) (test : ℕ → Bool) → all_below n test ≡ true → (i : ℕ) → i < n → test i ≡ true
at_all_below zero test h i l = absurd (omega arith)
at_all_below (suc n) test h i l =
    let parts = and_parts (test n) (all_below n test) h in
    elim (cases_eq i n) [ inl e ↦ ap test e ∙ parts.0 | inr p ↦ at_all_below n test parts.1 i (omega arith) ]

-- what passes at each number passes below n
pub all_below-true : (n : ℕ) (test : ℕ → Bool) → ((i : ℕ) → i < n → test i ≡ true) → all_below n test ≡ true
all_below-true zero test h = refl
all_below-true (suc n) test h =
    ap₂ (λ a b. a && b) (h n (omega arith)) (all_below-true n test (λ i l. h i (omega arith)))

-- what fails at one number fails below n
pub all_below-false : (n : ℕ) (test : ℕ → Bool) (i : ℕ) → i < n → test i ≡ false → all_below n test ≡ false
all_below-false zero test i l h = absurd (omega arith)
all_below-false (suc n) test i l h = elim (cases_eq i n) [
  | inl e ↦ and_left (test n) (all_below n test) (sym (ap test e) ∙ h)
  | inr p ↦ and_right (test n) (all_below n test) (all_below-false n test i (omega arith) h)
]

-- one number more
pub all_below-more : (n : ℕ) (test : ℕ → Bool) → all_below n test ≡ true → test n ≡ true → all_below (n + 1) test ≡ true
all_below-more n test h k = rw add-one (ap₂ (λ a b. a && b) k h)

-- tests that agree below n hold below n alike
pub all_below-same : (n : ℕ) (p q : ℕ → Bool) → ((t : ℕ) → t < n → p t ≡ q t) → all_below n p ≡ all_below n q
all_below-same zero p q h = refl
all_below-same (suc n) p q h = ap₂ (λ a b. a && b) (h n (omega arith)) (all_below-same n p q (λ t l. h t (omega arith)))
