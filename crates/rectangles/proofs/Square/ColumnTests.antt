-- What is asked of each column: tests of all numbers below n, taken together and taken apart.
use Rattle.std.proofs.Common.{◌≡◌, ℕ, zero, suc, ◌+◌, ◌<◌, Bool, true, false, not, ◌&&◌, ◌||◌, refl, ap, ap₂, ◌∙◌, sym, eqb, arith, inl, inr}
use Rattle.std.proofs.lemmas.Bool.{eq-eqb, ne_eqb, cases_eq}
use Rattle.f2_algebra.proofs.Chains.Tables.{same, and-true}
use Rattle.torus_geom.specs.Counts.{all_below}
use Rattle.rectangles.proofs.Square.TwoSteps.{differ, differ-true}
use Rattle.torus_geom.proofs.Sums.AllBelowLemmas.{all_below-same}

-- two tests hold below n if both do
pub all_below-and : (n : ℕ) (p q : ℕ → Bool) → all_below n (λ t. p t && q t) ≡ (all_below n p && all_below n q)
all_below-and zero p q = refl
all_below-and (suc n) p q =
    ap (λ r. (p n && q n) && r) (all_below-and n p q)
    ∙ same 4 (λ a b c d. (a && b) && (c && d)) (λ a b c d. (a && c) && (b && d)) refl (p n) (q n) (all_below n p)
    (all_below n q)

-- the test that always holds
pub all_below-always : (n : ℕ) → all_below n (λ t. true) ≡ true
all_below-always zero = refl
all_below-always (suc n) = all_below-always n

-- what is asked at c alone
pub all_below-past : (n c : ℕ) (b : Bool) → n < c + 1 → all_below n (λ t. differ t c || b) ≡ true
all_below-past zero c b h = refl
all_below-past (suc n) c b h =
    ap₂ (λ p q. (p || b) && q) (differ-true n c (omega arith)) (all_below-past n c b (omega arith))

-- what is asked at c alone is asked there
pub all_below-one : (n c : ℕ) (b : Bool) → c < n → all_below n (λ t. differ t c || b) ≡ b
all_below-one zero c b h = absurd (omega arith)
all_below-one (suc n) c b h = elim (cases_eq n c) [
  | inl e ↦ ap₂ (λ p q. (not p || b) && q) (eq-eqb n c e) (all_below-past n c b (omega arith)) ∙ and-true b
  | inr q ↦ ap₂ (λ p r. (p || b) && r) (differ-true n c q) (all_below-one n c b (omega arith))
]

-- what is asked at c, and what is asked elsewhere
pub all_below-split : (n c : ℕ) (p : ℕ → Bool) → c < n → all_below n p ≡ (p c && all_below n (λ t. eqb t c || p t))
all_below-split n c p h =
    all_below-same n p (λ t. (differ t c || p c) && (eqb t c || p t)) (λ t l. elim (cases_eq t c) [
      | inl e ↦
          ap p e ∙ same 1 (λ a. a) (λ a. (false || a) && true) refl (p c)
          ∙ ap (λ r. (not r || p c) && (r || p t)) (sym (eq-eqb t c e))
      | inr q ↦ ap (λ r. (not r || p c) && (r || p t)) (sym (ne_eqb t c q))
    ])
    ∙ all_below-and n (λ t. differ t c || p c) (λ t. eqb t c || p t)
    ∙ ap (λ r. r && all_below n (λ t. eqb t c || p t)) (all_below-one n c (p c) h)
