-- Tests and sums over the numbers below n, taken in another order.
use Rattle.std.proofs.Common.{Bool, ap, eqb, inl, inr, sym, ℕ, ◌&&◌, ◌<◌, ◌∙◌, ◌≡◌}
use Rattle.std.proofs.lemmas.Bool.{false≢true, cases_Bool, cases_eq, eq-eqb, false_from_ne_true, ne_eqb}
use Rattle.f2_algebra.proofs.Chains.ParityLemmas.{below, parity_below, parity_below-one, parity_below-same, parity_swap}
use Rattle.state_rank.proofs.BijectionLemmas.{IsOneToOne}
use Rattle.state_rank.proofs.Pigeonhole.{onto}
use Rattle.torus_geom.proofs.Sums.AllBelowLemmas.{all_below-true, at_all_below}
use Rattle.torus_geom.specs.Counts.{all_below}

-- a test of the rows of a bijection is a test of all rows
pub all_below_reindex : (n : ℕ) (p : ℕ → ℕ) → IsOneToOne n p → (t : ℕ → Bool)
    → all_below n (λ c. t (p c)) ≡ all_below n t
all_below_reindex n p one t = elim (cases_Bool (all_below n t)) [
  | inl e ↦ all_below-true n (λ c. t (p c)) (λ c l. at_all_below n t e (p c) (one.small c l)) ∙ sym e
  | inr e ↦
      false_from_ne_true _ (λ h. false≢true (sym e ∙ all_below-true n t (λ r l.
      let (c, lc, is) = onto n p one.small one.apart r l in ap t (sym is) ∙ at_all_below n (λ c. t (p c)) h c lc)))
      ∙ sym e
]

-- a sum modulo 2 over the rows of a bijection is the sum over all rows
pub parity_below_reindex : (n : ℕ) (p : ℕ → ℕ) → IsOneToOne n p → (f : ℕ → Bool)
    → parity_below n (λ c. f (p c)) ≡ parity_below n f
parity_below_reindex n p one f =
    parity_below-same n (λ c. f (p c)) (λ c. parity_below n (λ r. eqb r (p c) && f r))
    (λ c l. sym (parity_below-one n (p c) f (one.small c l)))
    ∙ parity_swap (λ c r. eqb r (p c) && f r) (below n) (below n)
    ∙ parity_below-same n (λ r. parity_below n (λ c. eqb r (p c) && f r)) f
    (λ r l. row r (onto n p one.small one.apart r l))
  where
    row : (r : ℕ) → (c : ℕ) × (c < n) × (p c ≡ r) → parity_below n (λ c. eqb r (p c) && f r) ≡ f r
    row r (d, ld, is) =
        parity_below-same n (λ c. eqb r (p c) && f r) (λ c. eqb c d && f r)
        (λ c l. ap (λ b. b && f r) (elim (cases_eq c d) [
          | inl e ↦ eq-eqb r (p c) (sym is ∙ ap p (sym e)) ∙ sym (eq-eqb c d e)
          | inr q ↦ ne_eqb r (p c) (λ v. one.apart c d l ld q (sym v ∙ sym is)) ∙ sym (ne_eqb c d q)
        ]))
        ∙ parity_below-one n d (λ c. f r) ld

-- a double sum
pub parity_below_reindex_both : (n : ℕ) (p : ℕ → ℕ) → IsOneToOne n p → (f : ℕ → ℕ → Bool)
    → parity_below n (λ a. parity_below n (λ b. f (p a) (p b))) ≡ parity_below n (λ a. parity_below n (f a))
parity_below_reindex_both n p one f =
    parity_below-same n (λ a. parity_below n (λ b. f (p a) (p b))) (λ a. parity_below n (f (p a)))
    (λ a l. parity_below_reindex n p one (f (p a)))
    ∙ parity_below_reindex n p one (λ a. parity_below n (f a))
