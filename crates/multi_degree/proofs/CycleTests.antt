-- The columns of a component, as a test: the walk keeps it, and each column passes that of one first column.
use Rattle.std.proofs.Common.{◌≡◌, ℕ, zero, suc, ◌+◌, ◌<◌, Bool, true, false, ◌&&◌, refl, ap, ◌∙◌, sym, eqb, arith, inl, inr, cond}
use Rattle.std.proofs.Math.IntN.{ℤ, pos}
use Rattle.std.proofs.lemmas.Bool.{cases_eq, eqb-true, eq-eqb, or_left, or_right, or_cases, and_parts, and_from, false≢true}
use Rattle.f2_algebra.proofs.Chains.Tables.{same_test}
use Rattle.state_rank.proofs.BijectionLemmas.{IsOneToOne}
use Rattle.torus_geom.specs.Counts.{sum_below}
use Rattle.torus_geom.specs.Marks.{Marks, size, IsGrid}
use Rattle.torus_geom.specs.Components.{column_after, walk, is_first}
use Rattle.torus_geom.proofs.Sums.SumLemmas.{sum_below_same, sum_below-zero, sum_below_swap, sum_below-at_only, at_only}
use Rattle.torus_geom.proofs.Cycles.CycleLemmas.{after, after-add, Meets, meets_back, soon}
use Rattle.torus_geom.proofs.Cycles.ComponentLemmas.{column_after_one, walk-after, is_first_picks}
use Rattle.multi_degree.specs.ComponentDegrees.{any_below, is_on_cycle}
use Rattle.multi_degree.proofs.PartSums.{sum_where}

-- ---- some number below n passes
pub any_below-found : (n : ℕ) (test : ℕ → Bool) → any_below n test ≡ true → (i : ℕ) × (i < n) × (test i ≡ true)
any_below-found zero test h = absurd (false≢true h)
any_below-found (suc n) test h = elim (or_cases (test n) (any_below n test) h) [
  | inl e ↦ (n, omega arith, e)
  | inr e ↦ let found = any_below-found n test e in let below = found.1 in (found.0, omega arith, found.2)
]

pub any_below-true : (n : ℕ) (test : ℕ → Bool) (i : ℕ) → i < n → test i ≡ true → any_below n test ≡ true
any_below-true zero test i l h = absurd (omega arith)
any_below-true (suc n) test i l h = elim (cases_eq i n) [
  | inl e ↦ or_left (test n) (any_below n test) (sym (ap test e) ∙ h)
  | inr p ↦ or_right (test n) (any_below n test) (any_below-true n test i (omega arith) h)
]

-- two tests that pass together

module _ (g : Marks) (grid : IsGrid g) where
  abbrev step : ℕ → ℕ
  step = column_after g

  abbrev step_one : IsOneToOne (size g) (column_after g)
  step_one = column_after_one g grid

  -- the test is that the walk comes there
  pub meets_on : (f c : ℕ) → is_on_cycle g f c ≡ true → Meets (column_after g) f c
  meets_on f c h = let found = any_below-found (size g) (λ k. eqb (walk g k f) c) h in
      (found.0, sym (walk-after g grid found.0 f) ∙ eqb-true (walk g found.0 f) c found.2)

  pub on_meets : (f c : ℕ) → f < size g → Meets (column_after g) f c → is_on_cycle g f c ≡ true
  on_meets f c l m =
      let early = soon (size g) step step_one m.0 f l in
      any_below-true (size g) (λ k. eqb (walk g k f) c) early.0 early.1
      (eq-eqb (walk g early.0 f) c (walk-after g grid early.0 f ∙ early.2 ∙ m.1))

  pub meets_further : (c d e : ℕ) → Meets (column_after g) c d → Meets (column_after g) d e → Meets (column_after g) c e
  meets_further c d e m k = (k.0 + m.0, after-add step k.0 m.0 c ∙ ap (after step k.0) m.1 ∙ k.1)

  -- the walk keeps the columns of a component
  pub is_on_cycle-kept : (f c : ℕ) → f < size g → c < size g → is_on_cycle g f (column_after g c) ≡ is_on_cycle g f c
  is_on_cycle-kept f c lf lc = same_test _ _
      (λ h. on_meets f c lf (meets_further f (step c) c (meets_on f (step c) h)
      (meets_back (size g) step step_one c (step c) lc (1, refl))))
      (λ h. let m = meets_on f c h in on_meets f (step c) lf (suc m.0, ap step m.1))

  -- ---- each column is of one component
  -- that of the first column from which the walk comes to it
  first_of : (d : ℕ) → d < size g → (f : ℕ) × (f < size g) × (is_first g f ≡ true) × Meets (column_after g) f d
  first_of d l = (is_first_picks g grid).met d l

  one_first : (d : ℕ) (l : d < size g) (f : ℕ) → f < size g
      → (is_first g f && is_on_cycle g f d) ≡ eqb f (first_of d l).0
  unfolding first_of
  one_first d l f lf =
      let own = (is_first_picks g grid).met d l in
      same_test _ _
      (λ h. elim (cases_eq f own.0) [
        | inl e ↦ eq-eqb f own.0 e
        | inr p ↦
            let parts = and_parts (is_first g f) (is_on_cycle g f d) h in
            let back = meets_back (size g) step step_one own.0 d own.1 own.3 in
            absurd ((is_first_picks g grid).apart f own.0 lf own.1 parts.0 own.2 p
            (meets_further f d own.0 (meets_on f d parts.1) back))
      ])
      (λ h. let e = eqb-true f own.0 h in
      and_from (is_first g f) (is_on_cycle g f d) (ap (is_first g) e ∙ own.2)
      (ap (λ c. is_on_cycle g c d) e ∙ on_meets own.0 d own.1 own.3))

  -- the sum over all components of the sums over their columns
  pub sum_of_components : (F : ℕ → ℤ)
      → sum_where (size g) (is_first g) (λ f. sum_where (size g) (is_on_cycle g f) F) ≡ sum_below (size g) F
  unfolding first_of
  sum_of_components F =
      sum_below_same (size g) (λ f. cond (is_first g f) (sum_where (size g) (is_on_cycle g f) F) (pos 0))
      (λ f. sum_below (size g) (λ d. cond (is_first g f && is_on_cycle g f d) (F d) (pos 0)))
      (λ f l. guarded (size g) (is_first g f) (is_on_cycle g f))
      ∙ sum_below_swap (size g) (size g) (λ f d. cond (is_first g f && is_on_cycle g f d) (F d) (pos 0))
      ∙ sum_below_same (size g) (λ d. sum_below (size g)
      (λ f. cond (is_first g f && is_on_cycle g f d) (F d) (pos 0))) F
      (λ d l.
      sum_below_same (size g) (λ f. cond (is_first g f && is_on_cycle g f d) (F d) (pos 0))
      (at_only (first_of d l).0 (λ f. F d)) (λ f lf. ap (λ b. cond b (F d) (pos 0)) (one_first d l f lf))
      ∙ sum_below-at_only (size g) (first_of d l).0 (λ f. F d) (first_of d l).1)
    where
      guarded : (n : ℕ) (b : Bool) (test : ℕ → Bool)
          → cond b (sum_where n test F) (pos 0) ≡ sum_below n (λ d. cond (b && test d) (F d) (pos 0))
      guarded n true test = refl
      guarded n false test = sym (sum_below-zero n)
