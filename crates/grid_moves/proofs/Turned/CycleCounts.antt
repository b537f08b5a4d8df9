-- The number of cycles does not depend on which number of each cycle is counted, nor on the way round.
-- Route: of two choices of one number in each cycle, the pairs (c of the first, d of the second, both of
-- one cycle) are counted by c and by d.
use Rattle.std.proofs.Common.{◌≡◌, ℕ, zero, suc, ◌+◌, ◌<◌, Bool, true, false, not, ◌&&◌, refl, ap, ◌∙◌, sym, eqb, arith, inl, inr, cond}
use Rattle.std.proofs.Math.IntN.{pos}
use Rattle.std.proofs.lemmas.Bool.{cases_eq, cases_Bool, eqb-true, eq-eqb, ne_eqb, and_from, and_parts, false_from_ne_true, false≢true, not-true, not-false}
use Rattle.state_rank.proofs.BijectionLemmas.{IsOneToOne}
use Rattle.state_rank.proofs.Pigeonhole.{onto}
use Rattle.torus_geom.specs.Counts.{one_if, count_below, all_below}
use Rattle.torus_geom.proofs.Sums.AllBelowLemmas.{all_below-false}
use Rattle.torus_geom.proofs.Sums.SumLemmas.{sum_below_same, sum_below_swap, sum_below-at_only, sum_below_reindex, sum_below_vanishes, at_only}
use Rattle.torus_geom.proofs.Cycles.CycleLemmas.{after, after-add, after_below, Meets, PicksOne, soon, meets_back}

module _ (n : ℕ) (s : ℕ → ℕ) (one : IsOneToOne n s) where
  -- whether the walk from d comes to c
  abbrev comes_to : ℕ → ℕ → Bool
  comes_to d c = not (all_below n (λ k. not (eqb (after s k d) c)))

  comes_to-true : (d c : ℕ) → d < n → Meets s d c → comes_to d c ≡ true
  comes_to-true d c l (k, e) =
      let (i, small, same) = soon n s one k d l in
      ap not (all_below-false n (λ k. not (eqb (after s k d) c)) i small (ap not (eq-eqb (after s i d) c (same ∙ e))))

  found_below : (m : ℕ) (t : ℕ → Bool) → all_below m t ≡ false → (i : ℕ) × (i < m) × (t i ≡ false)
  found_below zero t e = absurd (false≢true (sym e))
  found_below (suc m) t e = elim (cases_Bool (t m)) [
    | inl h ↦ let r = found_below m t (sym (ap (λ b. b && all_below m t) h) ∙ e) in let l = r.1 in
        (r.0, omega arith, r.2)
    | inr h ↦ (m, omega arith, h)
  ]

  comes_to-meets : (d c : ℕ) → comes_to d c ≡ true → Meets s d c
  comes_to-meets d c h =
      let (k, l, e) = found_below n (λ k. not (eqb (after s k d) c)) (not-true _ h) in
      (k, eqb-true (after s k d) c (not-false _ e))

  meets_on : (c d e : ℕ) → Meets s c d → Meets s d e → Meets s c e
  meets_on c d e (j, i) (k, h) = (k + j, after-add s k j c ∙ ap (after s k) i ∙ h)

  -- of the numbers that are picked one comes to c
  one_picked : (pick : ℕ → Bool) → PicksOne n s pick → (c : ℕ) → c < n
      → count_below n (λ d. pick d && comes_to d c) ≡ pos 1
  one_picked pick picks c l =
      let (d, ld, pd, md) = picks.met c l in
      sum_below_same n (λ e. one_if (pick e && comes_to e c)) (at_only d (λ e. pos 1)) (λ e le. elim (cases_eq e d) [
        | inl i ↦
            ap one_if (ap (λ t. pick t && comes_to t c) i ∙ and_from (pick d) (comes_to d c) pd
            (comes_to-true d c ld md))
            ∙ sym (ap (λ b. cond b (pos 1) (pos 0)) (eq-eqb e d i))
        | inr q ↦
            ap one_if (false_from_ne_true _ (λ h. let (pe, me) = and_parts (pick e) (comes_to e c) h in
            picks.apart e d le ld pe pd q (meets_on e c d (comes_to-meets e c me) (meets_back n s one d c ld md))))
            ∙ sym (ap (λ b. cond b (pos 1) (pos 0)) (ne_eqb e d q))
      ])
      ∙ sum_below-at_only n d (λ e. pos 1) ld

  comes_to_back : (c d : ℕ) → c < n → d < n → comes_to c d ≡ comes_to d c
  comes_to_back c d lc ld = elim (cases_Bool (comes_to d c)) [
    | inl e ↦ comes_to-true c d lc (meets_back n s one d c ld (comes_to-meets d c e)) ∙ sym e
    | inr e ↦
        false_from_ne_true _ (λ h. false≢true (sym e ∙ comes_to-true d c ld
        (meets_back n s one c d lc (comes_to-meets c d h)))) ∙ sym e
  ]

  one_if-and : (b : Bool) (z : ℕ → Bool) → (b ≡ true → count_below n z ≡ pos 1)
      → one_if b ≡ count_below n (λ d. b && z d)
  one_if-and true z h = sym (h refl)
  one_if-and false z h = sym (sum_below_vanishes n (λ d. pos 0) (λ t l. refl))

  -- two choices of one number of each cycle have as many numbers
  pub same_count : (p q : ℕ → Bool) → PicksOne n s p → PicksOne n s q → count_below n p ≡ count_below n q
  same_count p q ps qs =
      sum_below_same n (λ c. one_if (p c)) (λ c. count_below n (λ d. p c && (q d && comes_to d c)))
      (λ c l. one_if-and (p c) (λ d. q d && comes_to d c) (λ h. one_picked q qs c l))
      ∙ sum_below_swap n n (λ c d. one_if (p c && (q d && comes_to d c)))
      ∙ sum_below_same n (λ d. count_below n (λ c. p c && (q d && comes_to d c))) (λ d. one_if (q d)) (λ d l.
      sum_below_same n (λ c. one_if (p c && (q d && comes_to d c))) (λ c. one_if (q d && (p c && comes_to c d))) (λ c k.
      ap one_if (ap (λ b. p c && (q d && b)) (sym (comes_to_back c d k l)) ∙ move (p c) (q d) (comes_to c d)))
      ∙ sym (one_if-and (q d) (λ c. p c && comes_to c d) (λ h. one_picked p ps d l)))
    where
      move : (a b c : Bool) → (a && (b && c)) ≡ (b && (a && c))
      move a b c = grind arith

-- a walk t that goes round the cycles of s, renamed by r, the other way
module _ (n : ℕ) (s t r : ℕ → ℕ) (os : IsOneToOne n s) (ot : IsOneToOne n t) (or : IsOneToOne n r)
    (back : (c : ℕ) → c < n → t (r (s c)) ≡ r c) where
  same_of : (c d : ℕ) → c < n → d < n → r c ≡ r d → c ≡ d
  same_of c d lc ld e = elim (cases_eq c d) [ inl i ↦ i | inr p ↦ absurd (or.apart c d lc ld p e) ]

  -- where the walk of t is after k steps is where that of s came from
  walked_back : (k c : ℕ) → c < n → (e : ℕ) × (e < n) × (after t k (r c) ≡ r e) × (after s k e ≡ c)
  walked_back zero c l = (c, l, refl, refl)
  walked_back (suc k) c l =
      let (e, le, at, is) = walked_back k c l in
      let (f, lf, from) = onto n s os.small os.apart e le in
      let v : k + 1 ≡ suc k = omega arith in (
        f,
        lf,
        ap t (at ∙ ap r (sym from)) ∙ back f lf,
        ap (λ i. after s i f) (sym v) ∙ after-add s k 1 f ∙ ap (after s k) from ∙ is,
      )

  meets_of : (c d : ℕ) → c < n → d < n → Meets t (r c) (r d) → Meets s c d
  meets_of c d lc ld (k, h) =
      let (e, le, at, is) = walked_back k c lc in
      meets_back n s os d c ld (k, ap (after s k) (same_of d e ld le (sym h ∙ at)) ∙ is)

  walked : (k c : ℕ) → c < n → after t k (r (after s k c)) ≡ r c
  walked zero c l = refl
  walked (suc k) c l =
      let v : k + 1 ≡ suc k = omega arith in
      let lk = after_below n s os k c l in
      ap (λ i. after t i (r (after s (suc k) c))) (sym v) ∙ after-add t k 1 (r (after s (suc k) c))
      ∙ ap (after t k) (back (after s k c) lk) ∙ walked k c l

  meets_to : (c d : ℕ) → c < n → d < n → Meets s c d → Meets t (r c) (r d)
  meets_to c d lc ld (k, h) =
      meets_back n t ot (r d) (r c) (or.small d ld) (k, ap (λ i. after t k (r i)) (sym h) ∙ walked k c lc)

  picks_renamed : (q : ℕ → Bool) → PicksOne n t q → PicksOne n s (λ c. q (r c))
  picks_renamed q qs = record {
    apart = λ c d lc ld qc qd p m. qs.apart (r c) (r d) (or.small c lc) (or.small d ld) qc qd (or.apart c d lc ld p)
        (meets_to c d lc ld m);
    met = λ d ld.
        let (e, le, qe, me) = qs.met (r d) (or.small d ld) in
        let (c, lc, is) = onto n r or.small or.apart e le in
        (c, lc, ap q is ∙ qe, meets_of c d lc ld (me.0, ap (after t me.0) is ∙ me.1));
  }

  -- it has as many cycles
  pub same_cycles : (p q : ℕ → Bool) → PicksOne n s p → PicksOne n t q → count_below n p ≡ count_below n q
  same_cycles p q ps qs =
      same_count n s os p (λ c. q (r c)) ps (picks_renamed q qs) ∙ sum_below_reindex n r or (λ c. one_if (q c))

-- a walk t that goes round the cycles of s, renamed by r
module _ (n : ℕ) (s t r : ℕ → ℕ) (os : IsOneToOne n s) (ot : IsOneToOne n t) (or : IsOneToOne n r)
    (along : (c : ℕ) → c < n → t (r c) ≡ r (s c)) where
  walked_along : (k c : ℕ) → c < n → after t k (r c) ≡ r (after s k c)
  walked_along zero c l = refl
  walked_along (suc k) c l = ap t (walked_along k c l) ∙ along (after s k c) (after_below n s os k c l)

  same_named : (c d : ℕ) → c < n → d < n → r c ≡ r d → c ≡ d
  same_named c d lc ld e = elim (cases_eq c d) [ inl i ↦ i | inr p ↦ absurd (or.apart c d lc ld p e) ]

  picks_along : (q : ℕ → Bool) → PicksOne n t q → PicksOne n s (λ c. q (r c))
  picks_along q qs = record {
    apart = λ c d lc ld qc qd p m. qs.apart (r c) (r d) (or.small c lc) (or.small d ld) qc qd (or.apart c d lc ld p)
        (m.0, walked_along m.0 c lc ∙ ap r m.1);
    met = λ d ld.
        let (e, le, qe, me) = qs.met (r d) (or.small d ld) in
        let (c, lc, is) = onto n r or.small or.apart e le in (
          c,
          lc,
          ap q is ∙ qe,
          (
            me.0,
            same_named (after s me.0 c) d (after_below n s os me.0 c lc) ld
                (sym (walked_along me.0 c lc) ∙ ap (after t me.0) is ∙ me.1),
          ),
        );
  }

  -- it has as many cycles
  pub same_cycles_along : (p q : ℕ → Bool) → PicksOne n s p → PicksOne n t q → count_below n p ≡ count_below n q
  same_cycles_along p q ps qs =
      same_count n s os p (λ c. q (r c)) ps (picks_along q qs) ∙ sum_below_reindex n r or (λ c. one_if (q c))
