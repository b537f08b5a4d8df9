-- The parity of the pairs of a bijection f that is O after s: that of the pairs of O, and of n less the
-- number of cycles of s. Route: take the numbers in order; one that is not yet picked is taken out of
-- its cycle, becomes a cycle of its own, and is picked; one exchange turns the parity. When all are
-- picked, s leaves each number, and f is O.
use Rattle.std.proofs.Common.{◌≡◌, ◌≢◌, ◌⊎◌, ℕ, zero, suc, ◌+◌, ◌<◌, Bool, true, false, ◌||◌, refl, ap, ◌∙◌, sym, eqb, arith, inl, inr, cond}
use Rattle.std.proofs.Math.IntN.{ℤ, pos, ◌+ℤ◌, ◌-ℤ◌}
use Rattle.std.proofs.lemmas.Int.{ints}
use Rattle.std.proofs.lemmas.Bool.{cases_eq, cases_Bool, or_cases, or_left, or_right, eqb-true, eq-eqb, ne_eqb, false≢true}
use Rattle.state_rank.proofs.BijectionLemmas.{IsOneToOne}
use Rattle.state_rank.proofs.SwapLemmas.{exchanged, exchanged-first, exchanged-second, exchanged-other, exchanged_below, exchanged_back}
use Rattle.torus_geom.specs.Counts.{one_if, count_below}
use Rattle.torus_geom.proofs.Sums.SumLemmas.{sum_below_same, balanced_sum, sum_below-at_only, at_only}
use Rattle.torus_geom.proofs.Pairs.PairLemmas.{pairs, count_below-all}
use Rattle.torus_geom.proofs.Pairs.RowPairLemmas.{pairs_same}
use Rattle.torus_geom.proofs.Pairs.CornerCounts.{seam_term}
use Rattle.torus_geom.proofs.Pairs.ExchangeLaw.{IsExchange, pairs-exchanged_both, points_within}
use Rattle.torus_geom.proofs.Cycles.CycleLemmas.{after, after_below, Meets, PicksOne}

-- the bijection f with its values at a and b exchanged
abbrev pub with_exchange : (ℕ → ℕ) → ℕ → ℕ → ℕ → ℕ
with_exchange f a b c = f (exchanged a b c)

-- it is a bijection
pub with_exchange_one : (n : ℕ) (f : ℕ → ℕ) (a b : ℕ) → IsOneToOne n f → a < n → b < n
    → IsOneToOne n (with_exchange f a b)
with_exchange_one n f a b one la lb = record {
  small = λ c l. one.small (exchanged a b c) (exchanged_below n a b c la lb l);
  apart = λ c d lc ld p. one.apart (exchanged a b c) (exchanged a b d) (exchanged_below n a b c la lb lc)
      (exchanged_below n a b d la lb ld)
      (λ e. p (sym (exchanged_back a b c) ∙ ap (exchanged a b) e ∙ exchanged_back a b d));
}

-- one exchange turns the parity of the pairs
exchange_parity : (n : ℕ) (f : ℕ → ℕ) (a b : ℕ) → IsOneToOne n f → a < n → b < n → a ≢ b
    → (k : ℤ) × (pairs n f f ≡ pairs n (with_exchange f a b) (with_exchange f a b) +ℤ pos 1 +ℤ (k +ℤ k))
exchange_parity n f a b one la lb p =
    let exchange : IsExchange n a b (f a) (f b) f (with_exchange f a b) = record {
      a_below = la;
      b_below = lb;
      apart = p;
      one = one;
      one_after = with_exchange_one n f a b one la lb;
      from_a = refl;
      from_b = refl;
      to_a = ap f (exchanged-first a b a refl);
      to_b = ap f (exchanged-second a b b (λ e. p (sym e)) refl);
      others = λ c l q r. sym (ap f (exchanged-other a b c q r));
    } in
    let law = pairs-exchanged_both n a b (f a) (f b) f (with_exchange f a b) exchange in
    (points_within n f a b (f a) (f b) -ℤ seam_term n a b (f a) (f b), omega (arith, ints))

-- ---- c is taken out of its cycle, and is a cycle of its own; b is the number before it
module _ (n : ℕ) (s : ℕ → ℕ) (one : IsOneToOne n s) (pick : ℕ → Bool) (picks : PicksOne n s pick) (b c : ℕ) (lb : b < n)
    (lc : c < n) (to_c : s b ≡ c) (off : b ≢ c) (new : pick c ≡ false) where
  abbrev t : ℕ → ℕ
  t = with_exchange s b c

  t_c : t c ≡ c
  t_c = ap s (exchanged-second b c c (λ e. off (sym e)) refl) ∙ to_c

  t_b : t b ≡ s c
  t_b = ap s (exchanged-first b c b refl)

  t_other : (d : ℕ) → d ≢ b → d ≢ c → t d ≡ s d
  t_other d p q = ap s (exchanged-other b c d p q)

  past_c : s c ≢ c
  past_c e = one.apart c b lc lb (λ i. off (sym i)) (e ∙ sym to_c)

  not_c : (d : ℕ) → pick d ≡ true → d ≢ c
  not_c d f e = false≢true (sym new ∙ ap pick (sym e) ∙ f)

  -- the new walk is part of the old one, and avoids c
  old_walk : (d k : ℕ) → d < n → d ≢ c → Meets s d (after t k d) × (after t k d ≢ c) × (after t k d < n)
  old_walk d zero l q = ((0, refl), q, l)
  old_walk d (suc k) l q =
      let h = old_walk d k l q in
      let m = h.0 in
      elim (cases_eq (after t k d) b) [
        | inl e ↦
            let i : t (after t k d) ≡ s c = ap t e ∙ t_b in
            let v : s c < n = one.small c lc in
            ((suc (suc m.0), ap (λ u. s (s u)) (m.1 ∙ e) ∙ ap s to_c ∙ sym i), (λ j. past_c (sym i ∙ j)), omega arith)
        | inr r ↦
            let i = t_other (after t k d) r h.1 in
            let v : s (after t k d) < n = one.small (after t k d) h.2 in
            ((suc m.0, ap s m.1 ∙ sym i), (λ j. one.apart (after t k d) b h.2 lb r (sym i ∙ j ∙ sym to_c)), omega arith)
      ]

  -- the old walk is the new one but for c
  new_walk : (d k : ℕ) → d < n → d ≢ c
      → ((after s k d ≡ c) × Meets t d b) ⊎ ((after s k d ≢ c) × Meets t d (after s k d))
  new_walk d zero l q = inr (q, (0, refl))
  new_walk d (suc k) l q = elim (new_walk d k l q) [
    | inl h ↦
        let i : s (after s k d) ≡ s c = ap s h.0 in
        let m = h.1 in
        inr ((λ j. past_c (sym i ∙ j)), (suc m.0, ap t m.1 ∙ t_b ∙ sym i))
    | inr h ↦
        let m = h.1 in
        elim (cases_eq (after s k d) b) [
          | inl e ↦ inl (ap s e ∙ to_c, (m.0, m.1 ∙ e))
          | inr r ↦
              inr (
                (λ j. one.apart (after s k d) b (after_below n s one k d l) lb r (j ∙ sym to_c)),
                (suc m.0, ap t m.1 ∙ t_other (after s k d) r h.0),
              )
        ]
  ]

  stays : (k : ℕ) → after t k c ≡ c
  stays zero = refl
  stays (suc k) = ap t (stays k) ∙ t_c

  -- the same with c picked
  abbrev pub pick_more : ℕ → Bool
  pick_more d = eqb d c || pick d

  -- they are one of each cycle of the new walk
  pub picks_more : PicksOne n (with_exchange s b c) pick_more
  picks_more = record {
    apart = λ d e ld le fd fe p m. parted d e ld le (or_cases (eqb d c) (pick d) fd)
        (or_cases (eqb e c) (pick e) fe) p m;
    met = λ d l. reached d l (cases_eq d c);
  }
    where
      parted : (d e : ℕ) → d < n → e < n → (eqb d c ≡ true) ⊎ (pick d ≡ true) → (eqb e c ≡ true) ⊎ (pick e ≡ true)
          → d ≢ e → Meets t d e → ⊥
      parted d e ld le (inl i) (inl j) p m = p (eqb-true d c i ∙ sym (eqb-true e c j))
      parted d e ld le (inl i) (inr j) p m =
          p (eqb-true d c i ∙ sym (stays m.0) ∙ ap (after t m.0) (sym (eqb-true d c i)) ∙ m.1)
      parted d e ld le (inr i) (inl j) p m = (old_walk d m.0 ld (not_c d i)).1 (m.1 ∙ eqb-true e c j)
      parted d e ld le (inr i) (inr j) p m = let w = (old_walk d m.0 ld (not_c d i)).0 in
          picks.apart d e ld le i j p (w.0, w.1 ∙ m.1)

      reached : (d : ℕ) → d < n → (d ≡ c) ⊎ (d ≢ c) → (e : ℕ) × (e < n) × (pick_more e ≡ true) × Meets t e d
      reached d l (inl i) = (c, lc, or_left (eqb c c) (pick c) (eq-eqb c c refl), (0, sym i))
      reached d l (inr q) =
          let h = picks.met d l in
          let m = h.3 in
          elim (new_walk h.0 m.0 h.1 (not_c h.0 h.2)) [
            | inl w ↦ absurd (q (sym m.1 ∙ w.0))
            | inr w ↦ let u = w.1 in (h.0, h.1, or_right (eqb h.0 c) (pick h.0) h.2, (u.0, u.1 ∙ m.1))
          ]

  -- one more is picked
  pub count_below-pick_more : count_below n pick_more ≡ count_below n pick +ℤ pos 1
  count_below-pick_more =
      balanced_sum n (λ d. one_if (pick_more d)) (λ d. one_if (pick d)) (at_only c (λ d. pos 1))
      (λ d l. each d (cases_eq d c))
      ∙ ap (λ z. count_below n pick +ℤ z) (sum_below-at_only n c (λ d. pos 1) lc)
    where
      each : (d : ℕ) → (d ≡ c) ⊎ (d ≢ c) → one_if (pick_more d) ≡ one_if (pick d) +ℤ at_only c (λ d. pos 1) d
      each d (inl e) =
          ap (λ u. one_if (u || pick d)) (eq-eqb d c e)
          ∙ sym (λ i. one_if ((ap pick e ∙ new) i) +ℤ cond (eq-eqb d c e i) (pos 1) (pos 0))
      each d (inr p) = ap (λ u. one_if (u || pick d)) (ne_eqb d c p) ∙ add_none (one_if (pick d))
          ∙ sym (ap (λ u. one_if (pick d) +ℤ cond u (pos 1) (pos 0)) (ne_eqb d c p))
        where
          add_none : (z : ℤ) → z ≡ z +ℤ pos 0
          add_none z = omega (arith, ints)

-- where a number that is not picked comes from
before : (n : ℕ) (s : ℕ → ℕ) → IsOneToOne n s → (d c : ℕ) → d < n → d ≢ c → (k : ℕ) → after s k d ≡ c
    → (b : ℕ) × (b < n) × (s b ≡ c) × (b ≢ c)
before n s one d c l p zero e = absurd (p e)
before n s one d c l p (suc k) e = elim (cases_eq (after s k d) c) [
  | inl i ↦ before n s one d c l p k i
  | inr q ↦ (after s k d, after_below n s one k d l, e, q)
]

-- twice a whole number
abbrev pub IsEven : ℤ → Type 0
IsEven z = (k : ℤ) × (z ≡ k +ℤ k)

module _ (n : ℕ) (O : ℕ → ℕ) where
  -- m numbers from i on are left to pick
  pub pairs_parity : (m i : ℕ) → i + m ≡ n → (s f : ℕ → ℕ) → IsOneToOne n s → IsOneToOne n f
      → ((c : ℕ) → c < n → f c ≡ O (s c))
      → (pick : ℕ → Bool) → PicksOne n s pick → ((c : ℕ) → c < i → pick c ≡ true)
      → IsEven (pairs n f f -ℤ pairs n O O +ℤ (pos n -ℤ count_below n pick))
  pairs_parity zero i h s f os of says pick picks have =
      let all : count_below n pick ≡ pos n =
      sum_below_same n (λ c. one_if (pick c)) (λ c. pos 1) (λ c l. ap one_if (have c (omega arith)))
      ∙ count_below-all n in
      let fixed : (c : ℕ) → c < n → f c ≡ O c = λ c l. says c l ∙ ap O (at_rest c l) in
      let same_pairs : pairs n f f ≡ pairs n O O = pairs_same n f O f O fixed fixed in
      (pos 0, omega (arith, ints))
    where
      at_rest : (c : ℕ) → c < n → s c ≡ c
      at_rest c l = elim (cases_eq (s c) c) [
        | inl e ↦ e
        | inr p ↦
            absurd (let small = os.small c l in
            picks.apart c (s c) l small (have c (omega arith)) (have (s c) (omega arith)) (λ v. p (sym v))
            (1, refl))
      ]
  pairs_parity (suc m) i h s f os of says pick picks have = elim (cases_Bool (pick i)) [
    | inl k ↦ pairs_parity m (i + 1) (omega arith) s f os of says pick picks (λ c l. elim (cases_eq c i) [
      | inl e ↦ ap pick e ∙ k
      | inr q ↦ have c (omega arith)
    ])
    | inr new ↦
        let li : i < n = omega arith in
        let from = picks.met i li in
        let on = from.3 in
        let start_differs : from.0 ≢ i = λ e. false≢true (sym new ∙ ap pick (sym e) ∙ from.2) in
        let prior = before n s os from.0 i from.1 start_differs on.0 on.1 in
        let b = prior.0 in
        let next = picks_more n s os pick picks b i prior.1 li prior.2 prior.3 new in
        let one_more = count_below-pick_more n s os pick picks b i prior.1 li prior.2 prior.3 new in
        let turned = exchange_parity n f b i of prior.1 li prior.3 in
        let rest =
        pairs_parity m (i + 1) (omega arith) (with_exchange s b i) (with_exchange f b i)
        (with_exchange_one n s b i os prior.1 li) (with_exchange_one n f b i of prior.1 li)
        (λ c l. says (exchanged b i c) (exchanged_below n b i c prior.1 li l)) (λ d. eqb d i || pick d) next
        (λ c l. elim (cases_eq c i) [
          | inl e ↦ or_left (eqb c i) (pick c) (eq-eqb c i e)
          | inr q ↦ or_right (eqb c i) (pick c) (have c (omega arith))
        ]) in
        let parity = turned.1 in
        let rest_even = rest.1 in
        (rest.0 +ℤ turned.0 +ℤ pos 1, omega (arith, ints))
  ]
