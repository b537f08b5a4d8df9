-- The cycles of a bijection s of the numbers below n: its walk comes back, and the numbers that are the
-- least of their cycle are one of each cycle.
use Rattle.std.proofs.Common.{◌≡◌, ◌≢◌, ◌⊎◌, ℕ, zero, suc, ◌+◌, ◌-◌, ◌<◌, ◌≤◌, Bool, true, refl, ap, ◌∙◌, sym, arith, inl, inr}
use Rattle.std.proofs.lemmas.Bool.{cases_eq, cases_lt}
use Rattle.state_rank.proofs.Pigeonhole.{no_more}
use Rattle.state_rank.proofs.BijectionLemmas.{IsOneToOne}

-- where the walk of s from c is after k steps
abbrev pub after : (ℕ → ℕ) → ℕ → ℕ → ℕ
after s zero c = c
after s (suc k) c = s (after s k c)

-- the walk from c comes to d
abbrev pub Meets : (ℕ → ℕ) → ℕ → ℕ → Type 0
Meets s c d = (k : ℕ) × (after s k c ≡ d)

-- the numbers that pass the test are one of each cycle
pub record PicksOne (n : ℕ) (s : ℕ → ℕ) (pick : ℕ → Bool) : Type 0 where
  pub apart : (c d : ℕ) → c < n → d < n → pick c ≡ true → pick d ≡ true → c ≢ d → Meets s c d → ⊥
  pub met : (d : ℕ) → d < n → (c : ℕ) × (c < n) × (pick c ≡ true) × Meets s c d

-- ---- two of more than n values below n are the same
module _ (f : ℕ → ℕ) where
  earlier : (m b : ℕ) → ((i : ℕ) × (i < m) × (f i ≡ b)) ⊎ ((i : ℕ) → i < m → f i ≢ b)
  earlier zero b = inr (λ i l. absurd (omega arith))
  earlier (suc m) b = elim (cases_eq (f m) b) [
    | inl e ↦ inl (m, omega arith, e)
    | inr p ↦ elim (earlier m b) [
      | inl h ↦ let l = h.1 in inl (h.0, omega arith, h.2)
      | inr h ↦ inr (λ i l e. elim (cases_eq i m) [ inl q ↦ p (ap f (sym q) ∙ e) | inr q ↦ h i (omega arith) e ])
    ]
  ]

  repeats : (m : ℕ)
      → ((i : ℕ) × (j : ℕ) × (i < j) × (j < m) × (f i ≡ f j)) ⊎ ((b c : ℕ) → b < m → c < m → b ≢ c → f b ≢ f c)
  repeats zero = inr (λ b c lb lc p e. absurd (omega arith))
  repeats (suc m) = elim (repeats m) [
    | inl h ↦ let l = h.3 in inl (h.0, h.1, h.2, omega arith, h.4)
    | inr h ↦ elim (earlier m (f m)) [
      | inl k ↦ inl (k.0, m, k.1, omega arith, k.2)
      | inr k ↦ inr (λ b c lb lc p e. elim (cases_eq b m) [
        | inl i ↦ k c (omega arith) (sym e ∙ ap f i)
        | inr i ↦
            elim (cases_eq c m) [
              | inl j ↦ k b (omega arith) (e ∙ ap f j)
              | inr j ↦ h b c (omega arith) (omega arith) p e
            ]
      ])
    ]
  ]

-- the least of m values
least : (f : ℕ → ℕ) (m : ℕ) → (j : ℕ) × (j < suc m) × ((k : ℕ) → k < suc m → f j ≤ f k)
least f zero = (0, omega arith, λ k l. let e : k ≡ 0 = omega arith in let i : f k ≡ f 0 = ap f e in omega arith)
least f (suc m) =
    let h = least f m in
    let l = h.1 in
    elim (cases_lt (f (suc m)) (f h.0)) [
      | inl less ↦ (
        suc m,
        omega arith,
        λ k q. elim (cases_eq k (suc m)) [
          | inl e ↦ let i : f k ≡ f (suc m) = ap f e in omega arith
          | inr p ↦ let i = h.2 k (omega arith) in omega arith
        ],
      )
      | inr more ↦ (
        h.0,
        omega arith,
        λ k q. elim (cases_eq k (suc m)) [
          | inl e ↦ let i : f k ≡ f (suc m) = ap f e in omega arith
          | inr p ↦ h.2 k (omega arith)
        ],
      )
    ]

-- the steps of one walk after another
pub after-add : (s : ℕ → ℕ) (i j c : ℕ) → after s (i + j) c ≡ after s i (after s j c)
after-add s zero j c = let e : 0 + j ≡ j = omega arith in ap (λ k. after s k c) e
after-add s (suc i) j c = let e : suc i + j ≡ suc (i + j) = omega arith in
    ap (λ k. after s k c) e ∙ ap s (after-add s i j c)

module _ (n : ℕ) (s : ℕ → ℕ) (one : IsOneToOne n s) where
  -- the walk stays below n
  pub after_below : (k c : ℕ) → c < n → after s k c < n
  after_below zero c l = l
  after_below (suc k) c l = one.small (after s k c) (after_below k c l)

  -- two walks that meet after as many steps began at one number
  peel : (k c d : ℕ) → c < n → d < n → after s k c ≡ after s k d → c ≡ d
  peel zero c d lc ld e = e
  peel (suc k) c d lc ld e = peel k c d lc ld (elim (cases_eq (after s k c) (after s k d)) [
    | inl i ↦ i
    | inr p ↦ absurd (one.apart (after s k c) (after s k d) (after_below k c lc) (after_below k d ld) p e)
  ])

  -- the walk comes back after at most n steps
  period : (c : ℕ) → c < n → (m : ℕ) × (0 < m) × (m ≤ n) × (after s m c ≡ c)
  period c l = elim (repeats (λ k. after s k c) (n + 1)) [
    | inl h ↦
        let before = h.2 in
        let small = h.3 in
        let e : h.0 + (h.1 - h.0) ≡ h.1 = omega arith in (
          h.1 - h.0,
          omega arith,
          omega arith,
          sym (peel h.0 c (after s (h.1 - h.0) c) l (after_below (h.1 - h.0) c l)
              (h.4 ∙ ap (λ k. after s k c) (sym e) ∙ after-add s h.0 (h.1 - h.0) c)),
        )
    | inr h ↦ absurd (let r = no_more (n + 1) n (λ k. after s k c) (λ k q. after_below k c l) h in omega arith)
  ]

  -- what is met is met before the walk comes back
  within : (fuel k c m : ℕ) → k < fuel → 0 < m → after s m c ≡ c → (i : ℕ) × (i < m) × (after s i c ≡ after s k c)
  within zero k c m q p e = absurd (omega arith)
  within (suc fuel) k c m q p e = elim (cases_lt k m) [
    | inl l ↦ (k, l, refl)
    | inr l ↦
        let h = within fuel (k - m) c m (omega arith) p e in
        let u : (k - m) + m ≡ k = omega arith in
        (h.0, h.1, h.2 ∙ ap (after s (k - m)) (sym e) ∙ sym (after-add s (k - m) m c) ∙ ap (λ t. after s t c) u)
  ]

  -- and so in fewer than n steps
  pub soon : (k c : ℕ) → c < n → (i : ℕ) × (i < n) × (after s i c ≡ after s k c)
  soon k c l =
      let m = period c l in
      let small = m.2 in
      let h = within (k + 1) k c m.0 (omega arith) m.1 m.3 in
      let below = h.1 in
      (h.0, omega arith, h.2)

  -- and the other way round
  pub meets_back : (c d : ℕ) → c < n → Meets s c d → Meets s d c
  meets_back c d l k =
      let m = period c l in
      let i = within (k.0 + 1) k.0 c m.0 (omega arith) m.1 m.3 in
      let below = i.1 in
      let u : (m.0 - i.0) + i.0 ≡ m.0 = omega arith in (
        m.0 - i.0,
        ap (after s (m.0 - i.0)) (sym (i.2 ∙ k.1)) ∙ sym (after-add s (m.0 - i.0) i.0 c) ∙ ap (λ t. after s t c) u
            ∙ m.3,
      )

  module _ (first : ℕ → Bool)
      (leads : (c : ℕ) → first c ≡ true → (k : ℕ) → k < n → c ≤ after s k c)
      (led : (c : ℕ) → ((k : ℕ) → k < n → c ≤ after s k c) → first c ≡ true) where
    below_met : (c d : ℕ) → c < n → first c ≡ true → Meets s c d → c ≤ d
    below_met c d l f m =
        let i = soon m.0 c l in
        let e : after s i.0 c ≡ d = i.2 ∙ m.1 in
        let small = leads c f i.0 i.1 in
        omega arith

    first_met : (d : ℕ) → d < n → (c : ℕ) × (c < n) × (first c ≡ true) × Meets s c d
    first_met d l =
        let some : suc (n - 1) ≡ n = omega arith in
        let low = least (λ k. after s k d) (n - 1) in
        let c : ℕ = after s low.0 d in
        let c_below = after_below low.0 d l in (
          c,
          c_below,
          led c (λ k q.
              let i = soon (k + low.0) d l in
              let small = i.1 in
              let e : after s i.0 d ≡ after s k c = i.2 ∙ after-add s k low.0 d in
              let least_there = low.2 i.0 (omega arith) in
              omega arith),
          meets_back d c l (low.0, refl),
        )

    -- the numbers that are the least of their cycle are one of each cycle
    pub picks_first : PicksOne n s first
    picks_first = record {
      apart = λ c d lc ld fc fd p m.
          let low = below_met c d lc fc m in
          let high = below_met d c ld fd (meets_back c d lc m) in
          p (omega arith);
      met = first_met;
    }
