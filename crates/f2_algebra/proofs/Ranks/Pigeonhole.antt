-- An injective map from the lists of d bits to the lists of e bits shows d ≤ e.
use Rattle.std.proofs.Common.{◌≡◌, ℕ, zero, suc, ◌+◌, ◌*◌, ◌/◌, ◌%◌, ◌^◌, ◌<◌, ◌≤◌, Bool, true, false, cond, eqb, ◌⊎◌, inl, inr, List, [], ◌∷◌, length, refl, sym, ap, subst, ◌∙◌, arith, pow_mono, pow_pos, pow-suc}
use Rattle.std.proofs.lemmas.Bool.{eqb-true, eqb-false, cases_lt}

abbrev avoiding : (ℕ → ℕ) → ℕ → ℕ → ℕ → ℕ
avoiding f m last i = cond (eqb (f i) m) (f last) (f i)

abbrev Avoids : ℕ → ℕ → ℕ → ℕ → Type 0
Avoids x m y r = ((x ≡ m) × (r ≡ y)) ⊎ ((x ≡ m → ⊥) × (r ≡ x))

Avoids-by : (x m y : ℕ) (t : Bool) → eqb x m ≡ t → Avoids x m y (cond t y x)
Avoids-by x m y true e = inl (eqb-true x m e, refl)
Avoids-by x m y false e = inr (eqb-false x m e, refl)

avoids : (x m y : ℕ) → Avoids x m y (cond (eqb x m) y x)
avoids x m y = Avoids-by x m y (eqb x m) refl

abbrev Into : (ℕ → ℕ) → ℕ → ℕ → Type 0
Into f n m = (i : ℕ) → i < n → f i < m

abbrev OneToOne : (ℕ → ℕ) → ℕ → Type 0
OneToOne f n = (i j : ℕ) → i < n → j < n → f i ≡ f j → i ≡ j

Into-less : (f : ℕ → ℕ) (n m : ℕ) → Into f (suc n) (suc m) → OneToOne f (suc n) → Into (avoiding f m n) n m
Into-less f n m into one i p =
    let a = into i (omega arith) in
    let b = into n (omega arith) in
    let ne : f i ≡ f n → ⊥ = λ e. let z = one i n (omega arith) (omega arith) e in omega arith in
    elim (avoids (f i) m (f n)) [ inl w ↦ omega (arith, w.0, w.1) | inr w ↦ omega (arith, w.0, w.1) ]

one_less : (f : ℕ → ℕ) (n m : ℕ) → OneToOne f (suc n) → OneToOne (avoiding f m n) n
one_less f n m one i j p q e =
    elim (avoids (f i) m (f n)) [
      | inl v ↦ elim (avoids (f j) m (f n)) [
        | inl w ↦ one i j (omega arith) (omega arith) (v.0 ∙ sym w.0)
        | inr w ↦ let z = one n j (omega arith) (omega arith) (sym v.1 ∙ e ∙ w.1) in absurd (omega arith)
      ]
      | inr v ↦ elim (avoids (f j) m (f n)) [
        | inl w ↦ let z = one i n (omega arith) (omega arith) (sym v.1 ∙ e ∙ w.1) in absurd (omega arith)
        | inr w ↦ one i j (omega arith) (omega arith) (sym v.1 ∙ e ∙ w.1)
      ]
    ]

-- a map that sends n numbers to different numbers below m shows n ≤ m
pub pigeonhole : (n m : ℕ) (f : ℕ → ℕ) → Into f n m → OneToOne f n → n ≤ m
pigeonhole zero m f into one = omega arith
pigeonhole (suc n) zero f into one = absurd (omega (arith, into n (omega arith)))
pigeonhole (suc n) (suc m) f into one =
    omega (arith, pigeonhole n m (avoiding f m n) (Into-less f n m into one) (one_less f n m one))

-- ---- lists of bits as numbers
number : List Bool → ℕ
number [] = 0
number (b ∷ bs) = cond b 1 0 + 2 * number bs

bits : ℕ → ℕ → List Bool
bits zero k = []
bits (suc d) k = eqb (k % 2) 1 ∷ bits d (k / 2)

length-bits : (d k : ℕ) → length (bits d k) ≡ d
unfolding bits
length-bits zero k = refl
length-bits (suc d) k = ap suc (length-bits d (k / 2))

number-below : (bs : List Bool) → number bs < 2 ^ length bs
unfolding number
number-below [] = omega arith
number-below (true ∷ bs) = omega (arith, number-below bs, pow-suc 2 (length bs))
number-below (false ∷ bs) = omega (arith, number-below bs, pow-suc 2 (length bs))

odd_part : (k : ℕ) (b : Bool) → eqb (k % 2) 1 ≡ b → cond b 1 0 + 2 * (k / 2) ≡ k
odd_part k true e = let h = eqb-true (k % 2) 1 e in omega arith
odd_part k false e = let h = eqb-false (k % 2) 1 e in omega arith

number-bits : (d k : ℕ) → k < 2 ^ d → number (bits d k) ≡ k
unfolding number bits
number-bits zero k l = omega arith
number-bits (suc d) k l =
    ap (λ n. cond (eqb (k % 2) 1) 1 0 + 2 * n) (number-bits d (k / 2) (omega (arith, pow-suc 2 d))) ∙ odd_part k _ refl

number_one : (bs cs : List Bool) → length bs ≡ length cs → number bs ≡ number cs → bs ≡ cs
unfolding number
number_one [] [] l e = refl
number_one [] (c ∷ cs) l e = absurd (omega arith)
number_one (b ∷ bs) [] l e = absurd (omega arith)
number_one (true ∷ bs) (true ∷ cs) l e = ap (λ xs. true ∷ xs) (number_one bs cs (omega arith) (omega arith))
number_one (true ∷ bs) (false ∷ cs) l e = absurd (omega arith)
number_one (false ∷ bs) (true ∷ cs) l e = absurd (omega arith)
number_one (false ∷ bs) (false ∷ cs) l e = ap (λ xs. false ∷ xs) (number_one bs cs (omega arith) (omega arith))

pow_le : (d e : ℕ) → 2 ^ d ≤ 2 ^ e → d ≤ e
pow_le d e l = elim (cases_lt e d) [
  | inl h ↦ absurd (let m : 2 ^ suc e ≤ 2 ^ d = pow_mono h in omega (arith, pow-suc 2 e, pow_pos e))
  | inr h ↦ h
]

-- and for the lists of d bits and of e bits
pub bits_pigeonhole : (d e : ℕ) (f : List Bool → List Bool)
    → ((bs : List Bool) → length bs ≡ d → length (f bs) ≡ e)
    → ((bs cs : List Bool) → length bs ≡ d → length cs ≡ d → f bs ≡ f cs → bs ≡ cs)
    → d ≤ e
bits_pigeonhole d e f into one = pow_le d e (pigeonhole (2 ^ d) (2 ^ e) (λ k. number (f (bits d k)))
    (λ i l. subst (λ n. number (f (bits d i)) < 2 ^ n) (into (bits d i) (length-bits d i))
    (number-below (f (bits d i))))
    (λ i j p q same. sym (number-bits d i p)
    ∙ ap number (one _ _ (length-bits d i) (length-bits d j)
    (number_one _ _ (into _ (length-bits d i) ∙ sym (into _ (length-bits d j))) same)) ∙ number-bits d j q))

-- ---- an injective map from a finite set to itself is onto
abbrev Hit : (ℕ → ℕ) → ℕ → ℕ → Type 0
Hit f n k = ((i : ℕ) × (i < n) × (f i ≡ k)) ⊎ ((i : ℕ) → i < n → f i ≡ k → ⊥)

hit : (f : ℕ → ℕ) (n k : ℕ) → Hit f n k
hit f zero k = inr (λ i l e. absurd (omega arith))
hit f (suc n) k = by_last (eqb (f n) k) refl (hit f n k)
  where
    by_last : (t : Bool) → eqb (f n) k ≡ t → Hit f n k → Hit f (suc n) k
    by_last true e h = inl (n, omega arith, eqb-true (f n) k e)
    by_last false e (inl h) = inl (h.0, omega (arith, h.1), h.2)
    by_last false e (inr h) = inr (λ i l same. elim (cases_lt i n) [
      | inl p ↦ h i p same
      | inr p ↦ let at : n ≡ i = omega arith in eqb-false (f n) k e (ap f at ∙ same)
    ])

-- if nothing is sent to k, what is sent to m may be sent to k
abbrev moved : (ℕ → ℕ) → ℕ → ℕ → ℕ → ℕ
moved f m k i = cond (eqb (f i) m) k (f i)

moved-into : (f : ℕ → ℕ) (m k : ℕ) → Into f (suc m) (suc m) → k < suc m → ((i : ℕ) → i < suc m → f i ≡ k → ⊥)
    → Into (moved f m k) (suc m) m
moved-into f m k into l none i p = elim (avoids (f i) m k) [
  | inl w ↦ let ne : m ≡ k → ⊥ = λ e. none i p (w.0 ∙ e) in omega (arith, w.0, w.1)
  | inr w ↦ let b = into i p in omega (arith, w.0, w.1)
]

moved-one : (f : ℕ → ℕ) (m k : ℕ) → OneToOne f (suc m) → ((i : ℕ) → i < suc m → f i ≡ k → ⊥)
    → OneToOne (moved f m k) (suc m)
moved-one f m k one none i j p q e = elim (avoids (f i) m k) [
  | inl v ↦ elim (avoids (f j) m k) [
    | inl w ↦ one i j p q (v.0 ∙ sym w.0)
    | inr w ↦ absurd (none j q (sym w.1 ∙ sym e ∙ v.1))
  ]
  | inr v ↦ elim (avoids (f j) m k) [
    | inl w ↦ absurd (none i p (sym v.1 ∙ e ∙ w.1))
    | inr w ↦ one i j p q (sym v.1 ∙ e ∙ w.1)
  ]
]

-- a map of the numbers below n to different ones reaches each
pub reaches_each : (n : ℕ) (f : ℕ → ℕ) → Into f n n → OneToOne f n → (k : ℕ) → k < n → (i : ℕ) × (i < n) × (f i ≡ k)
reaches_each zero f into one k l = absurd (omega arith)
reaches_each (suc m) f into one k l = elim (hit f (suc m) k) [
  | inl h ↦ h
  | inr none ↦
      absurd (let b = pigeonhole (suc m) m (moved f m k) (moved-into f m k into l none) (moved-one f m k one none) in
      omega arith)
]

-- and for the lists of d bits
pub bits_onto : (d : ℕ) (f : List Bool → List Bool)
    → ((bs : List Bool) → length bs ≡ d → length (f bs) ≡ d)
    → ((bs cs : List Bool) → length bs ≡ d → length cs ≡ d → f bs ≡ f cs → bs ≡ cs)
    → (bs : List Bool) → length bs ≡ d → (cs : List Bool) × (length cs ≡ d) × (f cs ≡ bs)
bits_onto d f into one bs l =
    let (i, p, e) = reaches_each (2 ^ d) (λ k. number (f (bits d k)))
    (λ i p. subst (λ n. number (f (bits d i)) < 2 ^ n) (into (bits d i) (length-bits d i))
    (number-below (f (bits d i))))
    (λ i j p q same. sym (number-bits d i p)
    ∙ ap number (one _ _ (length-bits d i) (length-bits d j)
    (number_one _ _ (into _ (length-bits d i) ∙ sym (into _ (length-bits d j))) same)) ∙ number-bits d j q)
    (number bs) (subst (λ n. number bs < 2 ^ n) l (number-below bs))
    in
    (bits d i, length-bits d i, number_one _ _ (into _ (length-bits d i) ∙ sym l) e)
