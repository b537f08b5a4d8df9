-- Sums of integers over the numbers below n.
use Rattle.std.proofs.Common.{◌≡◌, ◌≢◌, ℕ, zero, suc, ◌+◌, ◌<◌, Bool, true, false, ◌&&◌, refl, ap, ap₂, ◌∙◌, sym, eqb, arith, inl, inr, cond}
use Rattle.std.proofs.Math.IntN.{ℤ, pos, negsuc, ◌+ℤ◌}
use Rattle.std.proofs.lemmas.Int.{ints}
use Rattle.std.proofs.lemmas.Bool.{eq-eqb, ne_eqb, cases_eq, and_parts, false≢true}
use Rattle.state_rank.proofs.BijectionLemmas.{IsOneToOne}
use Rattle.state_rank.proofs.Pigeonhole.{onto}
use Rattle.torus_geom.specs.Counts.{sum_below}

-- sums of equal terms
pub sum_below_same : (n : ℕ) (f g : ℕ → ℤ) → ((t : ℕ) → t < n → f t ≡ g t) → sum_below n f ≡ sum_below n g
sum_below_same zero f g h = refl
sum_below_same (suc n) f g h = ap₂ (λ a b. a +ℤ b) (h n (omega arith)) (sum_below_same n f g (λ t l. h t (omega arith)))

-- a sum of zeros
pub sum_below-zero : (n : ℕ) → sum_below n (λ t. pos 0) ≡ pos 0
sum_below-zero zero = refl
sum_below-zero (suc n) = let h = sum_below-zero n in omega (arith, ints)

-- a sum whose terms are all 0
pub sum_below_vanishes : (n : ℕ) (f : ℕ → ℤ) → ((t : ℕ) → t < n → f t ≡ pos 0) → sum_below n f ≡ pos 0
sum_below_vanishes n f h = sum_below_same n f (λ t. pos 0) h ∙ sum_below-zero n

-- a sum of sums
pub sum_below-add : (n : ℕ) (f g : ℕ → ℤ) → sum_below n (λ t. f t +ℤ g t) ≡ sum_below n f +ℤ sum_below n g
sum_below-add zero f g = refl
sum_below-add (suc n) f g = let h = sum_below-add n f g in omega (arith, ints)

-- sums that balance term by term balance
pub balanced_sum : (n : ℕ) (f g h : ℕ → ℤ) → ((t : ℕ) → t < n → f t ≡ g t +ℤ h t)
    → sum_below n f ≡ sum_below n g +ℤ sum_below n h
balanced_sum zero f g h e = refl
balanced_sum (suc n) f g h e = let i = balanced_sum n f g h (λ t l. e t (omega arith)) in let j = e n (omega arith) in
    omega (arith, ints)

-- the same with two sums on each side
pub balanced_pairs : (n : ℕ) (f g h k : ℕ → ℤ) → ((t : ℕ) → t < n → f t +ℤ g t ≡ h t +ℤ k t)
    → sum_below n f +ℤ sum_below n g ≡ sum_below n h +ℤ sum_below n k
balanced_pairs zero f g h k e = refl
balanced_pairs (suc n) f g h k e = let i = balanced_pairs n f g h k (λ t l. e t (omega arith)) in
    let j = e n (omega arith) in omega (arith, ints)

-- two sums, in either order
pub sum_below_swap : (m n : ℕ) (f : ℕ → ℕ → ℤ)
    → sum_below m (λ a. sum_below n (f a)) ≡ sum_below n (λ b. sum_below m (λ a. f a b))
sum_below_swap zero n f = sym (sum_below-zero n)
sum_below_swap (suc m) n f = ap (λ r. sum_below n (f m) +ℤ r) (sum_below_swap m n f)
    ∙ sym (sum_below-add n (f m) (λ b. sum_below m (λ a. f a b)))

-- a sum with one term
abbrev pub at_only : ℕ → (ℕ → ℤ) → ℕ → ℤ
at_only a f t = cond (eqb t a) (f t) (pos 0)

sum_below-at_only_past : (n a : ℕ) (f : ℕ → ℤ) → n < a + 1 → sum_below n (at_only a f) ≡ pos 0
sum_below-at_only_past n a f h =
    sum_below_vanishes n (at_only a f) (λ t l. ap (λ b. cond b (f t) (pos 0)) (ne_eqb t a (omega arith)))

-- a sum with one term is that term
pub sum_below-at_only : (n a : ℕ) (f : ℕ → ℤ) → a < n → sum_below n (at_only a f) ≡ f a
sum_below-at_only zero a f h = absurd (omega arith)
sum_below-at_only (suc n) a f h = elim (cases_eq n a) [
  | inl e ↦
      let p : sum_below n (at_only a f) ≡ pos 0 = sum_below-at_only_past n a f (omega arith) in
      let q : at_only a f n ≡ f n = ap (λ b. cond b (f n) (pos 0)) (eq-eqb n a e) in
      let r : f n ≡ f a = ap f e in omega (arith, ints)
  | inr ne ↦
      let p : sum_below n (at_only a f) ≡ f a = sum_below-at_only n a f (omega arith) in
      let q : at_only a f n ≡ pos 0 = ap (λ b. cond b (f n) (pos 0)) (ne_eqb n a ne) in omega (arith, ints)
]

-- sums that agree but at a and b
pub sum_below_but_two : (n a b : ℕ) (f g : ℕ → ℤ) → a < n → b < n → a ≢ b
    → ((t : ℕ) → t < n → t ≢ a → t ≢ b → f t ≡ g t)
    → sum_below n f +ℤ (g a +ℤ g b) ≡ sum_below n g +ℤ (f a +ℤ f b)
sum_below_but_two n a b f g la lb p h =
    let added = sum_below-add n f (λ t. at_only a g t +ℤ at_only b g t) in
    let also_added = sum_below-add n (at_only a g) (at_only b g) in
    let single = sum_below-at_only n a g la in
    let also_single = sum_below-at_only n b g lb in
    let again_added = sum_below-add n g (λ t. at_only a f t +ℤ at_only b f t) in
    let further_added = sum_below-add n (at_only a f) (at_only b f) in
    let again_single = sum_below-at_only n a f la in
    let further_single = sum_below-at_only n b f lb in
    let m = sum_below_same n (λ t. f t +ℤ (at_only a g t +ℤ at_only b g t))
    (λ t. g t +ℤ (at_only a f t +ℤ at_only b f t)) each in
    omega (arith, ints)
  where
    at_yes : (c : ℕ) (k : ℕ → ℤ) (t : ℕ) → t ≡ c → at_only c k t ≡ k t
    at_yes c k t e = ap (λ b. cond b (k t) (pos 0)) (eq-eqb t c e)

    at_no : (c : ℕ) (k : ℕ → ℤ) (t : ℕ) → t ≢ c → at_only c k t ≡ pos 0
    at_no c k t q = ap (λ b. cond b (k t) (pos 0)) (ne_eqb t c q)

    each : (t : ℕ) → t < n → f t +ℤ (at_only a g t +ℤ at_only b g t) ≡ g t +ℤ (at_only a f t +ℤ at_only b f t)
    each t l = elim (cases_eq t a) [
      | inl e ↦
          let q : t ≢ b = omega arith in
          let there = at_yes a g t e in let away = at_no b g t q in let also_there = at_yes a f t e in
          let also_away = at_no b f t q in omega (arith, ints)
      | inr q ↦ elim (cases_eq t b) [
        | inl e ↦ let again_away = at_no a g t q in let again_there = at_yes b g t e in
            let further_away = at_no a f t q in let further_there = at_yes b f t e in omega (arith, ints)
        | inr r ↦ let i = h t l q r in let still_away = at_no a g t q in let last_away = at_no b g t r in
            let yet_away = at_no a f t q in let more_away = at_no b f t r in omega (arith, ints)
      ]
    ]

-- the sum over the rows of a bijection is the sum over all rows
pub sum_below_reindex : (n : ℕ) (P : ℕ → ℕ) → IsOneToOne n P → (f : ℕ → ℤ) → sum_below n (λ d. f (P d)) ≡ sum_below n f
sum_below_reindex n P one f =
    sum_below_same n (λ d. f (P d)) (λ d. sum_below n (at_only (P d) f))
    (λ d l. sym (sum_below-at_only n (P d) f (one.small d l)))
    ∙ sum_below_swap n n (λ d. at_only (P d) f)
    ∙ sum_below_same n (λ r. sum_below n (λ d. at_only (P d) f r)) f (λ r l. row r (onto n P one.small one.apart r l))
  where
    row : (r : ℕ) → (c : ℕ) × (c < n) × (P c ≡ r) → sum_below n (λ d. at_only (P d) f r) ≡ f r
    row r h =
        sum_below_same n (λ d. at_only (P d) f r) (at_only h.0 (λ d. f r))
        (λ d l. ap (λ b. cond b (f r) (pos 0)) (elim (cases_eq d h.0) [
          | inl e ↦ let i : P d ≡ P h.0 = ap P e in let k = h.2 in eq-eqb r (P d) (omega arith) ∙ sym (eq-eqb d h.0 e)
          | inr q ↦ let i = one.apart d h.0 l h.1 q in let k = h.2 in
              ne_eqb r (P d) (λ v. i (sym v ∙ sym k)) ∙ sym (ne_eqb d h.0 q)
        ]))
        ∙ sum_below-at_only n h.0 (λ d. f r) h.1

-- ---- tables: two functions of n tests whose values are integers
abbrev pub int_eq : ℤ → ℤ → Bool
int_eq (pos a) (pos b) = eqb a b
int_eq (pos a) (negsuc b) = false
int_eq (negsuc a) (pos b) = false
int_eq (negsuc a) (negsuc b) = eqb a b

-- numbers that the test calls equal
pub int_eq_same : (a b : ℤ) → int_eq a b ≡ true → a ≡ b
int_eq_same (pos a) (pos b) h = ap pos (grind (arith, h))
int_eq_same (pos a) (negsuc b) h = absurd (false≢true h)
int_eq_same (negsuc a) (pos b) h = absurd (false≢true h)
int_eq_same (negsuc a) (negsuc b) h = ap negsuc (grind (arith, h))

-- a function of n tests whose values are whole numbers
abbrev pub IntTable : ℕ → Type 0
IntTable zero = ℤ
IntTable (suc n) = Bool → IntTable n

-- the two agree in each row
abbrev pub ints_agree : (n : ℕ) → IntTable n → IntTable n → Bool
ints_agree zero a b = int_eq a b
ints_agree (suc n) f g = ints_agree n (f true) (g true) && ints_agree n (f false) (g false)

-- they are equal at any tests
abbrev pub SameInts : (n : ℕ) → IntTable n → IntTable n → Type 0
SameInts zero a b = a ≡ b
SameInts (suc n) f g = (b : Bool) → SameInts n (f b) (g b)

-- two that agree in each row are equal
pub same_ints : (n : ℕ) (f g : IntTable n) → ints_agree n f g ≡ true → SameInts n f g
same_ints zero a b h = int_eq_same a b h
same_ints (suc n) f g h =
    elim [
      | true ↦ same_ints n (f true) (g true) (and_parts _ _ h).0
      | false ↦ same_ints n (f false) (g false) (and_parts _ _ h).1
    ]

-- if a test is known to pass
pub under_test : (b : Bool) (x y : ℤ) → b ≡ true → cond b x (pos 0) ≡ cond b y (pos 0) → x ≡ y
under_test true x y h e = e
under_test false x y h e = absurd (false≢true h)

-- and with three
pub balanced_triples : (n : ℕ) (f g h k l m : ℕ → ℤ) → ((t : ℕ) → t < n → f t +ℤ g t +ℤ h t ≡ k t +ℤ l t +ℤ m t)
    → sum_below n f +ℤ sum_below n g +ℤ sum_below n h ≡ sum_below n k +ℤ sum_below n l +ℤ sum_below n m
balanced_triples zero f g h k l m e = refl
balanced_triples (suc n) f g h k l m e = let i = balanced_triples n f g h k l m (λ t q. e t (omega arith)) in
    let j = e n (omega arith) in omega (arith, ints)
