-- Sums modulo 2: whether an odd number of the elements of a list pass a test, and sums over the numbers
-- below n. Sums change order, a symmetric double sum is its diagonal, a sum with one term is that term.
use Rattle.std.proofs.Common.{◌≡◌, ℕ, zero, suc, ◌+◌, ◌<◌, Bool, true, false, cond, ◌&&◌, List, [], ◌∷◌, ◌++◌, map, length, refl, ap, ap₂, ◌∙◌, sym, eqb, arith, inl, inr}
use Rattle.std.specs.List.{filter, flat_map}
use Rattle.std.proofs.lemmas.Bool.{eq-eqb, ne_eqb, cases_eq}
use Rattle.f2_algebra.specs.Chain.{is_odd}
use Rattle.f2_algebra.proofs.Chains.Tables.{◌⊻◌, xor_assoc, xor-false, xor_middle, same}

-- whether an odd number of the elements pass the test
abbrev pub parity : {A : Type 0} → (A → Bool) → List A → Bool
parity f [] = false
parity f (x ∷ xs) = f x ⊻ parity f xs

-- P holds of each element
abbrev pub Each : {A : Type 0} → (A → Type 0) → List A → Type 0
Each P [] = Unit {0}
Each P (x ∷ xs) = P x × Each P xs

-- what holds of everything holds of each element
pub Each-all : {A : Type 0} (P : A → Type 0) (xs : List A) → ((x : A) → P x) → Each P xs
Each-all P [] h = tt
Each-all P (x ∷ xs) h = (h x, Each-all P xs h)

-- ---- over a list
module _ {A : Type 0} where
  -- tests that agree if P holds have one parity on a list of such elements
  pub parity-same_on : (P : A → Type 0) (f g : A → Bool) (xs : List A) → Each P xs → ((x : A) → P x → f x ≡ g x)
      → parity f xs ≡ parity g xs
  parity-same_on P f g [] e h = refl
  parity-same_on P f g (x ∷ xs) e h = ap₂ (λ a b. a ⊻ b) (h x e.0) (parity-same_on P f g xs e.1 h)

  -- tests that agree have one parity
  pub parity-ext : (f g : A → Bool) (xs : List A) → ((x : A) → f x ≡ g x) → parity f xs ≡ parity g xs
  parity-ext f g [] h = refl
  parity-ext f g (x ∷ xs) h = ap₂ (λ a b. a ⊻ b) (h x) (parity-ext f g xs h)

  -- no element passes the test that never holds
  pub parity-false : (xs : List A) → parity (λ (x : A). false) xs ≡ false
  parity-false [] = refl
  parity-false (x ∷ xs) = parity-false xs

  -- the parity of an exclusive or is the exclusive or of the parities
  pub parity-xor : (f g : A → Bool) (xs : List A) → parity (λ x. f x ⊻ g x) xs ≡ parity f xs ⊻ parity g xs
  parity-xor f g [] = refl
  parity-xor f g (x ∷ xs) =
      ap (λ b. (f x ⊻ g x) ⊻ b) (parity-xor f g xs) ∙ xor_middle (f x) (g x) (parity f xs) (parity g xs)

  -- a condition that is free of the element comes out of the sum
  pub parity-and : (b : Bool) (f : A → Bool) (xs : List A) → parity (λ x. b && f x) xs ≡ (b && parity f xs)
  parity-and true f xs = refl
  parity-and false f xs = parity-false xs

  -- the parity over two lists together is the exclusive or of the parities
  pub parity-append : (f : A → Bool) (xs ys : List A) → parity f (xs ++ ys) ≡ parity f xs ⊻ parity f ys
  parity-append f [] ys = refl
  parity-append f (x ∷ xs) ys =
      ap (λ b. f x ⊻ b) (parity-append f xs ys) ∙ sym (xor_assoc (f x) (parity f xs) (parity f ys))

  odd-cond : (a : Bool) (x : A) (xs : List A) → is_odd (length (cond a (x ∷ xs) xs)) ≡ a ⊻ is_odd (length xs)
  odd-cond true x xs = refl
  odd-cond false x xs = refl

  -- the parity says whether the number of elements that pass is odd
  pub is_odd-filter : (p : A → Bool) (xs : List A) → is_odd (length (filter p xs)) ≡ parity p xs
  is_odd-filter p [] = refl
  is_odd-filter p (x ∷ xs) = odd-cond (p x) x _ ∙ ap (λ b. p x ⊻ b) (is_odd-filter p xs)

  -- the elements that pass q, as a condition
  pub parity-filter : (p q : A → Bool) (xs : List A) → parity p (filter q xs) ≡ parity (λ x. q x && p x) xs
  parity-filter p q [] = refl
  parity-filter p q (x ∷ xs) = by (q x) ∙ ap (λ b. (q x && p x) ⊻ b) (parity-filter p q xs)
    where
      by : (b : Bool) → parity p (cond b (x ∷ filter q xs) (filter q xs)) ≡ (b && p x) ⊻ parity p (filter q xs)
      by true = refl
      by false = refl

-- the parity over images
pub parity-map : {A B : Type 0} (p : B → Bool) (f : A → B) (xs : List A)
    → parity p (map f xs) ≡ parity (λ x. p (f x)) xs
parity-map p f [] = refl
parity-map p f (x ∷ xs) = ap (λ b. p (f x) ⊻ b) (parity-map p f xs)

-- the parity over lists end to end is a sum of parities
pub parity-flat_map : {A B : Type 0} (p : B → Bool) (f : A → List B) (xs : List A)
    → parity p (flat_map f xs) ≡ parity (λ x. parity p (f x)) xs
parity-flat_map p f [] = refl
parity-flat_map p f (x ∷ xs) =
    parity-append p (f x) (flat_map f xs) ∙ ap (λ b. parity p (f x) ⊻ b) (parity-flat_map p f xs)

-- two sums change order
pub parity_swap : {A B : Type 0} (f : A → B → Bool) (xs : List A) (ys : List B)
    → parity (λ x. parity (f x) ys) xs ≡ parity (λ y. parity (λ x. f x y) xs) ys
parity_swap f [] ys = sym (parity-false ys)
parity_swap f (x ∷ xs) ys =
    ap (λ b. parity (f x) ys ⊻ b) (parity_swap f xs ys) ∙ sym (parity-xor (f x) (λ y. parity (λ x. f x y) xs) ys)

-- off the diagonal a symmetric double sum cancels
pub parity_symmetric : {A : Type 0} (P : A → Type 0) (f : A → A → Bool) (xs : List A) → Each P xs
    → ((x y : A) → P x → P y → f x y ≡ f y x)
    → parity (λ x. parity (f x) xs) xs ≡ parity (λ x. f x x) xs
parity_symmetric P f [] e h = refl
parity_symmetric P f (x ∷ xs) e h =
    ap (λ b. (f x x ⊻ parity (f x) xs) ⊻ b) (parity-xor (λ y. f y x) (λ y. parity (f y) xs) xs)
    ∙ ap₂ (λ a b. (f x x ⊻ parity (f x) xs) ⊻ (a ⊻ b)) (parity-same_on P (λ y. f y x) (f x) xs e.1 (λ y k. h y x k e.0))
    (parity_symmetric P f xs e.1 h)
    ∙ same 3 (λ a b c. (a ⊻ b) ⊻ (b ⊻ c)) (λ a b c. a ⊻ c) refl (f x x) (parity (f x) xs) (parity (λ x. f x x) xs)

-- ---- over the numbers below n
-- the numbers below n
abbrev pub below : ℕ → List ℕ
below zero = []
below (suc n) = n ∷ below n

-- what holds of each number below n
pub Each-below : (n m : ℕ) → ((t : ℕ) → t < n → t < m) → Each (λ t. t < m) (below n)
Each-below zero m h = tt
Each-below (suc n) m h = (h n (omega arith), Each-below n m (λ t l. h t (omega arith)))

-- whether an odd number of the numbers below n pass the test
abbrev pub parity_below : ℕ → (ℕ → Bool) → Bool
parity_below n f = parity f (below n)

-- tests that agree below n have one parity there
pub parity_below-same : (n : ℕ) (f g : ℕ → Bool) → ((t : ℕ) → t < n → f t ≡ g t) → parity_below n f ≡ parity_below n g
parity_below-same n f g h = parity-same_on (λ t. t < n) f g (below n) (Each-below n n (λ t l. l)) h

-- a test that no number below n passes
pub parity_below-none : (n : ℕ) (f : ℕ → Bool) → ((t : ℕ) → t < n → f t ≡ false) → parity_below n f ≡ false
parity_below-none n f h = parity_below-same n f (λ t. false) h ∙ parity-false (below n)

-- the first number in front
pub parity_below-first : (n : ℕ) (f : ℕ → Bool) → parity_below (suc n) f ≡ f 0 ⊻ parity_below n (λ t. f (suc t))
parity_below-first zero f = refl
parity_below-first (suc n) f =
    ap (λ b. f (suc n) ⊻ b) (parity_below-first n f)
    ∙ same 3 (λ a b c. a ⊻ (b ⊻ c)) (λ a b c. b ⊻ (a ⊻ c)) refl (f (suc n)) (f 0) (parity_below n (λ t. f (suc t)))

-- a sum whose one term is at n or above
pub parity_below-past : (n a : ℕ) (f : ℕ → Bool) → n < a + 1 → parity_below n (λ t. eqb t a && f t) ≡ false
parity_below-past zero a f h = refl
parity_below-past (suc n) a f h =
    ap₂ (λ p q. (p && f n) ⊻ q) (ne_eqb n a (omega arith)) (parity_below-past n a f (omega arith))

-- a sum with one term
pub parity_below-one : (n a : ℕ) (f : ℕ → Bool) → a < n → parity_below n (λ t. eqb t a && f t) ≡ f a
parity_below-one zero a f h = absurd (omega arith)
parity_below-one (suc n) a f h = elim (cases_eq n a) [
  | inl e ↦
      ap₂ (λ p q. (p && f n) ⊻ q) (eq-eqb n a e) (parity_below-past n a f (omega arith)) ∙ xor-false (f n) ∙ ap f e
  | inr p ↦ ap₂ (λ p q. (p && f n) ⊻ q) (ne_eqb n a p) (parity_below-one n a f (omega arith))
]
