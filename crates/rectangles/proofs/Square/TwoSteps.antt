-- A sum modulo 2 over two steps, each between two places. It splits into a part at four places, one at
-- three and one at two. At four places steps cancel in pairs if they may be taken in either order;
-- at three places the terms of three triples in a circle cancel, so three times the sum is 0.
use Rattle.std.proofs.Common.{◌≡◌, ◌≢◌, ℕ, ◌<◌, Bool, true, false, not, ◌&&◌, refl, ap, ap₂, ◌∙◌, sym, eqb, arith, inl, inr}
use Rattle.std.proofs.lemmas.Bool.{eq-eqb, ne_eqb, cases_eq}
use Rattle.f2_algebra.proofs.Chains.Tables.{◌⊻◌, xor-false, and-xor, and-false, same}
use Rattle.f2_algebra.proofs.Chains.ParityLemmas.{below, Each-below, parity-xor, parity-and, parity_swap, parity_symmetric, parity_below, parity_below-same, parity_below-none, parity_below-one}

-- whether two places are different
abbrev pub differ : ℕ → ℕ → Bool
differ a b = not (eqb a b)

-- different places are so
pub differ-true : (a b : ℕ) → a ≢ b → differ a b ≡ true
differ-true a b p = ap not (ne_eqb a b p)

-- no place is different from itself
pub differ-self : (a : ℕ) → differ a a ≡ false
differ-self a = ap not (eq-eqb a a refl)

-- and back
pub differ_apart : (a b : ℕ) → differ a b ≡ true → a ≢ b
differ_apart a b h e = grind arith

-- the order does not matter
pub differ_comm : (a b : ℕ) → differ a b ≡ differ b a
differ_comm a b = grind arith

-- three places apart
abbrev pub three_differ : ℕ → ℕ → ℕ → Bool
three_differ a b c = differ a b && (differ b c && differ c a)

-- four places apart
abbrev pub four_differ : ℕ → ℕ → ℕ → ℕ → Bool
four_differ a b c d = differ a b && (differ c d && ((differ c a && differ c b) && (differ d a && differ d b)))

-- a sum over all places is the sum over those that are neither a nor b, and the terms at a and b
split_table : (x y g : Bool) → (x && y) ≡ false → g ≡ (not x && (not y && g)) ⊻ ((x && g) ⊻ (y && g))
split_table true true g h = absurd (grind arith)
split_table true false g h = sym (xor-false g)
split_table false true g h = refl
split_table false false g h = sym (xor-false g)

-- a sum over all places, and its terms at a and b apart
pub parity_below-split : (n a b : ℕ) (g : ℕ → Bool) → a < n → b < n → a ≢ b
    → parity_below n g ≡ parity_below n (λ t. differ t a && (differ t b && g t)) ⊻ (g a ⊻ g b)
parity_below-split n a b g la lb p =
    parity_below-same n g (λ t. (differ t a && (differ t b && g t)) ⊻ ((eqb t a && g t) ⊻ (eqb t b && g t)))
    (λ t l. split_table (eqb t a) (eqb t b) (g t) (grind arith))
    ∙ parity-xor (λ t. differ t a && (differ t b && g t)) (λ t. (eqb t a && g t) ⊻ (eqb t b && g t)) (below n)
    ∙ ap (λ r. parity_below n (λ t. differ t a && (differ t b && g t)) ⊻ r)
    (parity-xor (λ t. eqb t a && g t) (λ t. eqb t b && g t) (below n)
    ∙ ap₂ (λ x y. x ⊻ y) (parity_below-one n a g la) (parity_below-one n b g lb))

-- what agrees under a condition agrees beside it
pub guard : (p f g : Bool) → (p ≡ true → f ≡ g) → (p && f) ≡ (p && g)
guard true f g h = h refl
guard false f g h = refl

-- the two steps change places
pub four_differ-flipped : (a b c d : ℕ) → four_differ a b c d ≡ four_differ c d a b
four_differ-flipped a b c d =
    same 6 (λ ab cd ca cb da db. ab && (cd && ((ca && cb) && (da && db))))
    (λ ab cd ca cb da db. cd && (ab && ((ca && da) && (cb && db)))) refl
    (differ a b) (differ c d) (differ c a) (differ c b) (differ d a) (differ d b)
    ∙ (λ i. differ c d
    && (differ a b && ((differ_comm c a i && differ_comm d a i) && (differ_comm c b i && differ_comm d b i))))

-- two of three change places
pub three_differ-flipped : (a b c : ℕ) → three_differ b a c ≡ three_differ a b c
three_differ-flipped a b c =
    (λ i. differ_comm b a i && (differ_comm a c i && differ_comm c b i))
    ∙ same 3 (λ x y z. x && (y && z)) (λ x y z. x && (z && y)) refl (differ a b) (differ c a) (differ b c)

-- the three turn in a circle
pub three_differ-next : (a b c : ℕ) → three_differ b c a ≡ three_differ a b c
three_differ-next a b c =
    same 3 (λ x y z. y && (z && x)) (λ x y z. x && (y && z)) refl (differ a b) (differ b c) (differ c a)

-- ---- from two places to four, three and two
module _ (n : ℕ) (F : ℕ → ℕ → ℕ → ℕ → Bool) where
  -- the sum over two steps
  abbrev pub over_two_steps : Bool
  over_two_steps = parity_below n (λ a. parity_below n (λ b. parity_below n (λ c. parity_below n (F a b c))))

  -- the part at four places
  abbrev pub at_four : ℕ → ℕ → ℕ → ℕ → Bool
  at_four a b c d = four_differ a b c d && F a b c d

  -- the part at three places a, b and c, if the second step shares b with the first
  abbrev pub at_three : ℕ → ℕ → ℕ → Bool
  at_three a b c = (F a b b c ⊻ F a b c b) ⊻ (F b a b c ⊻ F b a c b)

  -- the part at two places
  abbrev pub at_two : ℕ → ℕ → Bool
  at_two a b = differ a b && (F a b a b ⊻ F a b b a)

  -- the part at three places, by the first step
  abbrev pub by_first : ℕ → ℕ → ℕ → Bool
  by_first a b c = three_differ a b c && ((F a b b c ⊻ F a b c b) ⊻ (F a b a c ⊻ F a b c a))

  unless : ((a b c : ℕ) → F a b c c ≡ false) → (a b c d : ℕ) → F a b c d ≡ (differ c d && F a b c d)
  unless z2 a b c d = elim (cases_eq c d) [
    | inl e ↦ let f : F a b c d ≡ false = ap (λ r. F a b r d) e ∙ z2 a b d in
        f ∙ sym (and-false (differ c d)) ∙ ap (λ r. differ c d && r) (sym f)
    | inr q ↦ ap (λ r. r && F a b c d) (sym (differ-true c d q))
  ]

  -- for one first step
  one_first : ((a c d : ℕ) → F a a c d ≡ false) → ((a b c : ℕ) → F a b c c ≡ false)
      → (a b : ℕ) → a < n → b < n → a ≢ b
      → parity_below n (λ c. parity_below n (F a b c))
      ≡ parity_below n (λ c. parity_below n (at_four a b c)) ⊻ (parity_below n (by_first a b) ⊻ at_two a b)
  one_first z1 z2 a b la lb p =
      parity_below-split n a b (λ c. parity_below n (F a b c)) la lb p
      ∙ ap₂ (λ x y. x ⊻ y)
      (parity_below-same n (λ c. differ c a && (differ c b && parity_below n (F a b c)))
      (λ c. parity_below n (at_four a b c) ⊻ (differ c a && (differ c b && (F a b c a ⊻ F a b c b)))) inner
      ∙ parity-xor (λ c. parity_below n (at_four a b c)) (λ c. differ c a && (differ c b && (F a b c a ⊻ F a b c b)))
      (below n))
      (ap₂ (λ x y. x ⊻ y) (parity_below-split n a b (F a b a) la lb p) (parity_below-split n a b (F a b b) la lb p))
      ∙ ap₂ (λ x y. ((parity_below n (λ c. parity_below n (at_four a b c))
      ⊻ parity_below n (λ c. differ c a && (differ c b && (F a b c a ⊻ F a b c b))))
      ⊻ ((parity_below n (λ d. differ d a && (differ d b && F a b a d)) ⊻ (x ⊻ F a b a b))
      ⊻ (parity_below n (λ d. differ d a && (differ d b && F a b b d)) ⊻ (F a b b a ⊻ y)))))
      (z2 a b a) (z2 a b b)
      ∙ same 6 (λ s u v w x y. (s ⊻ u) ⊻ ((v ⊻ (false ⊻ x)) ⊻ (w ⊻ (y ⊻ false))))
      (λ s u v w x y. s ⊻ ((u ⊻ (v ⊻ w)) ⊻ (x ⊻ y))) refl
      (parity_below n (λ c. parity_below n (at_four a b c)))
      (parity_below n (λ c. differ c a && (differ c b && (F a b c a ⊻ F a b c b))))
      (parity_below n (λ d. differ d a && (differ d b && F a b a d)))
      (parity_below n (λ d. differ d a && (differ d b && F a b b d))) (F a b a b) (F a b b a)
      ∙ ap₂ (λ x y. parity_below n (λ c. parity_below n (at_four a b c)) ⊻ (x ⊻ y)) gathered
      (ap (λ r. r && (F a b a b ⊻ F a b b a)) (sym (differ-true a b p)))
    where
      inner : (c : ℕ) → c < n
          → (differ c a && (differ c b && parity_below n (F a b c)))
          ≡ parity_below n (at_four a b c) ⊻ (differ c a && (differ c b && (F a b c a ⊻ F a b c b)))
      inner c lc =
          ap (λ r. differ c a && (differ c b && r)) (parity_below-split n a b (F a b c) la lb p)
          ∙ same 5 (λ x y s u v. x && (y && (s ⊻ (u ⊻ v)))) (λ x y s u v. (x && (y && s)) ⊻ (x && (y && (u ⊻ v)))) refl
          (differ c a) (differ c b) (parity_below n (λ t. differ t a && (differ t b && F a b c t))) (F a b c a)
          (F a b c b)
          ∙ ap (λ r. r ⊻ (differ c a && (differ c b && (F a b c a ⊻ F a b c b))))
          (sym (parity-and (differ c a) (λ t. differ c b && (differ t a && (differ t b && F a b c t))) (below n)
          ∙ ap (λ r. differ c a && r) (parity-and (differ c b) (λ t. differ t a && (differ t b && F a b c t))
          (below n)))
          ∙ parity_below-same n (λ t. differ c a && (differ c b && (differ t a && (differ t b && F a b c t))))
          (at_four a b c) (λ d ld. four_is c d))
        where
          four_is : (c d : ℕ)
              → (differ c a && (differ c b && (differ d a && (differ d b && F a b c d)))) ≡ at_four a b c d
          four_is c d =
              ap (λ r. differ c a && (differ c b && (differ d a && (differ d b && r)))) (unless z2 a b c d)
              ∙ same 6 (λ x y z w e f. x && (y && (z && (w && (e && f)))))
              (λ x y z w e f. (true && (e && ((x && y) && (z && w)))) && f) refl (differ c a) (differ c b) (differ d a)
              (differ d b) (differ c d) (F a b c d)
              ∙ ap (λ r. (r && (differ c d && ((differ c a && differ c b) && (differ d a && differ d b)))) && F a b c d)
              (sym (differ-true a b p))

      gathered : parity_below n (λ c. differ c a && (differ c b && (F a b c a ⊻ F a b c b)))
          ⊻ (parity_below n (λ d. differ d a && (differ d b && F a b a d))
          ⊻ parity_below n (λ d. differ d a && (differ d b && F a b b d))) ≡ parity_below n (by_first a b)
      gathered =
          ap (λ r. parity_below n (λ c. differ c a && (differ c b && (F a b c a ⊻ F a b c b))) ⊻ r)
          (sym (parity-xor (λ d. differ d a && (differ d b && F a b a d))
          (λ d. differ d a && (differ d b && F a b b d)) (below n)))
          ∙ sym (parity-xor (λ c. differ c a && (differ c b && (F a b c a ⊻ F a b c b)))
          (λ d. (differ d a && (differ d b && F a b a d)) ⊻ (differ d a && (differ d b && F a b b d))) (below n))
          ∙ parity_below-same n (λ c. (differ c a && (differ c b && (F a b c a ⊻ F a b c b)))
          ⊻ ((differ c a && (differ c b && F a b a c)) ⊻ (differ c a && (differ c b && F a b b c)))) (by_first a b)
          (λ c lc.
          same 6 (λ x y p q r s. (x && (y && (p ⊻ q))) ⊻ ((x && (y && r)) ⊻ (x && (y && s))))
          (λ x y p q r s. (true && (y && x)) && ((s ⊻ q) ⊻ (r ⊻ p))) refl
          (differ c a) (differ c b) (F a b c a) (F a b c b) (F a b a c) (F a b b c)
          ∙ ap₂ (λ u v. (u && (v && differ c a)) && ((F a b b c ⊻ F a b c b) ⊻ (F a b a c ⊻ F a b c a)))
          (sym (differ-true a b p)) (differ_comm c b))

  -- the same for a first step between any two places
  one_first_any : ((a c d : ℕ) → F a a c d ≡ false) → ((a b c : ℕ) → F a b c c ≡ false)
      → (a b : ℕ) → a < n → b < n
      → parity_below n (λ c. parity_below n (F a b c))
      ≡ parity_below n (λ c. parity_below n (at_four a b c)) ⊻ (parity_below n (by_first a b) ⊻ at_two a b)
  one_first_any z1 z2 a b la lb = elim (cases_eq a b) [
    | inl e ↦
        let no : differ a b ≡ false = ap (λ r. differ r b) e ∙ differ-self b in
        (parity_below-none n (λ c. parity_below n (F a b c))
        (λ c lc. parity_below-none n (F a b c) (λ d ld. ap (λ r. F r b c d) e ∙ z1 b c d)))
        ∙ sym (ap₂ (λ x y. x ⊻ (y ⊻ at_two a b))
        (parity_below-none n (λ c. parity_below n (at_four a b c))
        (λ c lc. parity_below-none n (at_four a b c)
        (λ d ld. ap (λ r. (r && (differ c d && ((differ c a && differ c b) && (differ d a && differ d b))))
        && F a b c d) no)))
        (parity_below-none n (by_first a b)
        (λ c lc. ap (λ r. (r && (differ b c && differ c a))
        && ((F a b b c ⊻ F a b c b) ⊻ (F a b a c ⊻ F a b c a))) no))
        ∙ ap (λ r. r && (F a b a b ⊻ F a b b a)) no)
    | inr p ↦ one_first z1 z2 a b la lb p
  ]

  four_cancel : ((a b c d : ℕ) → a < n → b < n → c < n → d < n → four_differ a b c d ≡ true → F a b c d ≡ F c d a b)
      → parity_below n (λ a. parity_below n (λ b. parity_below n (λ c. parity_below n (at_four a b c)))) ≡ false
  four_cancel h =
      parity_below-same n (λ a. parity_below n (λ b. parity_below n (λ c. parity_below n (at_four a b c))))
      (λ a. parity_below n (λ c. both a c))
      (λ a la. parity_swap (λ b c. parity_below n (at_four a b c)) (below n) (below n))
      ∙ off_diagonal
      ∙ parity_below-none n (λ a. both a a)
      (λ a la. parity_below-none n (λ b. parity_below n (at_four a b a))
      (λ b lb. parity_below-none n (at_four a b a) (λ d ld.
      ap (λ r. (differ a b && (differ a d && ((r && differ a b) && (differ d a && differ d b)))) && F a b a d)
      (differ-self a)
      ∙ same 3 (λ x y z. (x && (y && false)) && z) (λ x y z. false) refl (differ a b) (differ a d) (F a b a d))))
    where
      both : ℕ → ℕ → Bool
      both a c = parity_below n (λ b. parity_below n (at_four a b c))

      off_diagonal : parity_below n (λ a. parity_below n (λ c. both a c)) ≡ parity_below n (λ a. both a a)
      off_diagonal = parity_symmetric (λ t. t < n) both (below n) (Each-below n n (λ t l. l)) (λ a c la lc.
          parity_below-same n (λ b. parity_below n (at_four a b c)) (λ b. parity_below n (λ d. at_four c d a b))
          (λ b lb. parity_below-same n (at_four a b c) (λ d. at_four c d a b) (λ d ld.
          guard (four_differ a b c d) (F a b c d) (F c d a b) (h a b c d la lb lc ld)
          ∙ ap (λ r. r && F c d a b) (four_differ-flipped a b c d)))
          ∙ parity_swap (λ b d. at_four c d a b) (below n) (below n))

  three_cancel : ((a b c : ℕ) → a < n → b < n → c < n → three_differ a b c ≡ true
      → at_three a b c ⊻ (at_three b c a ⊻ at_three c a b) ≡ false)
      → parity_below n (λ a. parity_below n (λ b. parity_below n (by_first a b))) ≡ false
  three_cancel h =
      parity_below-same n (λ a. parity_below n (λ b. parity_below n (by_first a b)))
      (λ a. parity_below n (λ b. parity_below n (one a b)) ⊻ parity_below n (λ b. parity_below n (two a b))) (λ a la.
      parity_below-same n (λ b. parity_below n (by_first a b))
      (λ b. parity_below n (one a b) ⊻ parity_below n (two a b)) (λ b lb.
      parity_below-same n (by_first a b) (λ c. one a b c ⊻ two a b c)
      (λ c lc. and-xor (three_differ a b c) (F a b b c ⊻ F a b c b) (F a b a c ⊻ F a b c a))
      ∙ parity-xor (one a b) (two a b) (below n))
      ∙ parity-xor (λ b. parity_below n (one a b)) (λ b. parity_below n (two a b)) (below n))
      ∙ parity-xor (λ a. parity_below n (λ b. parity_below n (one a b)))
      (λ a. parity_below n (λ b. parity_below n (two a b))) (below n)
      ∙ ap (λ r. parity_below n (λ a. parity_below n (λ b. parity_below n (one a b))) ⊻ r)
      (parity_swap (λ a b. parity_below n (two a b)) (below n) (below n)
      ∙ parity_below-same n (λ b. parity_below n (λ a. parity_below n (two a b)))
      (λ b. parity_below n (λ a. parity_below n (two_turned b a)))
      (λ b lb. parity_below-same n (λ a. parity_below n (two a b)) (λ a. parity_below n (two_turned b a)) (λ a la.
      parity_below-same n (two a b) (two_turned b a)
      (λ c lc. ap (λ r. r && (F a b a c ⊻ F a b c a)) (three_differ-flipped b a c)))))
      ∙ sym (parity-xor (λ a. parity_below n (λ b. parity_below n (one a b)))
      (λ a. parity_below n (λ b. parity_below n (two_turned a b))) (below n))
      ∙ parity_below-same n (λ a. parity_below n (λ b. parity_below n (one a b))
      ⊻ parity_below n (λ b. parity_below n (two_turned a b))) (λ a. parity_below n (λ b. parity_below n (all a b)))
      (λ a la.
      sym (parity-xor (λ b. parity_below n (one a b)) (λ b. parity_below n (two_turned a b)) (below n))
      ∙ parity_below-same n (λ b. parity_below n (one a b) ⊻ parity_below n (two_turned a b))
      (λ b. parity_below n (all a b)) (λ b lb.
      sym (parity-xor (one a b) (two_turned a b) (below n))
      ∙ parity_below-same n (λ c. one a b c ⊻ two_turned a b c) (all a b)
      (λ c lc. sym (and-xor (three_differ a b c) (F a b b c ⊻ F a b c b) (F b a b c ⊻ F b a c b)))))
      ∙ thrice
    where
      one : ℕ → ℕ → ℕ → Bool
      one a b c = three_differ a b c && (F a b b c ⊻ F a b c b)

      two : ℕ → ℕ → ℕ → Bool
      two a b c = three_differ a b c && (F a b a c ⊻ F a b c a)

      two_turned : ℕ → ℕ → ℕ → Bool
      two_turned a b c = three_differ a b c && (F b a b c ⊻ F b a c b)

      all : ℕ → ℕ → ℕ → Bool
      all a b c = three_differ a b c && at_three a b c

      total : Bool
      total = parity_below n (λ a. parity_below n (λ b. parity_below n (all a b)))

      once : total ≡ parity_below n (λ a. parity_below n (λ b. parity_below n (λ c. all b c a)))
      once =
          parity_below-same n (λ b. parity_below n (λ c. parity_below n (all b c)))
          (λ b. parity_below n (λ a. parity_below n (λ c. all b c a)))
          (λ b lb. parity_swap (λ c a. all b c a) (below n) (below n))
          ∙ parity_swap (λ b a. parity_below n (λ c. all b c a)) (below n) (below n)

      twice : total ≡ parity_below n (λ a. parity_below n (λ b. parity_below n (λ c. all c a b)))
      twice =
          parity_swap (λ c a. parity_below n (all c a)) (below n) (below n)
          ∙ parity_below-same n (λ a. parity_below n (λ c. parity_below n (all c a)))
          (λ a. parity_below n (λ b. parity_below n (λ c. all c a b)))
          (λ a la. parity_swap (λ c b. all c a b) (below n) (below n))

      thrice : total ≡ false
      thrice =
          same 1 (λ x. x) (λ x. x ⊻ (x ⊻ x)) refl total
          ∙ ap₂ (λ x y. total ⊻ (x ⊻ y)) once twice
          ∙ ap (λ r. total ⊻ r) (sym (parity-xor (λ a. parity_below n (λ b. parity_below n (λ c. all b c a)))
          (λ a. parity_below n (λ b. parity_below n (λ c. all c a b))) (below n)))
          ∙ sym (parity-xor (λ a. parity_below n (λ b. parity_below n (all a b)))
          (λ a. parity_below n (λ b. parity_below n (λ c. all b c a))
          ⊻ parity_below n (λ b. parity_below n (λ c. all c a b))) (below n))
          ∙ parity_below-none n (λ a. parity_below n (λ b. parity_below n (all a b))
          ⊻ (parity_below n (λ b. parity_below n (λ c. all b c a))
          ⊻ parity_below n (λ b. parity_below n (λ c. all c a b)))) (λ a la.
          ap (λ r. parity_below n (λ b. parity_below n (all a b)) ⊻ r)
          (sym (parity-xor (λ b. parity_below n (λ c. all b c a)) (λ b. parity_below n (λ c. all c a b)) (below n)))
          ∙ sym (parity-xor (λ b. parity_below n (all a b))
          (λ b. parity_below n (λ c. all b c a) ⊻ parity_below n (λ c. all c a b)) (below n))
          ∙ parity_below-none n (λ b. parity_below n (all a b)
          ⊻ (parity_below n (λ c. all b c a) ⊻ parity_below n (λ c. all c a b))) (λ b lb.
          ap (λ r. parity_below n (all a b) ⊻ r) (sym (parity-xor (λ c. all b c a) (λ c. all c a b) (below n)))
          ∙ sym (parity-xor (all a b) (λ c. all b c a ⊻ all c a b) (below n))
          ∙ parity_below-none n (λ c. all a b c ⊻ (all b c a ⊻ all c a b)) (λ c lc.
          ap₂ (λ x y. (three_differ a b c && at_three a b c) ⊻ ((x && at_three b c a) ⊻ (y && at_three c a b)))
          (three_differ-next a b c) (sym (three_differ-next c a b))
          ∙ same 4 (λ p x y z. (p && x) ⊻ ((p && y) ⊻ (p && z))) (λ p x y z. p && (x ⊻ (y ⊻ z))) refl
          (three_differ a b c) (at_three a b c) (at_three b c a) (at_three c a b)
          ∙ guard (three_differ a b c) _ false (h a b c la lb lc) ∙ and-false (three_differ a b c))))

  -- what is left is the part at two places
  pub steps_left : ((a c d : ℕ) → F a a c d ≡ false) → ((a b c : ℕ) → F a b c c ≡ false)
      → ((a b c d : ℕ) → a < n → b < n → c < n → d < n → four_differ a b c d ≡ true → F a b c d ≡ F c d a b)
      → ((a b c : ℕ) → a < n → b < n → c < n → three_differ a b c ≡ true
      → at_three a b c ⊻ (at_three b c a ⊻ at_three c a b) ≡ false)
      → over_two_steps ≡ parity_below n (λ a. parity_below n (at_two a))
  steps_left z1 z2 h4 h3 =
      parity_below-same n (λ a. parity_below n (λ b. parity_below n (λ c. parity_below n (F a b c))))
      (λ a. parity_below n (λ b. parity_below n (λ c. parity_below n (at_four a b c)))
      ⊻ (parity_below n (λ b. parity_below n (by_first a b)) ⊻ parity_below n (at_two a))) (λ a la.
      parity_below-same n (λ b. parity_below n (λ c. parity_below n (F a b c)))
      (λ b. parity_below n (λ c. parity_below n (at_four a b c)) ⊻ (parity_below n (by_first a b) ⊻ at_two a b))
      (λ b lb. one_first_any z1 z2 a b la lb)
      ∙ parity-xor (λ b. parity_below n (λ c. parity_below n (at_four a b c)))
      (λ b. parity_below n (by_first a b) ⊻ at_two a b) (below n)
      ∙ ap (λ r. parity_below n (λ b. parity_below n (λ c. parity_below n (at_four a b c))) ⊻ r)
      (parity-xor (λ b. parity_below n (by_first a b)) (at_two a) (below n)))
      ∙ parity-xor (λ a. parity_below n (λ b. parity_below n (λ c. parity_below n (at_four a b c))))
      (λ a. parity_below n (λ b. parity_below n (by_first a b)) ⊻ parity_below n (at_two a)) (below n)
      ∙ ap₂ (λ x y. x ⊻ y) (four_cancel h4)
      (parity-xor (λ a. parity_below n (λ b. parity_below n (by_first a b))) (λ a. parity_below n (at_two a)) (below n)
      ∙ ap (λ x. x ⊻ parity_below n (λ a. parity_below n (at_two a))) (three_cancel h3))

  -- if steps at two places cancel too, the sum vanishes
  pub steps_cancel : ((a c d : ℕ) → F a a c d ≡ false) → ((a b c : ℕ) → F a b c c ≡ false)
      → ((a b c d : ℕ) → a < n → b < n → c < n → d < n → four_differ a b c d ≡ true → F a b c d ≡ F c d a b)
      → ((a b c : ℕ) → a < n → b < n → c < n → three_differ a b c ≡ true
      → at_three a b c ⊻ (at_three b c a ⊻ at_three c a b) ≡ false)
      → parity_below n (λ a. parity_below n (at_two a)) ≡ false
      → over_two_steps ≡ false
  steps_cancel z1 z2 h4 h3 h2 = steps_left z1 z2 h4 h3 ∙ h2
