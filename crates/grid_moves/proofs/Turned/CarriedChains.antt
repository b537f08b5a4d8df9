-- Chains carried along a map f of states that has an inverse b. What a carried chain holds; sums over carried
-- chains; and if f carries the states that F gives of a state to those that G gives, the sum of G over the
-- carried chain is the carried sum of F. F and G are borders of states, or images.
--
-- Route: a code moves to the index of the image of its state, and a number that is the index of no state stays,
-- so that the map of codes has an inverse on all numbers; such a map may be taken into each sum.
use Rattle.std.proofs.Common.{Bool, List, [], ap, ap₂, arith, cond, eqb, false, inl, inr, map, refl, sym, true, ℕ, ◌<◌, ◌||◌, ◌∙◌, ◌∷◌, ◌≡◌, ◌≤◌}
use Rattle.std.proofs.lemmas.Bool.{cases_lt, false_from_ne_true, le-ltb, lt-ltb}
use Rattle.f2_algebra.proofs.Chains.Sets.{any, holds-codes, holds-nothing, holds-of_codes, holds-single, same_chain, weight, weight-at, weight-same, weight-single}
use Rattle.f2_algebra.proofs.Chains.Sums.{holds-sum_over, weight-sum_over}
use Rattle.f2_algebra.specs.Chain.{Chain, codes, holds, nothing, of_codes, single, sum_over}
use Rattle.state_rank.proofs.RankLemmas.{IsBijection-unrank, rank-below, rank-unrank, unrank-rank, unrank-past}
use Rattle.state_rank.specs.Bijection.{IsBijection}
use Rattle.state_rank.specs.States.{factorial, rank, unrank}
use Rattle.grid_moves.specs.Inner.CodeCarried.{carried, moved}

-- equations that imply each other are tested alike
pub eqb_alike : (a b c d : ℕ) → (a ≡ b → c ≡ d) → (c ≡ d → a ≡ b) → eqb a b ≡ eqb c d
eqb_alike a b c d there back = grind (arith, there, back)

-- ---- maps of codes
module _ (p r : ℕ → ℕ) (there : (c : ℕ) → p (r c) ≡ c) (back : (c : ℕ) → r (p c) ≡ c) where
  -- the value is q if the argument is the other map's value at q
  pub eqb-renamed : (q c : ℕ) → eqb q (p c) ≡ eqb (r q) c
  eqb-renamed q c = eqb_alike q (p c) (r q) c (λ e. ap r e ∙ back c) (λ e. sym (there q) ∙ ap p e)

  any-map : (q : ℕ) (xs : List ℕ) → any q (map p xs) ≡ any (r q) xs
  any-map q [] = refl
  any-map q (x ∷ xs) = ap₂ (λ a b. a || b) (eqb-renamed q x) (any-map q xs)

  -- what the chain of the values holds
  pub holds-renamed : (z : Chain) (q : ℕ) → holds (of_codes (map p (codes z))) q ≡ holds z (r q)
  holds-renamed z q = holds-of_codes (map p (codes z)) q ∙ any-map q (codes z) ∙ sym (holds-codes z (r q))

  -- it is a sum of single codes
  pub renamed-sum : (z : Chain) → of_codes (map p (codes z)) ≡ sum_over z (λ c. single (p c))
  renamed-sum z = same_chain _ _ (λ q.
      holds-renamed z q
      ∙ sym (weight-at z (r q))
      ∙ weight-same _ _ z (λ c _. sym (eqb-renamed q c) ∙ sym (holds-single (p c) q))
      ∙ sym (holds-sum_over z (λ c. single (p c)) q))

  -- the weight of a test
  pub weight-renamed : (f : ℕ → Bool) (z : Chain) → weight f (of_codes (map p (codes z))) ≡ weight (λ c. f (p c)) z
  weight-renamed f z = ap (weight f) (renamed-sum z) ∙ weight-sum_over f z (λ c. single (p c))
      ∙ weight-same _ _ z (λ c _. weight-single f (p c))

-- ---- maps of states
-- b undoes f, and f undoes b, on the states of size n
pub record AreInverse (n : ℕ) (f b : List ℕ → List ℕ) : Type 0 where
  pub kept : (x : List ℕ) → IsBijection n x → IsBijection n (f x)
  pub kept_back : (x : List ℕ) → IsBijection n x → IsBijection n (b x)
  pub undone : (x : List ℕ) → IsBijection n x → b (f x) ≡ x
  pub redone : (x : List ℕ) → IsBijection n x → f (b x) ≡ x

-- and the other way round
pub AreInverse-back : (n : ℕ) (f b : List ℕ → List ℕ) → AreInverse n f b → AreInverse n b f
AreInverse-back n f b is = record { kept = is.kept_back; kept_back = is.kept; undone = is.redone; redone = is.undone }

module _ (n : ℕ) (f : List ℕ → List ℕ) where
  -- the index of a state moves
  pub moved-below : (c : ℕ) → c < factorial n → moved n f c ≡ rank (f (unrank n c))
  moved-below c l = ap (λ b. cond b (rank (f (unrank n c))) c) (lt-ltb c (factorial n) l)

  -- a number that is the index of no state stays
  pub moved-past : (c : ℕ) → factorial n ≤ c → moved n f c ≡ c
  moved-past c l = ap (λ b. cond b (rank (f (unrank n c))) c) (le-ltb c (factorial n) l)

  -- the index of x moves to that of f x
  pub moved-rank : (x : List ℕ) → IsBijection n x → moved n f (rank x) ≡ rank (f x)
  moved-rank x sx = moved-below (rank x) (rank-below n x sx) ∙ ap (λ y. rank (f y)) (unrank-rank n x sx)

-- moved there and back
pub moved-undone : (n : ℕ) (f b : List ℕ → List ℕ) → AreInverse n f b → (c : ℕ) → moved n b (moved n f c) ≡ c
moved-undone n f b is c = elim (cases_lt c (factorial n)) [
  | inl l ↦
      let x = unrank n c in
      let sx = IsBijection-unrank n c l in
      ap (moved n b) (moved-below n f c l) ∙ moved-rank n b (f x) (is.kept x sx) ∙ ap rank (is.undone x sx)
      ∙ rank-unrank n c l
  | inr l ↦ ap (moved n b) (moved-past n f c l) ∙ moved-past n b c l
]

module _ (n : ℕ) (f b : List ℕ → List ℕ) (is : AreInverse n f b) where
  undone : (c : ℕ) → moved n b (moved n f c) ≡ c
  undone = moved-undone n f b is

  redone : (c : ℕ) → moved n f (moved n b c) ≡ c
  redone = moved-undone n b f (AreInverse-back n f b is)

  -- what the carried chain holds
  pub holds-carried : (z : Chain) (c : ℕ) → holds (carried n f z) c ≡ holds z (moved n b c)
  unfolding carried
  holds-carried z c = holds-renamed (moved n f) (moved n b) redone undone z c

  -- it holds f x if the chain holds x
  pub holds-carried_state : (z : Chain) (x : List ℕ) → IsBijection n x
      → holds (carried n f z) (rank (f x)) ≡ holds z (rank x)
  holds-carried_state z x sx =
      holds-carried z (rank (f x)) ∙ ap (holds z) (moved-rank n b (f x) (is.kept x sx) ∙ ap rank (is.undone x sx))

  -- the weight of a test
  pub weight-carried : (p : ℕ → Bool) (z : Chain) → weight p (carried n f z) ≡ weight (λ c. p (moved n f c)) z
  unfolding carried
  weight-carried p z = weight-renamed (moved n f) (moved n b) redone undone p z

  -- the chain of the state x is carried to that of f x
  pub carried-single : (x : List ℕ) → IsBijection n x → carried n f (single (rank x)) ≡ single (rank (f x))
  carried-single x sx = same_chain _ _ (λ q.
      holds-carried (single (rank x)) q
      ∙ holds-single (rank x) (moved n b q)
      ∙ sym (eqb-renamed (moved n f) (moved n b) redone undone q (rank x))
      ∙ ap (λ r. eqb q r) (moved-rank n f x sx)
      ∙ sym (holds-single (rank (f x)) q))

-- carried there and back
pub carried-carried : (n : ℕ) (f b : List ℕ → List ℕ) → AreInverse n f b → (z : Chain) → carried n b (carried n f z) ≡ z
carried-carried n f b is z = same_chain _ _ (λ q.
    holds-carried n b f (AreInverse-back n f b is) (carried n f z) q ∙ holds-carried n f b is z (moved n f q)
    ∙ ap (holds z) (moved-undone n f b is q))

-- ---- sums over the states of a chain
-- F gives a chain of states of size n of each state, and none of the empty list
pub record IsOfStates (n : ℕ) (F : List ℕ → Chain) : Type 0 where
  pub of_nil : F [] ≡ nothing
  pub below : (x : List ℕ) (c : ℕ) → IsBijection n x → holds (F x) c ≡ true → c < factorial n

module _ (n : ℕ) (f b : List ℕ → List ℕ) (is : AreInverse n f b) (F G : List ℕ → Chain) (sF : IsOfStates n F)
    (sG : IsOfStates n G)
    (steps : (x y : List ℕ) → IsBijection n x → IsBijection n y
    → holds (G (f x)) (rank (f y)) ≡ holds (F x) (rank y)) where
  past : (H : List ℕ → Chain) → IsOfStates n H → (x : List ℕ) → IsBijection n x → (t : ℕ) → factorial n ≤ t
      → holds (H x) t ≡ false
  past H sH x sx t l = false_from_ne_true _ (λ h. let k = sH.below x t sx h in absurd (omega arith))

  nil : (H : List ℕ → Chain) → IsOfStates n H → (k : ℕ) → factorial n ≤ k → (t : ℕ) → holds (H (unrank n k)) t ≡ false
  nil H sH k l t = ap (λ x. holds (H x) t) (unrank-past n k l) ∙ ap (λ z. holds z t) sH.of_nil ∙ holds-nothing t

  -- what holds of states holds of codes
  arrows : (k t : ℕ) → holds (G (unrank n (moved n f k))) (moved n f t) ≡ holds (F (unrank n k)) t
  arrows k t = elim (cases_lt k (factorial n)) [
    | inl l ↦
        let x : List ℕ = unrank n k in
        let sx = IsBijection-unrank n k l in
        ap (λ m. holds (G (unrank n m)) (moved n f t)) (moved-below n f k l)
        ∙ ap (λ y. holds (G y) (moved n f t)) (unrank-rank n (f x) (is.kept x sx))
        ∙ elim (cases_lt t (factorial n)) [
          | inl m ↦
              ap (holds (G (f x))) (moved-below n f t m) ∙ steps x (unrank n t) sx (IsBijection-unrank n t m)
              ∙ ap (holds (F x)) (rank-unrank n t m)
          | inr m ↦
              ap (holds (G (f x))) (moved-past n f t m) ∙ past G sG (f x) (is.kept x sx) t m
              ∙ sym (past F sF x sx t m)
        ]
    | inr l ↦
        ap (λ m. holds (G (unrank n m)) (moved n f t)) (moved-past n f k l) ∙ nil G sG k l (moved n f t)
        ∙ sym (nil F sF k l t)
  ]

  -- the sum of G over the carried chain is the carried sum of F
  pub sum_over-carried : (z : Chain)
      → sum_over (carried n f z) (λ code. G (unrank n code)) ≡ carried n f (sum_over z (λ code. F (unrank n code)))
  sum_over-carried z = same_chain _ _ (λ q.
      holds-sum_over (carried n f z) (λ code. G (unrank n code)) q
      ∙ weight-carried n f b is (λ k. holds (G (unrank n k)) q) z
      ∙ weight-same _ _ z (λ k _. ap (holds (G (unrank n (moved n f k))))
      (sym (moved-undone n b f (AreInverse-back n f b is) q)) ∙ arrows k (moved n b q))
      ∙ sym (holds-sum_over z (λ code. F (unrank n code)) (moved n b q))
      ∙ sym (holds-carried n f b is (sum_over z (λ code. F (unrank n code))) q))

  -- and of one state
  pub holds-carried_by : (x : List ℕ) → IsBijection n x → G (f x) ≡ carried n f (F x)
  holds-carried_by x sx = same_chain _ _ (λ q.
      let l = rank-below n x sx in
      ap (λ y. holds (G (f y)) q) (sym (unrank-rank n x sx))
      ∙ ap (λ y. holds (G y) q) (sym (unrank-rank n (f (unrank n (rank x)))
      (is.kept (unrank n (rank x)) (IsBijection-unrank n (rank x) l))))
      ∙ ap (λ m. holds (G (unrank n m)) q) (sym (moved-below n f (rank x) l))
      ∙ ap (holds (G (unrank n (moved n f (rank x))))) (sym (moved-undone n b f (AreInverse-back n f b is) q))
      ∙ arrows (rank x) (moved n b q)
      ∙ ap (λ y. holds (F y) (moved n b q)) (unrank-rank n x sx)
      ∙ sym (holds-carried n f b is (F x) q))
