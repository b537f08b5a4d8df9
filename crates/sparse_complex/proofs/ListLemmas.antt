-- Doubly linked lists over functions: what follows what, and what taking an id out or putting one in does.
use Rattle.std.proofs.Common.{◌≡◌, ◌≢◌, ℕ, zero, suc, ◌≤◌, Bool, true, false, not, cond, ◌&&◌, ◌||◌, eqb, List, [], ◌∷◌, length, ◌⊎◌, inl, inr, refl, sym, ap, subst, ◌∙◌, arith}
use Rattle.std.specs.List.{filter}
use Rattle.std.proofs.lemmas.Bool.{eqb-true, eq-eqb, false≢true}
use Rattle.f2_algebra.proofs.Chains.Sets.{any-filter}
use Rattle.sparse_complex.specs.Inner.Lists.{no_id, among, AreDistinct, IsList, ids_from}
use Rattle.f2_algebra.proofs.Chains.Tables.{eqb_comm}

-- ---- tests
cond_same : {A : Type 0} (b : Bool) (x : A) → cond b x x ≡ x
cond_same true x = refl
cond_same false x = refl

-- the list without an id
abbrev pub leave_out : ℕ → List ℕ → List ℕ
leave_out id is = filter (λ i. not (eqb i id)) is

pub IsList-at : (next prev : ℕ → ℕ) (is : List ℕ) (p q h k : ℕ) → p ≡ q → h ≡ k → IsList next prev p h is
    → IsList next prev q k is
IsList-at next prev is p q h k a b l = subst (λ (t : ℕ × ℕ). IsList next prev t.0 t.1 is) (λ i. (a i, b i)) l

pub in_head : (x : ℕ) (xs : List ℕ) → among x (x ∷ xs) ≡ true
in_head x xs = ap (λ b. b || among x xs) (eq-eqb x x refl)

pub in_tail : (q x : ℕ) (xs : List ℕ) → among q xs ≡ true → among q (x ∷ xs) ≡ true
in_tail q x xs h = ap (λ b. eqb q x || b) h ∙ either (eqb q x)
  where
    either : (b : Bool) → (b || true) ≡ true
    either true = refl
    either false = refl

-- an element is the first or one of the others
pub in_cases : (q x : ℕ) (xs : List ℕ) → among q (x ∷ xs) ≡ true → (q ≡ x) ⊎ (among q xs ≡ true)
in_cases q x xs h = by (eqb q x) refl h
  where
    by : (b : Bool) → eqb q x ≡ b → (b || among q xs) ≡ true → (q ≡ x) ⊎ (among q xs ≡ true)
    by true e h = inl (eqb-true q x e)
    by false e h = inr h

-- ---- one list
module _ (next prev : ℕ → ℕ) where
  -- what stands after an id of the list leads back to it
  pub follows : (is : List ℕ) (p h : ℕ) → IsList next prev p h is → (i : ℕ) → among i is ≡ true
      → (next i ≡ no_id) ⊎ ((among (next i) is ≡ true) × (prev (next i) ≡ i))
  follows [] p h l i m = absurd (false≢true m)
  follows (x ∷ is) p h l i m = elim (in_cases i x is m) [
    | inl e ↦
        subst (λ j. (next j ≡ no_id) ⊎ ((among (next j) (x ∷ is) ≡ true) × (prev (next j) ≡ j))) (sym e)
        (first is l.2)
    | inr t ↦ elim (follows is x (next x) l.2 i t) [
      | inl none ↦ inl none
      | inr r ↦ inr (in_tail (next i) x is r.0, r.1)
    ]
  ]
    where
      first : (is : List ℕ) → IsList next prev x (next x) is
          → (next x ≡ no_id) ⊎ ((among (next x) (x ∷ is) ≡ true) × (prev (next x) ≡ x))
      first [] l = inl l
      first (y ∷ is) l =
          inr (in_tail (next x) x (y ∷ is) (ap (λ j. among j (y ∷ is)) l.0 ∙ in_head y is), ap prev l.0 ∙ l.1)

  -- what stands before an id of the list leads to it, and before the first stands p
  pub precedes : (is : List ℕ) (p h : ℕ) → IsList next prev p h is → (i : ℕ) → among i is ≡ true
      → ((prev i ≡ p) × (h ≡ i)) ⊎ ((among (prev i) is ≡ true) × (next (prev i) ≡ i))
  precedes [] p h l i m = absurd (false≢true m)
  precedes (x ∷ is) p h l i m = elim (in_cases i x is m) [
    | inl e ↦ inl (ap prev e ∙ l.1, l.0 ∙ sym e)
    | inr t ↦ elim (precedes is x (next x) l.2 i t) [
      | inl r ↦ inr (ap (λ j. among j (x ∷ is)) r.0 ∙ in_head x is, ap next r.0 ∙ r.1)
      | inr r ↦ inr (in_tail (prev i) x is r.0, r.1)
    ]
  ]

  -- the first of a list is in it
  pub leads : (is : List ℕ) (p h : ℕ) → IsList next prev p h is → h ≢ no_id → (among h is ≡ true) × (prev h ≡ p)
  leads [] p h l none = absurd (none l)
  leads (x ∷ is) p h l none = (ap (λ j. among j (x ∷ is)) l.0 ∙ in_head x is, ap prev l.0 ∙ l.1)

  -- a list is what its chain gives
  pub ids_from-list : (is : List ℕ) (p h : ℕ) (n : ℕ) → IsList next prev p h is
      → ((i : ℕ) → among i is ≡ true → eqb i no_id ≡ false) → length is ≤ n → ids_from next n h ≡ is
  ids_from-list [] p h zero l ids b = refl
  ids_from-list [] p h (suc n) l ids b = ap (λ t. cond t [] (h ∷ ids_from next n (next h))) (eq-eqb h no_id l)
  ids_from-list (x ∷ is) p h zero l ids b = absurd (omega arith)
  ids_from-list (x ∷ is) p h (suc n) l ids b =
      ap (λ t. cond t [] (h ∷ ids_from next n (next h))) (ap (λ j. eqb j no_id) l.0 ∙ ids x (in_head x is))
      ∙ (λ i. l.0 i ∷ ids_from next n (next (l.0 i)))
      ∙ ap (λ r. x ∷ r) (ids_from-list is x (next x) n l.2 (λ i m. ids i (in_tail i x is m)) (omega arith))

  -- an id taken out: whoever led to it leads past it
  pub list-unlinked : (next' prev' : ℕ → ℕ) (id : ℕ) → eqb id no_id ≡ false → (is : List ℕ) (p h : ℕ)
      → ((i : ℕ) → among i is ≡ true → eqb i id ≡ false → next' i ≡ cond (eqb (next i) id) (next id) (next i))
      → ((i : ℕ) → among i is ≡ true → eqb i id ≡ false → prev' i ≡ cond (eqb (prev i) id) (prev id) (prev i))
      → IsList next prev p h is
      → IsList next' prev' (cond (eqb p id) (prev id) p) (cond (eqb h id) (next id) h) (leave_out id is)
  list-unlinked next' prev' id ne [] p h n v l =
      ap (λ b. cond b (next id) h) (ap (λ j. eqb j id) l ∙ eqb_comm no_id id ∙ ne) ∙ l
  list-unlinked next' prev' id ne (x ∷ is) p h n v l =
      by (eqb x id) refl (list-unlinked next' prev' id ne is x (next x) (λ i m. n i (in_tail i x is m))
      (λ i m. v i (in_tail i x is m)) l.2)
    where
      by : (b : Bool) → eqb x id ≡ b
          → IsList next' prev' (cond (eqb x id) (prev id) x) (cond (eqb (next x) id) (next id) (next x))
          (leave_out id is)
          → IsList next' prev' (cond (eqb p id) (prev id) p) (cond (eqb h id) (next id) h)
          (cond (not b) (x ∷ leave_out id is) (leave_out id is))
      by true e r =
          let x_is = eqb-true x id e in
          IsList-at next' prev' (leave_out id is) _ _ _ _
          (ap (λ b. cond b (prev id) x) e ∙ ap prev (sym x_is) ∙ l.1
          ∙ sym (ap (λ j. cond (eqb p id) j p) (ap prev (sym x_is) ∙ l.1) ∙ cond_same (eqb p id) p))
          (ap (λ j. cond (eqb (next x) id) (next id) (next j)) x_is ∙ cond_same (eqb (next x) id) (next id)
          ∙ sym (ap (λ b. cond b (next id) h) (ap (λ j. eqb j id) l.0 ∙ e)))
          r
      by false e r = (
        ap (λ b. cond b (next id) h) (ap (λ j. eqb j id) l.0 ∙ e) ∙ l.0,
        v x (in_head x is) e ∙ ap (λ j. cond (eqb j id) (prev id) j) l.1,
        IsList-at next' prev' (leave_out id is) _ _ _ _ (ap (λ b. cond b (prev id) x) e) (sym (n x (in_head x is) e)) r,
      )

  -- an id put in before a list: whoever had none before it has the id
  pub list-linked : (next' prev' : ℕ → ℕ) (id : ℕ) (is : List ℕ) (p h : ℕ)
      → ((i : ℕ) → among i is ≡ true → next' i ≡ next i)
      → ((i : ℕ) → among i is ≡ true → eqb i no_id ≡ false)
      → ((i : ℕ) → among i is ≡ true → prev' i ≡ cond (eqb (prev i) no_id) id (prev i))
      → IsList next prev p h is → IsList next' prev' (cond (eqb p no_id) id p) h is
  list-linked next' prev' id [] p h n z v l = l
  list-linked next' prev' id (x ∷ is) p h n z v l = (
    l.0,
    v x (in_head x is) ∙ ap (λ j. cond (eqb j no_id) id j) l.1,
    IsList-at next' prev' is _ _ _ _ (ap (λ b. cond b id x) (z x (in_head x is))) (sym (n x (in_head x is)))
        (list-linked next' prev' id is x (next x) (λ i m. n i (in_tail i x is m)) (λ i m. z i (in_tail i x is m))
        (λ i m. v i (in_tail i x is m)) l.2),
  )

-- a list over functions that agree on it
pub list-same : (next prev next' prev' : ℕ → ℕ) (is : List ℕ) (p h : ℕ)
    → ((i : ℕ) → among i is ≡ true → next' i ≡ next i) → ((i : ℕ) → among i is ≡ true → prev' i ≡ prev i)
    → IsList next prev p h is → IsList next' prev' p h is
list-same next prev next' prev' [] p h n v l = l
list-same next prev next' prev' (x ∷ is) p h n v l = (
  l.0,
  v x (in_head x is) ∙ l.1,
  IsList-at next' prev' is _ _ _ _ refl (sym (n x (in_head x is)))
      (list-same next prev next' prev' is x (next x) (λ i m. n i (in_tail i x is m))
      (λ i m. v i (in_tail i x is m)) l.2),
)

-- ---- apart
pub AreDistinct-filter : (p : ℕ → Bool) (is : List ℕ) → AreDistinct is → AreDistinct (filter p is)
AreDistinct-filter p [] a = tt
AreDistinct-filter p (x ∷ is) a = by (p x) (AreDistinct-filter p is a.1)
  where
    by : (b : Bool) → AreDistinct (filter p is) → AreDistinct (cond b (x ∷ filter p is) (filter p is))
    by true r = (any-filter x p is ∙ ap (λ b. b && p x) a.0, r)
    by false r = r
