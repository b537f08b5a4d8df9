-- Lists over the numbers below n that pass a test, ascending.
use Rattle.std.proofs.Common.{◌≡◌, ℕ, zero, suc, ◌<◌, Bool, true, false, cond, List, [], ◌∷◌, ◌++◌, map, length, slice_index, refl, ap, ap₂, ◌∙◌, sym, arith, inl, inr}
use Rattle.std.specs.List.{filter}
use Rattle.std.proofs.Math.IntN.{ℤ, pos, ◌+ℤ◌}
use Rattle.std.proofs.lemmas.Int.{ints}
use Rattle.std.proofs.lemmas.Bool.{cases_eq}
use Rattle.std.proofs.lemmas.List.{length-map}
use Rattle.std.proofs.lemmas.List.Elements.{filter-append}
use Rattle.state_rank.specs.Bijection.{ascending}
use Rattle.torus_geom.proofs.Sums.TabulateLemmas.{tabulate-suc}
use Rattle.multi_degree.specs.ComponentDegrees.{total_degree}
use Rattle.multi_degree.proofs.PartSums.{sum_where}

-- one number more
pub filter-ascending : (p : ℕ → Bool) (n : ℕ)
    → filter p (ascending (suc n)) ≡ filter p (ascending n) ++ cond (p n) (n ∷ []) []
filter-ascending p n = ap (filter p) (tabulate-suc n (λ c. c)) ∙ filter-append p (ascending n) (n ∷ [])

pub map_append : {A B : Type 0} (f : A → B) (xs ys : List A) → map f (xs ++ ys) ≡ map f xs ++ map f ys
map_append f [] ys = refl
map_append f (x ∷ xs) ys = ap (λ l. f x ∷ l) (map_append f xs ys)

pub total_degree-append : (xs ys : List ℤ) → total_degree (xs ++ ys) ≡ total_degree xs +ℤ total_degree ys
total_degree-append [] ys = omega (arith, ints)
total_degree-append (x ∷ xs) ys = let rest = total_degree-append xs ys in omega (arith, ints)

-- functions that agree if the test passes
pub map-passing : {A : Type 0} (p : ℕ → Bool) (f g : ℕ → A) (n : ℕ) → ((c : ℕ) → c < n → p c ≡ true → f c ≡ g c)
    → map f (filter p (ascending n)) ≡ map g (filter p (ascending n))
map-passing p f g zero h = refl
map-passing p f g (suc n) h =
    ap (map f) (filter-ascending p n) ∙ map_append f (filter p (ascending n)) _
    ∙ ap₂ ◌++◌ (map-passing p f g n (λ c l. h c (omega arith))) (by (p n) (h n (omega arith)))
    ∙ sym (ap (map g) (filter-ascending p n) ∙ map_append g (filter p (ascending n)) _)
  where
    by : (b : Bool) → (b ≡ true → f n ≡ g n) → map f (cond b (n ∷ []) []) ≡ map g (cond b (n ∷ []) [])
    by true e = ap (λ y. y ∷ []) (e refl)
    by false e = refl

-- the sum of such a list
pub total_degree-passing : (p : ℕ → Bool) (f : ℕ → ℤ) (n : ℕ)
    → total_degree (map f (filter p (ascending n))) ≡ sum_where n p f
total_degree-passing p f zero = refl
total_degree-passing p f (suc n) =
    let split = ap (λ l. total_degree (map f l)) (filter-ascending p n)
    ∙ ap total_degree (map_append f (filter p (ascending n)) (cond (p n) (n ∷ []) []))
    ∙ total_degree-append (map f (filter p (ascending n))) (map f (cond (p n) (n ∷ []) [])) in
    let before = total_degree-passing p f n in
    let last = by (p n) in
    omega (arith, ints)
  where
    by : (b : Bool) → total_degree (map f (cond b (n ∷ []) [])) ≡ cond b (f n) (pos 0)
    by true = omega (arith, ints)
    by false = refl

-- ---- the place of a number in the list
-- what stands before it and after it
filter-split : (p : ℕ → Bool) (n f : ℕ) → f < n → p f ≡ true
    → (rest : List ℕ) × (filter p (ascending n) ≡ filter p (ascending f) ++ f ∷ rest)
filter-split p zero f l h = absurd (omega arith)
filter-split p (suc n) f l h = elim (cases_eq f n) [
  | inl e ↦ (
    [],
    filter-ascending p n ∙ (λ i. filter p (ascending (sym e i)) ++ cond (p (sym e i)) (sym e i ∷ []) [])
        ∙ ap (λ b. filter p (ascending f) ++ cond b (f ∷ []) []) h,
  )
  | inr q ↦
      let before = filter-split p n f (omega arith) h in
      let last : List ℕ = cond (p n) (n ∷ []) [] in (
        before.0 ++ last,
        filter-ascending p n ∙ ap (λ l. l ++ last) before.1 ∙ joined (filter p (ascending f)) f before.0 last,
      )
]
  where
    joined : (xs : List ℕ) (y : ℕ) (ys zs : List ℕ) → (xs ++ y ∷ ys) ++ zs ≡ xs ++ y ∷ (ys ++ zs)
    joined [] y ys zs = refl
    joined (x ∷ xs) y ys zs = ap (λ l. x ∷ l) (joined xs y ys zs)

slice_index-seam : (xs : List ℕ) (y : ℕ) (ys : List ℕ) → slice_index (xs ++ y ∷ ys) (length xs) ≡ y
slice_index-seam [] y ys = refl
slice_index-seam (x ∷ xs) y ys = slice_index-seam xs y ys

-- the value of a function at a number that passes stands in its place
pub slice_index-passing : (p : ℕ → Bool) (F : ℕ → ℕ) (n f k : ℕ) → f < n → p f ≡ true
    → k ≡ length (filter p (ascending f)) → slice_index (map F (filter p (ascending n))) k ≡ F f
slice_index-passing p F n f k l h e =
    let split = filter-split p n f l h in
    let before = filter p (ascending f) in
    (λ i. slice_index (map F (split.1 i)) ((e ∙ sym (length-map before F)) i))
    ∙ ap (λ xs. slice_index xs (length (map F before))) (map_append F before (f ∷ split.0))
    ∙ slice_index-seam (map F before) (F f) (map F split.0)
