-- Each finite complex has a log that leaves no arrow, and so a rank in each degree.
use Rattle.std.proofs.Common.{◌≡◌, ℕ, zero, suc, ◌<◌, ◌≤◌, Bool, true, false, not, cond, ◌&&◌, ◌||◌, eqb, List, [], ◌∷◌, length, Option, Some, None, is_some, ◌↔◌, ◌⊎◌, inl, inr, refl, sym, ap, ap₂, ◌∙◌, arith}
use Rattle.std.proofs.lemmas.Bool.{cases_eq, eqb-true, eq-eqb, false≢true, and_parts}
use Rattle.std.specs.List.{filter}
use Rattle.std.proofs.lemmas.List.Sums.{length-filter, count_by-le-length}
use Rattle.f2_algebra.specs.Chain.{Chain, holds, codes, of_codes, nothing, where_code}
use Rattle.f2_algebra.specs.Complex.{Complex, arrow, IsComplex, IsRank}
use Rattle.f2_algebra.specs.Cancel.{cancelled, Entry, IsEntry, IsLog, after}
use Rattle.f2_algebra.proofs.Chains.Sets.{any, any-filter, same_chain, holds-nothing, holds-of_codes, holds-where_code, holds-codes}
use Rattle.f2_algebra.proofs.Cancelling.Cancellation.{same_some, cancelled_IsComplex}
use Rattle.f2_algebra.proofs.Cancelling.LogLemmas.{live_code, live_below, none_where, live_at_first}
use Rattle.f2_algebra.proofs.Ranks.RankLemmas.{rank_of_log}
use Rattle.f2_algebra.specs.Certificate.{IsAllCells}

-- each cell stands in the list
abbrev pub HasAllCells : {G : Type 0} → Complex G → List ℕ → Type 0
HasAllCells C xs = (s : ℕ) → is_some (C.degree s) ≡ true → any s xs ≡ true

-- ---- the codes below n
unfoldable pub codes_below : ℕ → List ℕ
codes_below zero = []
codes_below (suc n) = n ∷ codes_below n

-- each of them stands there
pub any-codes_below : (n s : ℕ) → s < n → any s (codes_below n) ≡ true
unfolding codes_below
any-codes_below zero s l = absurd (omega arith)
any-codes_below (suc n) s l = elim (cases_eq s n) [
  | inl same ↦ ap (λ b. b || any s (codes_below n)) (eq-eqb s n same)
  | inr other ↦ ap (λ b. eqb s n || b) (any-codes_below n s (below other)) ∙ either (eqb s n)
]
  where
    below : (s ≡ n → ⊥) → s < n
    below other = grind arith

    either : (b : Bool) → (b || true) ≡ true
    either true = refl
    either false = refl

-- ---- codes and arrows
-- a chain has a code, or is empty
pub some_code : (z : Chain) → ((y : ℕ) × (holds z y ≡ true)) ⊎ (z ≡ nothing)
some_code z = at_list (codes z) refl
  where
    at_list : (xs : List ℕ) → codes z ≡ xs → ((y : ℕ) × (holds z y ≡ true)) ⊎ (z ≡ nothing)
    at_list [] e = inr (same_chain z nothing (λ q. holds-codes z q ∙ ap (any q) e ∙ sym (holds-nothing q)))
    at_list (y ∷ xs) e = inl (y, holds-codes z y ∙ ap (any y) e ∙ ap (λ b. b || any y xs) (eq-eqb y y refl))

abbrev HasArrow : {G : Type 0} → Complex G → Type 0
HasArrow C = (x : ℕ) × (y : ℕ) × (arrow C x y ≡ true)

find_arrow : {G : Type 0} (C : Complex G) (xs : List ℕ)
    → HasArrow C ⊎ ((s : ℕ) → any s xs ≡ true → C.targets s ≡ nothing)
find_arrow C [] = inr (λ s i. absurd (false≢true i))
find_arrow C (x ∷ xs) =
    let later = find_arrow C xs in
    elim (some_code (C.targets x)) [
      | inl a ↦ inl (x, a.0, a.1)
      | inr none ↦ elim later [
        | inl a ↦ inl a
        | inr bare ↦ inr (λ s i. at_head s (eqb s x) refl none bare i)
      ]
    ]
  where
    at_head : (s : ℕ) (b : Bool) → eqb s x ≡ b → C.targets x ≡ nothing
        → ((t : ℕ) → any t xs ≡ true → C.targets t ≡ nothing) → (b || any s xs) ≡ true → C.targets s ≡ nothing
    at_head s true e none bare i = ap C.targets (eqb-true s x e) ∙ none
    at_head s false e none bare i = bare s i

no_arrow_within : {G : Type 0} (C : Complex G) → IsComplex C → (xs : List ℕ) → HasAllCells C xs
    → ((s : ℕ) → any s xs ≡ true → C.targets s ≡ nothing) → (s : ℕ) → C.targets s ≡ nothing
no_arrow_within C laws xs in_xs bare s =
    same_chain _ _ (λ t. none_where (arrow C s t) (λ a. let (m, above, _) = laws.lowers s t a in
    false≢true (sym (holds-nothing t) ∙ ap (λ z. holds z t) (sym (bare s (in_xs s (ap is_some above)))) ∙ a))
    ∙ sym (holds-nothing t))

-- the entry of an arrow, of a complex whose cells stand in xs
abbrev entry_of : {G : Type 0} → Complex G → List ℕ → ℕ → ℕ → Entry
entry_of C xs x y = record {
  x = x;
  y = y;
  sources = of_codes (filter (λ s. arrow C s y && not (eqb s x)) xs);
  targets = where_code (λ t. not (eqb t y)) (C.targets x);
}

when_in : (a b m : Bool) → (a ≡ true → m ≡ true) → (m && (a && b)) ≡ (a && b)
when_in true b m h = ap (λ c. c && b) (h refl)
when_in false b true h = refl
when_in false b false h = refl

entry_fits : {G : Type 0} (C : Complex G) → IsComplex C → (xs : List ℕ) → HasAllCells C xs → (x y : ℕ)
    → arrow C x y ≡ true
    → IsEntry C (entry_of C xs x y)
entry_fits C laws xs in_xs x y a = record {
  arrows = a;
  other_sources =
      λ s. holds-of_codes _ s ∙ any-filter s _ xs
      ∙ when_in (arrow C s y) _ (any s xs) (λ b. let (m, above, _) = laws.lowers s y b in in_xs s (ap is_some above));
  other_targets = λ t. holds-where_code _ (C.targets x) t;
}

shorter : (x : ℕ) (xs : List ℕ) → any x xs ≡ true → length (filter (λ s. not (eqb s x)) xs) < length xs
shorter x [] i = absurd (false≢true i)
shorter x (y ∷ ys) i = at_test (eqb y x) (ap (λ b. b || any x ys) (flipped y x) ∙ i) (shorter x ys)
  where
    flipped : (a b : ℕ) → eqb a b ≡ eqb b a
    flipped a b = grind arith

    at_test : (b : Bool) → (b || any x ys) ≡ true
        → (any x ys ≡ true → length (filter (λ s. not (eqb s x)) ys) < length ys)
        → length (cond (not b) (y ∷ filter (λ s. not (eqb s x)) ys) (filter (λ s. not (eqb s x)) ys)) < suc (length ys)
    at_test true e l = let kept = length-filter (λ s. not (eqb s x)) ys in
        let few = count_by-le-length (λ s. not (eqb s x)) ys in omega arith
    at_test false e l = let h = l e in omega arith

in_filter : (x s : ℕ) (xs : List ℕ) → any s xs ≡ true → eqb s x ≡ false → any s (filter (λ t. not (eqb t x)) xs) ≡ true
in_filter x s xs i e = any-filter s _ xs ∙ ap₂ (λ a b. a && not b) i e

or_first : (a b : Bool) → (a || b) ≡ false → a ≡ false
or_first true b h = h
or_first false b h = refl

IsBare : {G : Type 0} → Complex G → Type 0
IsBare C = (s : ℕ) → C.targets s ≡ nothing

-- a log of the complex that leaves no arrow
abbrev pub Reduced : {G : Type 0} → Complex G → Type 0
Reduced C = (log : List Entry) × IsLog C log × ((s : ℕ) → (after C log).targets s ≡ nothing)

reduce_by : {G : Type 0} (n : ℕ) (C : Complex G) → IsComplex C → (xs : List ℕ) → length xs ≤ n → HasAllCells C xs
    → Reduced C
reduce_by zero C laws [] l in_xs = ([], tt, no_arrow_within C laws [] in_xs (λ s i. absurd (false≢true i)))
reduce_by zero C laws (x ∷ xs) l in_xs = absurd (omega arith)
reduce_by (suc n) C laws xs l in_xs = elim (find_arrow C xs) [
  | inl a ↦
      let x = a.0 in
      let y = a.1 in
      let fits = entry_fits C laws xs in_xs x y a.2 in
      let (log, stands, bare) =
      reduce_by n (cancelled C x y) (cancelled_IsComplex C laws (entry_of C xs x y) fits)
      (filter (λ t. not (eqb t x)) xs)
      (let h = shorter x xs (in_xs x (let (m, above, _) = laws.lowers x y a.2 in ap is_some above)) in omega arith)
      (λ s live. in_filter x s xs (in_xs s (sym (ap is_some (live_below C laws (entry_of C xs x y) fits s live))
      ∙ live)) (or_first (eqb s x) (eqb s y) (live_code C x y s live))) in
      (entry_of C xs x y ∷ log, (fits, stands), bare)
  | inr bare ↦ ([], tt, no_arrow_within C laws xs in_xs bare)
]

-- each finite complex has such a log
pub reduce : {G : Type 0} (C : Complex G) → IsComplex C → (xs : List ℕ) → HasAllCells C xs → Reduced C
reduce C laws xs in_xs = reduce_by (length xs) C laws xs (omega arith) in_xs

-- ---- a rank in each degree
-- whether the degree, if there is one, is m
abbrev pub has_degree : {G : Type 0} → (G → G → Bool) → G → Option G → Bool
has_degree eq m None = false
has_degree eq m (Some n) = eq n m

module _ {G : Type 0} (eq : G → G → Bool) (eq_is : (m n : G) → (eq m n ≡ true) ↔ (m ≡ n)) where
  -- the test says what it should
  pub has_degree-is : (m : G) (d : Option G) → (has_degree eq m d ≡ true) ↔ (d ≡ Some m)
  has_degree-is m None = (λ h. absurd (false≢true h), λ e. absurd (false≢true (ap is_some e)))
  has_degree-is m (Some n) = (λ h. ap Some ((eq_is n m).0 h), λ e. (eq_is n m).1 (same_some n m e))

  -- the cells of degree m
  abbrev pub cells_of : Complex G → List ℕ → G → Chain
  cells_of C xs m = of_codes (filter (λ s. has_degree eq m (C.degree s)) xs)

  -- the codes that pass the test are all cells of the degree
  pub cells_of-all : (C : Complex G) (xs : List ℕ) → HasAllCells C xs → (m : G) → IsAllCells C m (cells_of C xs m)
  cells_of-all C xs in_xs m s =
      let is : holds (cells_of C xs m) s ≡ (any s xs && has_degree eq m (C.degree s)) =
      holds-of_codes _ s ∙ any-filter s _ xs in (
        λ h. (has_degree-is m (C.degree s)).0 ((and_parts (any s xs) _ (sym is ∙ h)).1),
        λ e. is ∙ ap₂ ◌&&◌ (in_xs s (ap is_some e)) ((has_degree-is m (C.degree s)).1 e),
      )

  -- each finite complex has a rank in each degree
  pub exists_rank : (C : Complex G) → IsComplex C → (xs : List ℕ) → HasAllCells C xs → (m : G) → (d : ℕ) × IsRank C m d
  exists_rank C laws xs in_xs m =
      let (log, stands, bare) = reduce C laws xs in_xs in
      let D = after C log in
      let in_D : HasAllCells D xs =
      λ s live. in_xs s (sym (ap is_some (live_at_first C laws log stands s live)) ∙ live) in
      (_, rank_of_log C laws log stands bare m (cells_of D xs m) (cells_of-all D xs in_D m))
