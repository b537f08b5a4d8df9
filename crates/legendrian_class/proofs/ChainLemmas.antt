-- The codes of a chain one by one: the least, those that pass a test, how many they are.
use Rattle.std.proofs.Common.{◌≡◌, ℕ, zero, suc, ◌+◌, ◌<◌, ◌≤◌, Bool, true, false, cond, ◌&&◌, ◌||◌, eqb, List, [], ◌∷◌, length, drop, slice_index, Option, refl, sym, ap, ap₂, subst, ◌∙◌, add-one, inl, inr, arith}
use Rattle.std.specs.List.{filter, slice_get}
use Rattle.std.specs.List.Sorted.{IsStrictlyIncreasing}
use Rattle.std.specs.Option.{IfSome, IsNone}
use Rattle.std.proofs.Math.Seq.{drop-cons, drop-length}
use Rattle.std.proofs.lemmas.Bool.{cases_Bool, eqb-true, eq-eqb, false≢true}
use Rattle.f2_algebra.specs.Chain.{Chain, holds, codes, nothing, single, of_codes, ◌⊕◌, where_code}
use Rattle.f2_algebra.proofs.Chains.Sets.{any, any-filter, same_chain, holds-nothing, holds-codes, IsApart, IsApart-codes}
use Rattle.f2_algebra.proofs.Chains.Sums.{add_assoc, add-nothing, nothing-add}
use Rattle.f2_algebra.proofs.Chains.Lists.{of_codes-cons, rising-codes, rises}
use Rattle.legendrian_class.specs.Inner.Parts.{IsLeast}
use Rattle.f2_algebra.proofs.Chains.Cardinality.{cardinality-length, cardinality-of_codes}

-- ---- each code
each_in : (P : ℕ → Type 0) (xs : List ℕ) → ((k : ℕ) → k < length xs → P (slice_index xs k)) → (s : ℕ) → any s xs ≡ true
    → P s
each_in P [] all s is = absurd (false≢true is)
each_in P (x ∷ xs) all s is = elim (cases_Bool (eqb s x)) [
  | inl same ↦ subst P (sym (eqb-true s x same)) (all 0 (omega arith))
  | inr other ↦ each_in P xs (λ k l. all (suc k) (omega arith)) s (sym (ap (λ b. b || any s xs) other) ∙ is)
]

-- ---- the least code
first_place : (x : ℕ) (xs : List ℕ) → IsStrictlyIncreasing (x ∷ xs) → (k : ℕ) → k < length (x ∷ xs)
    → x ≤ slice_index (x ∷ xs) k
first_place x xs up zero l = omega arith
first_place x xs up (suc k) l = let h = rises (x ∷ xs) up 0 (suc k) (omega arith) l in omega arith

first_of : (z : Chain) (xs : List ℕ) → codes z ≡ xs → IsStrictlyIncreasing xs
    → IfSome (slice_get xs 0) (IsLeast z) × (IsNone (slice_get xs 0) → z ≡ nothing)
first_of z [] is up = (tt, λ _. same_chain z nothing (λ q. holds-codes z q ∙ ap (any q) is ∙ sym (holds-nothing q)))
first_of z (x ∷ xs) is up = (
  (
    holds-codes z x ∙ ap (any x) is ∙ ap (λ b. b || any x xs) (eq-eqb x x refl),
    λ t h. each_in (λ y. x ≤ y) (x ∷ xs) (first_place x xs up) t (sym (ap (any t) is) ∙ sym (holds-codes z t) ∙ h),
  ),
  λ none. absurd (false≢true (sym none)),
)

-- the first of the codes is the least
pub first-least : (z : Chain) (o : Option ℕ) → o ≡ slice_get (codes z) 0 → IfSome o (IsLeast z)
first-least z o e = subst (λ p. IfSome p (IsLeast z)) (sym e) (first_of z (codes z) refl (rising-codes z)).0

-- and if there is none, the chain is empty
pub first_code-none : (z : Chain) (o : Option ℕ) → o ≡ slice_get (codes z) 0 → IsNone o → z ≡ nothing
first_code-none z o e none = (first_of z (codes z) refl (rising-codes z)).1 (subst IsNone e none)

-- ---- the codes that pass a test
-- those of a list that pass it toggled, in order
abbrev pub selected : (ℕ → Bool) → Chain → List ℕ → Chain
selected test z [] = z
selected test z (x ∷ xs) = selected test (cond (test x) (z ⊕ single x) z) xs

kept : (b : Bool) (z : Chain) (x : ℕ) (xs : List ℕ) → any x xs ≡ false
    → cond b (z ⊕ single x) z ⊕ of_codes xs ≡ z ⊕ of_codes (cond b (x ∷ xs) xs)
kept true z x xs new = add_assoc z (single x) (of_codes xs) ∙ ap (λ c. z ⊕ c) (sym (of_codes-cons x xs new))
kept false z x xs new = refl

selected-sum : (test : ℕ → Bool) (z : Chain) (xs : List ℕ) → IsApart xs
    → selected test z xs ≡ z ⊕ of_codes (filter test xs)
selected-sum test z [] apart = sym (add-nothing z)
selected-sum test z (x ∷ xs) apart =
    selected-sum test (cond (test x) (z ⊕ single x) z) xs apart.1
    ∙ kept (test x) z x (filter test xs) (any-filter x test xs ∙ ap (λ b. b && test x) apart.0)

-- one code more
pub selected-next : (test : ℕ → Bool) (xs : List ℕ) (k : ℕ) (z w all : Chain) (b : Bool) → k < length xs
    → selected test z (drop k xs) ≡ all → b ≡ test (slice_index xs k) → w ≡ cond b (z ⊕ single (slice_index xs k)) z
    → selected test w (drop (k + 1) xs) ≡ all
selected-next test xs k z w all b within so_far is step =
    ap₂ (λ u ys. selected test u ys) (step ∙ ap (λ t. cond t (z ⊕ single (slice_index xs k)) z) is)
    (ap (λ n. drop n xs) (add-one k))
    ∙ ap (selected test z) (sym (drop-cons xs k 0 within)) ∙ so_far

-- all of them
pub selected-all : (test : ℕ → Bool) (z w : Chain) (xs : List ℕ) (k : ℕ) → xs ≡ codes z → k ≡ length xs
    → selected test w (drop k xs) ≡ selected test nothing xs → w ≡ where_code test z
unfolding where_code
selected-all test z w xs k is all so_far =
    ap (selected test w) (sym (ap (λ n. drop n xs) all ∙ drop-length xs)) ∙ so_far
    ∙ ap (selected test nothing) is
    ∙ selected-sum test nothing (codes z) (IsApart-codes z)
    ∙ nothing-add (of_codes (filter test (codes z)))

-- ---- how many they are
length-filter : (test : ℕ → Bool) (xs : List ℕ) → length (filter test xs) ≤ length xs
length-filter test [] = omega arith
length-filter test (x ∷ xs) = by (test x) (length-filter test xs)
  where
    by : (b : Bool) → length (filter test xs) ≤ length xs
        → length (cond b (x ∷ filter test xs) (filter test xs)) ≤ suc (length xs)
    by true l = omega arith
    by false l = omega arith

shorter : (test : ℕ → Bool) (xs : List ℕ) (s : ℕ) → any s xs ≡ true → test s ≡ false
    → length (filter test xs) < length xs
shorter test [] s is fails = absurd (false≢true is)
shorter test (x ∷ xs) s is fails = elim (cases_Bool (eqb s x)) [
  | inl same ↦ at_head (test x) (sym (ap test (eqb-true s x same)) ∙ fails) (length-filter test xs)
  | inr other ↦ in_tail (test x) (shorter test xs s (sym (ap (λ b. b || any s xs) other) ∙ is) fails)
]
  where
    at_head : (b : Bool) → b ≡ false → length (filter test xs) ≤ length xs
        → length (cond b (x ∷ filter test xs) (filter test xs)) < suc (length xs)
    at_head true e l = absurd (false≢true (sym e))
    at_head false e l = omega arith

    in_tail : (b : Bool) → length (filter test xs) < length xs
        → length (cond b (x ∷ filter test xs) (filter test xs)) < suc (length xs)
    in_tail true l = omega arith
    in_tail false l = omega arith

apart-filter : (test : ℕ → Bool) (xs : List ℕ) → IsApart xs → IsApart (filter test xs)
apart-filter test [] apart = tt
apart-filter test (x ∷ xs) apart =
    by (test x) (any-filter x test xs ∙ ap (λ b. b && test x) apart.0) (apart-filter test xs apart.1)
  where
    by : (b : Bool) → any x (filter test xs) ≡ false → IsApart (filter test xs)
        → IsApart (cond b (x ∷ filter test xs) (filter test xs))
    by true new rest = (new, rest)
    by false new rest = rest

-- if one code fails the test, fewer pass it
pub fewer-where : (test : ℕ → Bool) (z : Chain) (s : ℕ) → holds z s ≡ true → test s ≡ false
    → length (codes (where_code test z)) < length (codes z)
unfolding where_code
fewer-where test z s is fails =
    let less = shorter test (codes z) s (sym (holds-codes z s) ∙ is) fails in
    let count : length (codes (of_codes (filter test (codes z)))) ≡ length (filter test (codes z)) =
    sym (cardinality-length (of_codes (filter test (codes z))))
    ∙ cardinality-of_codes (filter test (codes z)) (apart-filter test (codes z) (IsApart-codes z)) in
    omega arith
