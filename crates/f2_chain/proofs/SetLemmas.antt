-- Sets of codes as lists: what a search finds, what a toggle changes, what a sort keeps.
use Rattle.std.proofs.Common.{◌≡◌, ℕ, ◌+◌, ◌<◌, ◌≤◌, Bool, true, false, not, cond, eqb, nat_cmp, List, length, take, slice_index, get_or, add-one, Result, Ok, Err, is_ok, MatchResult, IsPermutation, refl, sym, ap, ap₂, ◌∙◌, arith, inl, inr}
use mathlib.Core.Bool.{beq}
use Rattle.std.proofs.Math.Seq.{take-suc}
use Rattle.std.proofs.lemmas.Bool.{cases_lt, eqb-true, eq-eqb, ne_eqb, false≢true}
use Rattle.std.proofs.lemmas.List.Sorted.{searched, list_any-IsPermutation, IsNonDecreasingBy-from_sort}
use Rattle.std.proofs.lemmas.Map.Keys.{IsDistinct-IsPermutation, IsStrictlyIncreasing-from_distinct}
use Rattle.std.specs.List.{list_any, IsDistinct}
use Rattle.std.specs.List.Sorted.{IsStrictlyIncreasing, IsSorted, IsBinarySearchResult}
use Rattle.f2_algebra.specs.Chain.{holds, of_codes, single, ◌⊕◌}
use Rattle.f2_algebra.proofs.Chains.Tables.{◌⊻◌, same, xor-false, xor_comm}
use Rattle.f2_algebra.proofs.Chains.Sets.{any, same_chain, holds-of_codes, holds-single, holds-add, parity, parity-push}
use Rattle.f2_algebra.proofs.Chains.Lists.{rises, any-at, any-none}

-- ---- a search
-- the element at a place is in the list
at_place : (xs : List ℕ) (i x : ℕ) → i < length xs → slice_index xs i ≡ x → any x xs ≡ true
at_place xs i x l e = ap (λ y. any y xs) (sym e) ∙ any-at xs i 0 l

no_fall : (xs : List ℕ) → IsStrictlyIncreasing xs → (i j : ℕ) → i ≤ j → j < length xs → get_or xs i 0 ≤ get_or xs j 0
no_fall xs up i j l k = elim (cases_lt i j) [
  | inl p ↦ let h = rises xs up i j p k in omega arith
  | inr p ↦ let e : i ≡ j = omega arith in let same = ap (slice_index xs) e in omega arith
]

found_is : (xs : List ℕ) (x : ℕ) (r : Result ℕ ℕ)
    → MatchResult r (λ i. (i < length xs) × (get_or xs i 0 ≡ x))
    (λ i. (i ≤ length xs) × ((k : ℕ) → k < i → get_or xs k 0 < x)
    × ((k : ℕ) → i ≤ k → k < length xs → x < get_or xs k 0)) → is_ok r ≡ any x xs
found_is xs x (Ok i) h = sym (at_place xs i x h.0 h.1)
found_is xs x (Err i) h =
    sym (any-none x xs (λ k l e. elim (cases_lt k i) [
      | inl p ↦ let q = h.1 k p in absurd (omega arith)
      | inr p ↦ let q = h.2 k p l in absurd (omega arith)
    ]))

-- what a binary search of an ascending list answers is whether the chain of the list holds the number
pub searched_is : (xs : List ℕ) (x : ℕ) (r : Result ℕ ℕ) → IsStrictlyIncreasing xs
    → IsBinarySearchResult (λ y. nat_cmp y x) xs r → is_ok r ≡ holds (of_codes xs) x
searched_is xs x r up found = found_is xs x r (searched xs x r found (no_fall xs up)) ∙ sym (holds-of_codes xs x)

-- ---- a parity that grows by one code
-- one more code, read at i
pub parity-take : (p : ℕ → Bool) (xs : List ℕ) (i : ℕ) → i < length xs
    → parity p (take (i + 1) xs) ≡ parity p (take i xs) ⊻ p (slice_index xs i)
parity-take p xs i l = ap (λ n. parity p (take n xs)) (add-one i) ∙ ap (parity p) (take-suc xs i 0 l)
    ∙ parity-push p (take i xs) (slice_index xs i)

-- the code toggles the parity if it is held
pub xor-beq : (odd parity held is_in : Bool) → odd ≡ parity → held ≡ is_in → not (beq odd held) ≡ parity ⊻ is_in
xor-beq odd parity held is_in e h =
    ap₂ (λ a b. not (beq a b)) e h ∙ same 2 (λ a b. not (beq a b)) (λ a b. a ⊻ b) refl parity is_in

-- ---- a hashed set
-- the chain of a set's keys holds what the set contains
pub holds-keys : (ks : List ℕ) (q : ℕ) → list_any (eqb q) ks ≡ holds (of_codes ks) q
holds-keys ks q = sym (holds-of_codes ks q)

-- a set that contains code exactly if the old one did not, and of the rest what the old one did, has the chain with
-- code toggled
of_codes-toggled : (old new : List ℕ) (code : ℕ)
    → ((q : ℕ) → list_any (eqb q) new ≡ cond (eqb code q) (not (list_any (eqb code) old)) (list_any (eqb q) old))
    → of_codes new ≡ of_codes old ⊕ single code
of_codes-toggled old new code h = same_chain _ _ (λ q.
    sym (holds-keys new q) ∙ h q ∙ flipped q (eqb code q) refl
    ∙ sym (holds-add (of_codes old) (single code) q
    ∙ ap₂ (λ a b. a ⊻ b) (sym (holds-keys old q)) (holds-single code q)))
  where
    flipped : (q : ℕ) (t : Bool) → eqb code q ≡ t
        → cond t (not (list_any (eqb code) old)) (list_any (eqb q) old) ≡ list_any (eqb q) old ⊻ eqb q code
    flipped q true e =
        let is : code ≡ q = eqb-true code q e in
        sym (xor_comm (list_any (eqb q) old) (eqb q code)
        ∙ ap₂ (λ a b. a ⊻ b) (eq-eqb q code (sym is)) (ap (λ k. list_any (eqb k) old) (sym is)))
    flipped q false e =
        sym (ap (λ b. list_any (eqb q) old ⊻ b) (ne_eqb q code (λ is. false≢true (sym e ∙ eq-eqb code q (sym is))))
        ∙ xor-false _)

-- code was not there, and is put in
pub toggled_in : (old left new : List ℕ) (code : ℕ) (found : Bool) → found ≡ list_any (eqb code) old → found ≡ false
    → ((q : ℕ) → list_any (eqb q) left ≡ cond (eqb code q) false (list_any (eqb q) old))
    → ((q : ℕ) → list_any (eqb q) new ≡ cond (eqb code q) true (list_any (eqb q) left))
    → of_codes new ≡ of_codes old ⊕ single code
toggled_in old left new code found is absent removed put =
    of_codes-toggled old new code (λ q. put q ∙ by q (eqb code q) refl)
  where
    by : (q : ℕ) (t : Bool) → eqb code q ≡ t
        → cond t true (list_any (eqb q) left) ≡ cond t (not (list_any (eqb code) old)) (list_any (eqb q) old)
    by q true e = ap not (sym absent ∙ is)
    by q false e = removed q ∙ ap (λ b. cond b false (list_any (eqb q) old)) e

-- code was there, and is taken out
pub toggled_out : (old new : List ℕ) (code : ℕ) (found : Bool) → found ≡ list_any (eqb code) old → found ≡ true
    → ((q : ℕ) → list_any (eqb q) new ≡ cond (eqb code q) false (list_any (eqb q) old))
    → of_codes new ≡ of_codes old ⊕ single code
toggled_out old new code found is present removed =
    of_codes-toggled old new code (λ q. removed q ∙ ap (λ b. cond (eqb code q) b (list_any (eqb q) old))
    (ap not (sym present ∙ is)))

-- ---- a sort of distinct codes
-- they ascend strictly
pub sorted_ascends : (ks list : List ℕ) → IsDistinct eqb ks → IsPermutation ks list → IsSorted nat_cmp list
    → IsStrictlyIncreasing list
sorted_ascends ks list distinct moved sorted =
    IsStrictlyIncreasing-from_distinct list (IsNonDecreasingBy-from_sort (λ x. x) list sorted)
    (IsDistinct-IsPermutation eqb flips ks list moved distinct)
  where
    flips : (a b : ℕ) → eqb a b ≡ eqb b a
    flips a b = grind arith

-- and make the same chain
pub of_codes-permuted : (ks list : List ℕ) → IsPermutation ks list → of_codes list ≡ of_codes ks
of_codes-permuted ks list moved =
    same_chain _ _ (λ q. sym (holds-keys list q) ∙ sym (list_any-IsPermutation (eqb q) ks list moved) ∙ holds-keys ks q)
