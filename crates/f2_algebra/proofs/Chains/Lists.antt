-- Chains that are made of lists of codes.
use Rattle.std.proofs.Common.{◌≡◌, nat_eq, ℕ, suc, ◌+◌, ◌<◌, Bool, true, false, not, T, ◌&&◌, ◌||◌, eqb, List, [], ◌∷◌, ◌++◌, map, length, drop, slice_index, inl, inr, add-one, drop-cons, get_or-drop, length-drop, zero, nat_cmp, is_lt, refl, sym, ap, ap₂, subst, ◌∙◌, arith, get_or}
use Rattle.std.proofs.lemmas.Bool.{eqb-true, ne_eqb, cases_lt, eq-eqb}
use Rattle.std.specs.List.{list_any, All}
use Rattle.std.specs.List.Sorted.{IsStrictlyIncreasing}
use Rattle.std.specs.Cmp.{nat_cmp_total}
use Rattle.std.specs.FinMap as fin
use Rattle.std.specs.FinMap.Entries.{below_all, is_sorted}
use Rattle.f2_algebra.specs.Chain.{Chain, holds, codes, of_codes, single, ◌⊕◌}
use Rattle.f2_algebra.proofs.Chains.Tables.{◌⊻◌}
use Rattle.f2_algebra.proofs.Chains.Sets.{keys-units, any, any-append, same_chain, holds-codes, holds-of_codes, holds-single, holds-add}
use Rattle.f2_algebra.proofs.Chains.Sums.{add_comm}
use Rattle.std.proofs.lemmas.List.{length-map}

apart_or : (e m : Bool) → (e ≡ true → m ≡ false) → (e || m) ≡ (e ⊻ m)
apart_or true m h = sym (ap not (h refl))
apart_or false m h = refl

-- a new code in front is added to the set
pub of_codes-cons : (x : ℕ) (xs : List ℕ) → any x xs ≡ false → of_codes (x ∷ xs) ≡ single x ⊕ of_codes xs
of_codes-cons x xs new = same_chain _ _ (λ q.
    holds-of_codes (x ∷ xs) q
    ∙ apart_or (eqb q x) (any q xs) (λ e. ap (λ s. any s xs) (eqb-true q x e) ∙ new)
    ∙ sym (holds-add (single x) (of_codes xs) q ∙ ap₂ ◌⊻◌ (holds-single x q) (holds-of_codes xs q)))

or_comm : (a b : Bool) → (a || (b || false)) ≡ (b || a)
or_comm true true = refl
or_comm true false = refl
or_comm false true = refl
or_comm false false = refl

-- a new code at the end is added to the set
pub of_codes-push : (xs : List ℕ) (x : ℕ) → any x xs ≡ false → of_codes (xs ++ x ∷ []) ≡ of_codes xs ⊕ single x
of_codes-push xs x new =
    same_chain _ _ (λ q. holds-of_codes _ q ∙ any-append q xs (x ∷ []) ∙ or_comm (any q xs) (eqb q x)
    ∙ sym (holds-of_codes (x ∷ xs) q))
    ∙ of_codes-cons x xs new ∙ add_comm _ _

both : (a b : Bool) → T a → T b → T (a && b)
both true b p q = q
both false b p q = p

is_less : (x y : ℕ) → x < y → T (is_lt (nat_cmp x y))
is_less x y l = grind arith

rise_head : (x y : ℕ) (ys : List ℕ) → IsStrictlyIncreasing (x ∷ y ∷ ys) → x < y
rise_head x y ys h = h 0 (omega arith)

rise_tail : (x : ℕ) (xs : List ℕ) → IsStrictlyIncreasing (x ∷ xs) → IsStrictlyIncreasing xs
rise_tail x xs h k l = let e : suc k + 1 ≡ suc (k + 1) = omega arith in
    subst (λ j. slice_index xs k < slice_index (x ∷ xs) j) e (h (suc k) (omega arith))

below : (x y : ℕ) (ys : List ℕ) → x < y → IsStrictlyIncreasing (y ∷ ys)
    → T (below_all nat_cmp x (map {B = ℕ × Unit {0}} (λ s. (s, tt)) (y ∷ ys)))
below x y [] l h = both _ _ (is_less x y l) tt
below x y (z ∷ zs) l h =
    both _ _ (is_less x y l) (below x z zs (let k = rise_head y z zs h in omega arith) (rise_tail y (z ∷ zs) h))

sorted_entries : (xs : List ℕ) → IsStrictlyIncreasing xs
    → T (is_sorted nat_cmp (map {B = ℕ × Unit {0}} (λ s. (s, tt)) xs))
sorted_entries [] h = tt
sorted_entries (x ∷ []) h = tt
sorted_entries (x ∷ y ∷ ys) h =
    both _ _ (below x y ys (rise_head x y ys h) (rise_tail x (y ∷ ys) h))
    (sorted_entries (y ∷ ys) (rise_tail x (y ∷ ys) h))

-- a list of codes that rises strictly is the list of its chain
pub codes-of_codes : (xs : List ℕ) → IsStrictlyIncreasing xs → codes (of_codes xs) ≡ xs
unfolding codes of_codes
codes-of_codes xs rising =
    let es : List (ℕ × Unit {0}) = map (λ s. (s, tt)) xs in
    let sorted : T (is_sorted nat_cmp es) = sorted_entries xs rising in
    let same : fin.from_entries {R = nat_cmp} es ≡ fin.from_sorted es =
    fin.same_map nat_cmp_total fin.nat_cmp-IsAntisymmetric _ _
    (λ q. fin.get-from_entries nat_cmp_total es q ∙ sym (fin.get-from_sorted nat_cmp es q sorted))
    in
    ap fin.keys same ∙ ap (map (λ e. e.0)) (fin.entries-from_sorted nat_cmp es sorted) ∙ keys-units xs

-- the chain of the codes of a chain is that chain
pub of_codes-codes : (z : Chain) → of_codes (codes z) ≡ z
of_codes-codes z = same_chain _ _ (λ q. holds-of_codes (codes z) q ∙ sym (holds-codes z q))

-- an element that is at no place is not in the list
pub any-none : (q : ℕ) (xs : List ℕ) → ((k : ℕ) → k < length xs → slice_index xs k ≡ q → ⊥) → any q xs ≡ false
any-none q [] h = refl
any-none q (x ∷ xs) h =
    ap₂ ◌||◌ (ne_eqb q x (λ e. h 0 (omega arith) (sym e))) (any-none q xs (λ k l e. h (suc k) (omega arith) e))

-- an element that is above each element of a list is not in it
pub any-above : (q : ℕ) (xs : List ℕ) → ((k : ℕ) → k < length xs → slice_index xs k < q) → any q xs ≡ false
any-above q xs h = any-none q xs (λ k l e. let p = h k l in omega arith)

-- a list that rises strictly does so over any distance
pub rises : (xs : List ℕ) → IsStrictlyIncreasing xs → (i k : ℕ) → i < k → k < length xs
    → slice_index xs i < slice_index xs k
rises xs h i zero l m = absurd (omega arith)
rises xs h i (suc k) l m = by_last (rises xs h i k)
  where
    by_last : (i < k → k < length xs → slice_index xs i < slice_index xs k) → slice_index xs i < slice_index xs (suc k)
    by_last before =
        let last : slice_index xs k < slice_index xs (suc k) =
        subst (λ j. slice_index xs k < slice_index xs j) (add-one k) (h k (omega arith)) in
        elim (cases_lt i k) [
          | inl p ↦ let q = before p (omega arith) in omega arith
          | inr p ↦ let e : i ≡ k = omega arith in subst (λ j. slice_index xs j < slice_index xs (suc k)) (sym e) last
        ]

-- the element at i is in no later part
pub any-later : (xs : List ℕ) → IsStrictlyIncreasing xs → (i : ℕ) → i < length xs
    → any (slice_index xs i) (drop (i + 1) xs) ≡ false
any-later xs h i l = any-none (slice_index xs i) (drop (i + 1) xs) (λ k p e.
    let far = rises xs h i (i + 1 + k) (omega arith) (omega (arith, length-drop (i + 1) xs)) in
    let at : slice_index (drop (i + 1) xs) k ≡ slice_index xs (i + 1 + k) = get_or-drop (i + 1) xs k 0 in
    omega arith)

-- one code further on in a list that rises
pub of_codes-drop : (xs : List ℕ) → IsStrictlyIncreasing xs → (i : ℕ) → i < length xs
    → of_codes (drop i xs) ≡ single (slice_index xs i) ⊕ of_codes (drop (i + 1) xs)
of_codes-drop xs h i l = ap of_codes (drop-cons xs i 0 l ∙ ap (λ j. slice_index xs i ∷ drop j xs) (sym (add-one i)))
    ∙ of_codes-cons _ _ (any-later xs h i l)

less_is : (x y : ℕ) → T (is_lt (nat_cmp x y)) → x < y
less_is x y l = grind arith

first_of_both : (a b : Bool) → T (a && b) → T a
first_of_both true b p = tt
first_of_both false b p = p

second_of_both : (a b : Bool) → T (a && b) → T b
second_of_both true b p = p
second_of_both false b p = absurd p

-- the codes of a chain rise strictly
rising_keys : (es : List (ℕ × Unit {0})) → T (is_sorted nat_cmp es) → IsStrictlyIncreasing (map (λ e. e.0) es)
rising_keys [] h k l = absurd (omega arith)
rising_keys (e ∷ []) h k l = absurd (omega arith)
rising_keys (e ∷ f ∷ es) h zero l = less_is e.0 f.0 (first_of_both _ _ (first_of_both _ _ h))
rising_keys (e ∷ f ∷ es) h (suc k) l =
    let at : suc k + 1 ≡ suc (k + 1) = omega arith in
    let keys : List ℕ = map (λ e. e.0) (f ∷ es) in
    let in_keys : k + 1 < length keys = omega arith in
    let later : slice_index keys k < slice_index keys (k + 1) = rising_keys (f ∷ es) (second_of_both _ _ h) k in_keys in
    subst (λ j. slice_index (map (λ e. e.0) (f ∷ es)) k < slice_index (map (λ e. e.0) (e ∷ f ∷ es)) j) (sym at) later

-- the codes of a chain ascend
pub rising-codes : (z : Chain) → IsStrictlyIncreasing (codes z)
unfolding codes
rising-codes z = rising_keys (fin.entries z) (fin.entries_sorted z)

-- in the words of a slice's `contains`
pub holds-list : (xs : List ℕ) (q : ℕ) → list_any (λ y. nat_eq y q) xs ≡ holds (of_codes xs) q
holds-list xs q = flipped xs ∙ sym (holds-of_codes xs q)
  where
    same : (a b : ℕ) → nat_eq a b ≡ eqb b a
    same a b = grind arith

    flipped : (ys : List ℕ) → list_any (λ y. nat_eq y q) ys ≡ any q ys
    flipped [] = refl
    flipped (y ∷ ys) = ap₂ ◌||◌ (same y q) (flipped ys)

-- a list has the element at each place
pub any-at : (xs : List ℕ) (k d : ℕ) → k < length xs → any (get_or xs k d) xs ≡ true
any-at [] k d l = absurd (omega arith)
any-at (x ∷ xs) zero d l = ap (λ b. b || any x xs) (eq-eqb x x refl)
any-at (x ∷ xs) (suc k) d l =
    ap (λ b. eqb (get_or xs k d) x || b) (any-at xs k d (omega arith)) ∙ either (eqb (get_or xs k d) x)
  where
    either : (b : Bool) → (b || true) ≡ true
    either true = refl
    either false = refl

-- what holds of each code that a chain holds
pub All-codes : (P : ℕ → Type 0) (z : Chain) → ((s : ℕ) → holds z s ≡ true → P s) → All P (codes z)
All-codes P z h k d l = h (get_or (codes z) k d) (holds-codes z (get_or (codes z) k d) ∙ any-at (codes z) k d l)

-- a place of a list is one of the list of values
pub below-map : {A B : Type 0} (f : A → B) (xs : List A) (k : ℕ) → k < length xs → k < length (map f xs)
below-map f xs k l = omega (arith, l, length-map xs f)
