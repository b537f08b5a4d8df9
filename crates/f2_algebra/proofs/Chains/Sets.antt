-- What a chain holds, and the weight of a test over its codes: whether an odd number of them pass it.
use Rattle.std.proofs.Common.{◌≡◌, ℕ, suc, ◌+◌, ◌<◌, Bool, true, false, not, cond, T, ◌&&◌, ◌||◌, eqb, List, [], ◌∷◌, ◌++◌, map, length, Option, Some, None, is_some, ◌⊎◌, inl, inr, refl, sym, ap, ap₂, subst, ◌∙◌, arith, nat_cmp, is_lt, All}
use Rattle.std.proofs.lemmas.Bool.{eqb-true, ne_eqb, eq-eqb, true≢false, false≢true}
use Rattle.std.specs.List.{filter, list_any}
use Rattle.std.specs.Ordering.{eq_by_cmp}
use Rattle.std.specs.Cmp.{nat_cmp_total, unsigned_tied}
use Rattle.std.specs.FinMap as fin
use Rattle.std.specs.FinMap.Entries.{is_some-find, below_all, is_sorted}
use Rattle.std.proofs.Math.Bool.{or_assoc, or-false}
use Rattle.f2_algebra.specs.Chain.{Chain, holds, codes, of_codes, nothing, single, ◌⊕◌, is_odd, pairs_oddly, where_code}
pub use Rattle.f2_algebra.proofs.Chains.ParityLemmas.{parity, parity-xor}
use Rattle.f2_algebra.proofs.Chains.ParityLemmas.{below, parity_below, parity_below-same, parity_below-one, parity-false, is_odd-filter}
use Rattle.f2_algebra.proofs.Chains.Tables.{◌⊻◌, and_comm, and_assoc, xor-false, xor_assoc, xor-and, xor_or}
use Rattle.std.proofs.lemmas.Map.Views.{Contains-from_any}

-- ---- membership in lists
-- whether q is an element of the list
abbrev pub any : ℕ → List ℕ → Bool
any q xs = list_any (eqb q) xs

-- the same by the order of numbers
pub any-is : (q : ℕ) (xs : List ℕ) → list_any (eq_by_cmp nat_cmp q) xs ≡ any q xs
any-is q [] = refl
any-is q (x ∷ xs) = ap₂ ◌||◌ (unsigned_tied q x) (any-is q xs)

-- an element of two lists together is in one of them
pub any-append : (q : ℕ) (xs ys : List ℕ) → any q (xs ++ ys) ≡ (any q xs || any q ys)
any-append q [] ys = refl
any-append q (x ∷ xs) ys = ap (λ b. eqb q x || b) (any-append q xs ys) ∙ sym (or_assoc (eqb q x) (any q xs) (any q ys))

kept : (a e m p : Bool) → (e ≡ true → a ≡ p) → cond a (e || (m && p)) (m && p) ≡ ((e || m) && p)
kept true true m p h = h refl
kept false true true p h = refl
kept false true false p h = h refl
kept true false m p h = refl
kept false false m p h = refl

any-cond : (q : ℕ) (a : Bool) (xs ys : List ℕ) → any q (cond a xs ys) ≡ cond a (any q xs) (any q ys)
any-cond q true xs ys = refl
any-cond q false xs ys = refl

-- an element that passes the test stays
pub any-filter : (q : ℕ) (p : ℕ → Bool) (xs : List ℕ) → any q (filter p xs) ≡ (any q xs && p q)
any-filter q p [] = refl
any-filter q p (x ∷ xs) =
    any-cond q (p x) _ _
    ∙ ap (λ m. cond (p x) (eqb q x || m) m) (any-filter q p xs)
    ∙ kept (p x) (eqb q x) (any q xs) (p q) (λ e. ap p (sym (eqb-true q x e)))

-- ---- membership in chains
-- the keys of a list of codes with no values are the codes
pub keys-units : (xs : List ℕ) → map (λ e. e.0) (map {B = ℕ × Unit {0}} (λ s. (s, tt)) xs) ≡ xs
keys-units [] = refl
keys-units (x ∷ xs) = ap (λ ys. x ∷ ys) (keys-units xs)

-- a chain holds the elements of the list of its codes
pub holds-codes : (z : Chain) (q : ℕ) → holds z q ≡ any q (codes z)
unfolding holds codes
holds-codes z q = fin.contains_key-keys z q ∙ any-is q _

-- the chain of a list holds the elements of the list
pub holds-of_codes : (xs : List ℕ) (q : ℕ) → holds (of_codes xs) q ≡ any q xs
unfolding holds of_codes
holds-of_codes xs q = ap is_some (fin.get-from_entries nat_cmp_total (map (λ s. (s, tt)) xs) q)
    ∙ is_some-find nat_cmp q (map (λ s. (s, tt)) xs) ∙ ap (list_any (eq_by_cmp nat_cmp q)) (keys-units xs) ∙ any-is q xs

same_mark : (x y : Option (Unit {0})) → is_some x ≡ is_some y → x ≡ y
same_mark None None e = refl
same_mark None (Some v) e = absurd (false≢true e)
same_mark (Some u) None e = absurd (true≢false e)
same_mark (Some u) (Some v) e = refl

-- chains that hold the same codes are equal
pub same_chain : (z w : Chain) → ((q : ℕ) → holds z q ≡ holds w q) → z ≡ w
unfolding holds
same_chain z w h = fin.same_map nat_cmp_total fin.nat_cmp-IsAntisymmetric z w (λ q. same_mark _ _ (h q))

-- the empty chain holds nothing
pub holds-nothing : (q : ℕ) → holds nothing q ≡ false
holds-nothing q = holds-of_codes [] q

-- a single chain holds its code alone
pub holds-single : (s q : ℕ) → holds (single s) q ≡ eqb q s
holds-single s q = holds-of_codes (s ∷ []) q ∙ or-false _

-- a sum holds what exactly one of the two holds
pub holds-add : (z w : Chain) (q : ℕ) → holds (z ⊕ w) q ≡ (holds z q ⊻ holds w q)
unfolding ◌⊕◌
holds-add z w q =
    holds-of_codes _ q ∙ any-append q _ _
    ∙ ap₂ ◌||◌ (any-filter q _ (codes z) ∙ ap (λ b. b && not (holds w q)) (sym (holds-codes z q)))
    (any-filter q _ (codes w) ∙ ap (λ b. b && not (holds z q)) (sym (holds-codes w q)))
    ∙ xor_or _ _

-- a part by a test holds the codes that pass it
pub holds-where_code : (p : ℕ → Bool) (z : Chain) (q : ℕ) → holds (where_code p z) q ≡ (holds z q && p q)
unfolding where_code
holds-where_code p z q = holds-of_codes _ q ∙ any-filter q p (codes z) ∙ ap (λ b. b && p q) (sym (holds-codes z q))

-- ---- the codes of a chain are distinct
first : (a b : Bool) → T (a && b) → T a
first true b p = tt
first false b p = p

second : (a b : Bool) → T (a && b) → T b
second true b p = p
second false b p = absurd p

below_itself : (y : ℕ) → T (is_lt (nat_cmp y y)) → ⊥
below_itself y l = grind arith

pub lt-ne : (x y : ℕ) → T (is_lt (nat_cmp x y)) → eqb x y ≡ false
lt-ne x y l = ne_eqb x y (λ e. below_itself y (subst (λ a. T (is_lt (nat_cmp a y))) e l))

below-absent : (x : ℕ) (es : List (ℕ × Unit {0})) → T (below_all nat_cmp x es) → any x (map (λ e. e.0) es) ≡ false
below-absent x [] h = refl
below-absent x (e ∷ es) h = ap₂ ◌||◌ (lt-ne x e.0 (first _ _ h)) (below-absent x es (second _ _ h))

-- no element of the list comes twice
abbrev pub IsApart : List ℕ → Type 0
IsApart [] = Unit {0}
IsApart (x ∷ xs) = (any x xs ≡ false) × IsApart xs

IsApart-keys : (es : List (ℕ × Unit {0})) → T (is_sorted nat_cmp es) → IsApart (map (λ e. e.0) es)
IsApart-keys [] h = tt
IsApart-keys (e ∷ es) h = (below-absent e.0 es (first _ _ h), IsApart-keys es (second _ _ h))

-- the codes of a chain are distinct
pub IsApart-codes : (z : Chain) → IsApart (codes z)
unfolding codes
IsApart-codes z = IsApart-keys (fin.entries z) (fin.entries_sorted z)

or-apart : (e m p : Bool) → (e ≡ true → m ≡ false) → ((e || m) && p) ≡ ((e && p) ⊻ (m && p))
or-apart true m p h = sym (ap (λ b. p ⊻ (b && p)) (h refl) ∙ xor-false p)
or-apart false m p h = refl

any-moved : (k x : ℕ) (xs : List ℕ) → any x xs ≡ false → eqb k x ≡ true → any k xs ≡ false
any-moved k x xs h e = ap (λ j. any j xs) (eqb-true k x e) ∙ h

pub or-right : (a : Bool) {b : Bool} → b ≡ true → (a || b) ≡ true
or-right true e = refl
or-right false e = e

parity-parity_below : (p : ℕ → Bool) (xs : List ℕ) (n : ℕ) → IsApart xs → ((s : ℕ) → any s xs ≡ true → s < n)
    → parity p xs ≡ parity_below n (λ k. any k xs && p k)
parity-parity_below p [] n d l = sym (parity-false (below n))
parity-parity_below p (x ∷ xs) n d l =
    ap₂ ◌⊻◌ (sym (parity_below-one n x p (l x (ap (λ b. b || any x xs) (eq-eqb x x refl)))))
    (parity-parity_below p xs n d.1 (λ s a. l s (or-right (eqb s x) a)))
    ∙ sym (parity-xor _ _ (below n))
    ∙ parity_below-same n _ _ (λ k _. sym (or-apart (eqb k x) (any k xs) (p k) (any-moved k x xs d.0)))

-- tests that agree on a list have one parity there
pub parity-same : (p r : ℕ → Bool) (xs : List ℕ) → ((s : ℕ) → any s xs ≡ true → p s ≡ r s) → parity p xs ≡ parity r xs
parity-same p r [] e = refl
parity-same p r (x ∷ xs) e =
    ap₂ ◌⊻◌ (e x (ap (λ b. b || any x xs) (eq-eqb x x refl))) (parity-same p r xs (λ s a. e s (or-right (eqb s x) a)))

-- ---- a number above each code of a list
pub above : List ℕ → ℕ
above [] = 0
above (x ∷ xs) = suc x + above xs

above-by : (s x n : ℕ) (b m : Bool) → eqb s x ≡ b → (m ≡ true → s < n) → (b || m) ≡ true → s < suc x + n
above-by s x n true m e l a = let h = eqb-true s x e in omega arith
above-by s x n false m e l a = let h = l a in omega arith

pub above-lt : (xs : List ℕ) (s : ℕ) → any s xs ≡ true → s < above xs
unfolding above
above-lt [] s a = absurd (false≢true a)
above-lt (x ∷ xs) s a = above-by s x (above xs) (eqb s x) (any s xs) refl (above-lt xs s) a

-- the parity of a test over the codes of a chain
pub weight : (ℕ → Bool) → Chain → Bool
weight p z = parity p (codes z)

weight-parity_below : (p : ℕ → Bool) (z : Chain) (n : ℕ) → ((s : ℕ) → holds z s ≡ true → s < n)
    → weight p z ≡ parity_below n (λ k. holds z k && p k)
unfolding weight
weight-parity_below p z n l =
    parity-parity_below p (codes z) n (IsApart-codes z) (λ s a. l s (holds-codes z s ∙ a))
    ∙ parity_below-same n _ _ (λ k _. ap (λ b. b && p k) (sym (holds-codes z k)))

pub bound : (z : Chain) (s : ℕ) → holds z s ≡ true → s < above (codes z)
bound z s h = above-lt (codes z) s (sym (holds-codes z s) ∙ h)

-- of two tests whose exclusive or holds one holds
pub xor-true : (a b : Bool) → (a ⊻ b) ≡ true → (a ≡ true) ⊎ (b ≡ true)
xor-true true b e = inl refl
xor-true false b e = inr e

-- the weight of a sum is the exclusive or of the weights
pub weight-add : (p : ℕ → Bool) (z w : Chain) → weight p (z ⊕ w) ≡ (weight p z ⊻ weight p w)
weight-add p z w =
    let n = above (codes z) + above (codes w) in
    let in_z : (s : ℕ) → holds z s ≡ true → s < n = λ s h. let k = bound z s h in omega arith in
    let in_w : (s : ℕ) → holds w s ≡ true → s < n = λ s h. let k = bound w s h in omega arith in
    weight-parity_below p (z ⊕ w) n
    (λ s h. elim (xor-true (holds z s) (holds w s) (sym (holds-add z w s) ∙ h)) [
      | inl a ↦ in_z s a
      | inr a ↦ in_w s a
    ])
    ∙ parity_below-same n _ _ (λ k _. ap (λ b. b && p k) (holds-add z w k) ∙ xor-and (holds z k) (holds w k) (p k))
    ∙ parity-xor _ _ (below n)
    ∙ sym (ap₂ ◌⊻◌ (weight-parity_below p z n in_z) (weight-parity_below p w n in_w))

-- the weight of a single code is the test at it
pub weight-single : (p : ℕ → Bool) (s : ℕ) → weight p (single s) ≡ p s
weight-single p s =
    weight-parity_below p (single s) (suc s) (λ t h. let e = eqb-true t s (sym (holds-single s t) ∙ h) in omega arith)
    ∙ parity_below-same (suc s) _ _ (λ k _. ap (λ b. b && p k) (holds-single s k))
    ∙ parity_below-one (suc s) s p (omega arith)

-- the empty chain has no weight
pub weight-nothing : (p : ℕ → Bool) → weight p nothing ≡ false
weight-nothing p = weight-parity_below p nothing 0 (λ s h. absurd (false≢true (sym (holds-nothing s) ∙ h)))
    ∙ parity_below-same 0 _ (λ k. false) (λ k l. ap (λ b. b && p k) (holds-nothing k)) ∙ parity-false (below 0)

-- the weight of an exclusive or is the exclusive or of the weights
pub weight-xor : (p r : ℕ → Bool) (z : Chain) → weight (λ s. p s ⊻ r s) z ≡ (weight p z ⊻ weight r z)
unfolding weight
weight-xor p r z = parity-xor p r (codes z)

-- tests that agree on a chain have one weight there
pub weight-same : (p r : ℕ → Bool) (z : Chain) → ((s : ℕ) → holds z s ≡ true → p s ≡ r s) → weight p z ≡ weight r z
unfolding weight
weight-same p r z e = parity-same p r (codes z) (λ s a. e s (holds-codes z s ∙ a))

swapped : (a : Bool) (q k : ℕ) → (a && eqb q k) ≡ (eqb k q && a)
swapped a q k = grind arith

-- the weight of being q is whether the chain holds q
pub weight-at : (z : Chain) (q : ℕ) → weight (λ s. eqb q s) z ≡ holds z q
weight-at z q =
    let n = above (codes z) + suc q in
    weight-parity_below _ z n (λ s h. let k = bound z s h in omega arith)
    ∙ parity_below-same n _ _ (λ k _. swapped (holds z k) q k)
    ∙ parity_below-one n q (holds z) (omega arith)

-- the parity over the codes of a chain is whether the number of those that pass is odd
pub weight-odd : (p : ℕ → Bool) (z : Chain) → weight p z ≡ is_odd (length (filter p (codes z)))
unfolding weight
weight-odd p z = sym (is_odd-filter p (codes z))

-- the pairing is the weight of being in the cochain
pub pairs_oddly-weight : (z f : Chain) → pairs_oddly z f ≡ weight (holds f) z
unfolding pairs_oddly weight
pairs_oddly-weight z f = is_odd-filter (holds f) (codes z)

-- the weight is the parity over the codes
pub weight-list : (p : ℕ → Bool) (z : Chain) → weight p z ≡ parity p (codes z)
unfolding weight
weight-list p z = refl

-- a test of odd weight holds at some code
parity-some : (p : ℕ → Bool) (xs : List ℕ) → parity p xs ≡ true → (s : ℕ) × (any s xs ≡ true) × (p s ≡ true)
parity-some p [] h = absurd (false≢true h)
parity-some p (x ∷ xs) h = at_test (p x) refl h (parity-some p xs)
  where
    at_test : (b : Bool) → p x ≡ b → (b ⊻ parity p xs) ≡ true
        → (parity p xs ≡ true → (s : ℕ) × (any s xs ≡ true) × (p s ≡ true))
        → (s : ℕ) × (any s (x ∷ xs) ≡ true) × (p s ≡ true)
    at_test true e h rest = (x, ap (λ b. b || any x xs) (eq-eqb x x refl), e)
    at_test false e h rest = let r = rest h in (r.0, or-right (eqb r.0 x) r.1, r.2)

-- an odd weight comes from some code
pub weight-some : (p : ℕ → Bool) (z : Chain) → weight p z ≡ true → (s : ℕ) × (holds z s ≡ true) × (p s ≡ true)
unfolding weight
weight-some p z h = let r = parity-some p (codes z) h in (r.0, holds-codes z r.0 ∙ r.1, r.2)

-- a test that and-false holds has no weight
pub weight-none : (z : Chain) → weight (λ s. false) z ≡ false
unfolding weight
weight-none z = none (codes z)
  where
    none : (xs : List ℕ) → parity (λ s. false) xs ≡ false
    none [] = refl
    none (x ∷ xs) = none xs

pub and-true : (a b : Bool) → (a && b) ≡ true → a ≡ true
and-true true b h = refl
and-true false b h = h

-- the weight of a part is that of both tests
pub weight-where : (p r : ℕ → Bool) (z : Chain) → weight r (where_code p z) ≡ weight (λ s. p s && r s) z
weight-where p r z =
    let n = above (codes z) in
    weight-parity_below r (where_code p z) n
    (λ s h. bound z s (and-true (holds z s) (p s) (sym (holds-where_code p z s) ∙ h)))
    ∙ parity_below-same n _ _ (λ k _. ap (λ b. b && r k) (holds-where_code p z k) ∙ and_assoc (holds z k) (p k) (r k))
    ∙ sym (weight-parity_below (λ s. p s && r s) z n (λ s h. bound z s h))

-- ---- the pairing
-- the pairing is symmetric
pub pairs_oddly-comm : (z f : Chain) → pairs_oddly z f ≡ pairs_oddly f z
pairs_oddly-comm z f =
    let n = above (codes z) + above (codes f) in
    let in_z : (s : ℕ) → holds z s ≡ true → s < n = λ s h. let k = bound z s h in omega arith in
    let in_f : (s : ℕ) → holds f s ≡ true → s < n = λ s h. let k = bound f s h in omega arith in
    pairs_oddly-weight z f ∙ weight-parity_below (holds f) z n in_z
    ∙ parity_below-same n _ _ (λ k _. and_comm (holds z k) (holds f k))
    ∙ sym (pairs_oddly-weight f z ∙ weight-parity_below (holds z) f n in_f)

-- the weight of the set of a list of distinct codes
pub weight-of_codes : (p : ℕ → Bool) (xs : List ℕ) → IsApart xs → weight p (of_codes xs) ≡ parity p xs
weight-of_codes p xs lt-ne =
    let n = above (codes (of_codes xs)) in
    let in_xs : (s : ℕ) → holds (of_codes xs) s ≡ true → s < n = bound (of_codes xs) in
    weight-parity_below p (of_codes xs) n in_xs
    ∙ parity_below-same n _ _ (λ k _. ap (λ b. b && p k) (holds-of_codes xs k))
    ∙ sym (parity-parity_below p xs n lt-ne (λ s a. in_xs s (holds-of_codes xs s ∙ a)))

-- with the set of a list of distinct codes a chain pairs as the parity of those of the list that it holds
pub pairs_oddly-list : (z : Chain) (xs : List ℕ) → IsApart xs → pairs_oddly z (of_codes xs) ≡ parity (holds z) xs
pairs_oddly-list z xs lt-ne =
    pairs_oddly-comm z (of_codes xs) ∙ pairs_oddly-weight (of_codes xs) z ∙ weight-of_codes (holds z) xs lt-ne

-- one more element at the end
pub parity-push : (p : ℕ → Bool) (xs : List ℕ) (x : ℕ) → parity p (xs ++ x ∷ []) ≡ (parity p xs ⊻ p x)
parity-push p [] x = xor-false (p x)
parity-push p (y ∷ xs) x = ap (λ b. p y ⊻ b) (parity-push p xs x) ∙ sym (xor_assoc (p y) (parity p xs) (p x))

-- a code that a chain holds has what each of its codes has
pub each_code : (P : ℕ → Type 0) (z : Chain) → All P (codes z) → (s : ℕ) → holds z s ≡ true → P s
each_code P z all s held =
    let (k, within, is) = Contains-from_any (λ a b. eqb-true a b) s (codes z) (sym (holds-codes z s) ∙ held) in
    subst P is (all k s within)
