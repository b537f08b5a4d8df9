-- Tests of lists: whether two are one, and whether a list is a state; sums modulo 2 over the states.
use Rattle.std.proofs.Common.{◌≡◌, ℕ, ◌<◌, Bool, true, false, not, ◌&&◌, ◌||◌, List, [], ◌∷◌, length, slice_index, refl, sym, ap, ap₂, subst, ◌∙◌, arith, inl, inr}
use Rattle.std.specs.List.{Contains, AllPairs, flat_map, list_any}
use Rattle.std.proofs.lemmas.Bool.{eqb-true, eq-eqb, and_parts, false_from_ne_true, false≢true}
use Rattle.std.proofs.lemmas.Cmp.{nat_eq_equiv}
use Rattle.std.proofs.lemmas.Map.Views.{Contains-from_any, list_any-from_Contains}
use Rattle.f2_algebra.specs.Chain.{Chain as Codes, holds, codes, of_codes, where_code, is_odd}
use Rattle.f2_algebra.proofs.Chains.ParityLemmas.{parity, Each, parity-same_on, parity-ext, parity-flat_map, parity-map}
use Rattle.f2_algebra.proofs.Chains.Tables.{and-false}
use Rattle.f2_algebra.proofs.Chains.Sets.{any, same_chain, holds-codes, holds-of_codes, holds-where_code, weight, weight-where, weight-of_codes, IsApart}
use Rattle.state_rank.specs.Bijection.{IsBijection, ascending}
use Rattle.state_rank.specs.States.{states, rank, factorial}
use Rattle.state_rank.proofs.BijectionLemmas.{same_list}
use Rattle.state_rank.proofs.MemberLemmas.{member_head, member_tail, member_cases, no_member, pairs_head, pairs_tail}
use Rattle.state_rank.proofs.OrderLemmas.{member_of_states, Contains-states, Contains-ascending, ascending_rises}
use Rattle.state_rank.proofs.RankLemmas.{map-rank-states}
use Rattle.torus_geom.specs.Rectangle.{is_same}
use Rattle.torus_geom.proofs.Sums.AllBelowLemmas.{at_all_below, all_below-true}
use Rattle.torus_geom.specs.Codes.{is_state}

-- ---- tests

-- a list is itself
pub is_same-refl : (x : List ℕ) → is_same x x ≡ true
is_same-refl x =
    ap₂ ◌&&◌ (eq-eqb (length x) (length x) refl)
    (all_below-true (length x) _ (λ c l. eq-eqb (slice_index x c) (slice_index x c) refl))

-- lists that pass as one are one
pub is_same-true : (x y : List ℕ) → is_same x y ≡ true → x ≡ y
is_same-true x y h =
    let parts = and_parts _ _ h in
    same_list (length x) x y refl (sym (eqb-true (length x) (length y) parts.0))
    (λ c l. eqb-true (slice_index x c) (slice_index y c) (at_all_below (length x) _ parts.1 c l))

-- and so are those that are one
pub is_same-is : (x y : List ℕ) → x ≡ y → is_same x y ≡ true
is_same-is x y e = ap (λ z. is_same x z) (sym e) ∙ is_same-refl x

-- ---- members
-- an element that passes
pub any-member : {A : Type 0} (p : A → Bool) (xs : List A) (x : A) → Contains xs x → p x ≡ true → list_any p xs ≡ true
any-member p [] x h e = absurd (no_member x h)
any-member p (y ∷ ys) x h e = elim (member_cases y ys x h) [
  | inl i ↦ ap (λ b. b || list_any p ys) (ap p i ∙ e)
  | inr t ↦ ap (λ b. p y || b) (any-member p ys x t e) ∙ or-true (p y)
]
  where
    or-true : (b : Bool) → (b || true) ≡ true
    or-true true = refl
    or-true false = refl

-- if some element passes, there is one
pub member_of_any : {A : Type 0} (p : A → Bool) (xs : List A) → list_any p xs ≡ true
    → (x : A) × Contains xs x × (p x ≡ true)
member_of_any p [] h = absurd (false≢true h)
member_of_any {A = A} p (y ∷ ys) h = by (p y) refl (member_of_any p ys) h
  where
    by : (b : Bool) → p y ≡ b → (list_any p ys ≡ true → (x : A) × Contains ys x × (p x ≡ true))
        → (b || list_any p ys) ≡ true → (x : A) × Contains (y ∷ ys) x × (p x ≡ true)
    by true e later h = (y, member_head y ys, e)
    by false e later h = let (x, m, i) = later h in (x, member_tail y ys x m, i)

-- the list of a chain's codes has what the chain holds
pub Contains-codes : (z : Codes) (s : ℕ) → holds z s ≡ true → Contains (codes z) s
Contains-codes z s h = Contains-from_any (λ a b. eqb-true a b) s (codes z) (sym (holds-codes z s) ∙ h)

pub holds-member : (z : Codes) (s : ℕ) → Contains (codes z) s → holds z s ≡ true
holds-member z s m = holds-codes z s ∙ list_any-from_Contains nat_eq_equiv s (codes z) m

-- ---- states
-- what passes as a state is one
pub is_state-true : (n : ℕ) (x : List ℕ) → is_state n x ≡ true → IsBijection n x
is_state-true n x h =
    let (y, m, e) = member_of_any (is_same x) (states n) h in
    subst (IsBijection n) (sym (is_same-true x y e)) (member_of_states n y m)

-- and each state passes
pub is_state-is : (n : ℕ) (x : List ℕ) → IsBijection n x → is_state n x ≡ true
is_state-is n x sx = any-member (is_same x) (states n) x (Contains-states n x sx) (is_same-refl x)

-- ---- sums modulo 2
-- what holds of each element
pub Each-member : {A : Type 0} (P : A → Type 0) (xs : List A) → ((x : A) → Contains xs x → P x) → Each P xs
Each-member P [] h = tt
Each-member P (x ∷ xs) h = (h x (member_head x xs), Each-member P xs (λ y m. h y (member_tail x xs y m)))

-- tests that agree on a list
pub parity-members : {A : Type 0} (p q : A → Bool) (xs : List A) → ((x : A) → Contains xs x → p x ≡ q x)
    → parity p xs ≡ parity q xs
parity-members p q xs h = parity-same_on (λ x. p x ≡ q x) p q xs (Each-member (λ x. p x ≡ q x) xs h) (λ x e. e)

-- on the states of a size
pub parity-states : (n : ℕ) (p q : List ℕ → Bool) → ((x : List ℕ) → IsBijection n x → p x ≡ q x)
    → parity p (states n) ≡ parity q (states n)
parity-states n p q h = parity-members p q (states n) (λ x m. h x (member_of_states n x m))

-- the length of a list is odd if it has an odd number of elements
odd-length : {A : Type 0} (xs : List A) → is_odd (length xs) ≡ parity (λ (x : A). true) xs
odd-length [] = refl
odd-length (x ∷ xs) = ap not (odd-length xs)

-- a list made of pieces
pub odd-flat_map : {A B : Type 0} (f : A → List B) (xs : List A)
    → is_odd (length (flat_map f xs)) ≡ parity (λ x. is_odd (length (f x))) xs
odd-flat_map f xs =
    odd-length (flat_map f xs) ∙ parity-flat_map (λ y. true) f xs ∙ parity-ext _ _ xs (λ x. sym (odd-length (f x)))

-- ---- sums over codes as sums over states
apart_rising : (xs : List ℕ) → AllPairs (λ s t. s < t) xs → IsApart xs
apart_rising [] up = tt
apart_rising (x ∷ xs) up = (
  false_from_ne_true _ (λ h.
      let l = pairs_head (λ s t. s < t) x xs up x (Contains-from_any (λ a b. eqb-true a b) x xs h) in
      absurd (omega arith)),
  apart_rising xs (pairs_tail (λ s t. s < t) x xs up),
)

-- the weight of a test over codes of states of size n is the sum of it over the states whose indices the chain holds
pub weight-states : (n : ℕ) (z : Codes) → ((s : ℕ) → holds z s ≡ true → s < factorial n) → (p : ℕ → Bool)
    → weight p z ≡ parity (λ x. holds z (rank x) && p (rank x)) (states n)
weight-states n z below p =
    let all : List ℕ = ascending (factorial n) in
    ap (weight p) (sym (same_chain (where_code (holds z) (of_codes all)) z (λ q.
    holds-where_code (holds z) (of_codes all) q ∙ ap (λ b. b && holds z q) (holds-of_codes all q)
    ∙ within q (holds z q) refl)))
    ∙ weight-where (holds z) p (of_codes all)
    ∙ weight-of_codes (λ s. holds z s && p s) all (apart_rising all (ascending_rises (factorial n)))
    ∙ ap (parity (λ s. holds z s && p s)) (sym (map-rank-states n))
    ∙ parity-map (λ s. holds z s && p s) rank (states n)
  where
    within : (q : ℕ) (b : Bool) → holds z q ≡ b → (any q (ascending (factorial n)) && b) ≡ b
    within q true h =
        ap (λ b. b && true)
        (list_any-from_Contains nat_eq_equiv q (ascending (factorial n))
        (Contains-ascending (factorial n) q (below q h)))
    within q false h = and-false (any q (ascending (factorial n)))
