-- Lists in order, numbers in a row, and the order of two states that first differ at a place.
use Rattle.std.proofs.Common.{◌≡◌, ◌≢◌, ◌⊎◌, ℕ, zero, suc, ◌+◌, ◌-◌, ◌<◌, ◌≤◌, true, List, [], ◌∷◌, length, get_or, slice_index, reverse, Contains, AllPairs, refl, ap, ap₂, ◌∙◌, sym, arith, inl, inr, true≢false}
use Rattle.std.proofs.lemmas.Bool.{cases_lt, cases_order}
use Rattle.std.proofs.lemmas.List.{get_or_default, get_or-reverse, length-reverse}
use Rattle.std.proofs.lemmas.List.Elements.{Contains-get_or}
use Rattle.state_rank.specs.Bijection.{ascending, numbers}
use Rattle.state_rank.specs.States.{is_before}
use Rattle.state_rank.proofs.Pigeonhole.{no_more}
use Rattle.state_rank.proofs.MemberLemmas.{member_cases, member_head, member_tail, no_member, pairs_head, pairs_tail}
use Rattle.state_rank.proofs.OrderLemmas.{is_before-same, is_before-back, is_before-lower, is_before-equal, length-tabulate, get_or-tabulate}

-- ---- lists

-- each list is before the later ones
abbrev pub Rises : List (List ℕ) → Type 0
Rises xs = AllPairs (λ x y. is_before x y ≡ true) xs

-- two lists that rise and have the same members are one
pub same_rising : (xs ys : List (List ℕ)) → Rises xs → Rises ys → ((x : List ℕ) → Contains xs x → Contains ys x)
    → ((x : List ℕ) → Contains ys x → Contains xs x) → xs ≡ ys
same_rising [] [] h k to from = refl
same_rising [] (y ∷ ys) h k to from = absurd (no_member y (from y (member_head y ys)))
same_rising (x ∷ xs) [] h k to from = absurd (no_member x (to x (member_head x xs)))
same_rising (x ∷ xs) (y ∷ ys) h k to from =
    ap₂ (λ z zs. z ∷ zs) heads
    (same_rising xs ys (pairs_tail (λ x y. is_before x y ≡ true) x xs h)
    (pairs_tail (λ x y. is_before x y ≡ true) y ys k)
    (λ z m. elim (member_cases y ys z (to z (member_tail x xs z m))) [
      | inl e ↦ absurd (late x xs h z m (heads ∙ e))
      | inr n ↦ n
    ])
    (λ z m. elim (member_cases x xs z
    (from z (member_tail y ys z m))) [ inl e ↦ absurd (late y ys k z m (sym heads ∙ e)) | inr n ↦ n ]))
  where
    -- a later element is not the first
    late : (x : List ℕ) (xs : List (List ℕ)) → Rises (x ∷ xs) → (z : List ℕ) → Contains xs z → x ≡ z → ⊥
    late x xs h z m e =
        true≢false (sym (pairs_head (λ x y. is_before x y ≡ true) x xs h z m) ∙ ap (λ w. is_before w z) e
        ∙ is_before-same z)

    heads : x ≡ y
    heads = elim (member_cases y ys x (to x (member_head x xs))) [
      | inl e ↦ sym e
      | inr m ↦ elim (member_cases x xs y (from y (member_head y ys))) [
        | inl e ↦ e
        | inr n ↦
            absurd (true≢false (sym (pairs_head (λ x y. is_before x y ≡ true) y ys k x m)
            ∙ is_before-back x y (pairs_head (λ x y. is_before x y ≡ true) x xs h y n)))
      ]
    ]

-- in a list whose elements are in a relation, they are members too
pub pairs_members : {A : Type 0} (R : A → A → Type 0) (xs : List A) → AllPairs R xs
    → AllPairs (λ a b. R a b × (Contains xs a × Contains xs b)) xs
pairs_members R xs h i j d l m = (h i j d l m, (Contains-get_or xs i d (omega arith), Contains-get_or xs j d m))

-- a list with no element twice is no longer than a list that has its members
module _ {A : Type 0} where
  place : (x : A) (xs ys : List A) → ((a : A) → Contains xs a → Contains ys a) → (i : ℕ)
      → (i < length xs) ⊎ (length xs ≤ i) → ℕ
  place x xs ys h i (inl l) = (h (get_or xs i x) (Contains-get_or xs i x l)).0
  place x xs ys h i (inr l) = 0

  place_is : (x : A) (xs ys : List A) (h : (a : A) → Contains xs a → Contains ys a) (i : ℕ)
      (s : (i < length xs) ⊎ (length xs ≤ i)) → i < length xs
      → (place x xs ys h i s < length ys) × (get_or ys (place x xs ys h i s) x ≡ get_or xs i x)
  unfolding place
  place_is x xs ys h i (inl l) k = let c = h (get_or xs i x) (Contains-get_or xs i x l) in
      (c.1, get_or_default ys c.0 x (get_or xs i x) c.1 ∙ c.2)
  place_is x xs ys h i (inr l) k = absurd (omega arith)

  different : (xs : List A) → AllPairs (λ a b. a ≢ b) xs → (d : A) (i j : ℕ) → i < length xs → j < length xs → i ≢ j
      → get_or xs i d ≢ get_or xs j d
  different xs once d i j li lj p e = elim (cases_order i j) [
    | inl q ↦ p q
    | inr o ↦ elim o [ inl l ↦ once i j d l lj e | inr l ↦ once j i d l li (sym e) ]
  ]

  -- the first list is no longer
  pub no_longer : (xs ys : List A) → AllPairs (λ a b. a ≢ b) xs → ((a : A) → Contains xs a → Contains ys a)
      → length xs ≤ length ys
  no_longer [] ys once h = omega arith
  no_longer (x ∷ xs) ys once h =
      let zs : List A = x ∷ xs in
      no_more (length zs) (length ys) (λ i. place x zs ys h i (cases_lt i (length zs)))
      (λ c l. (place_is x zs ys h c (cases_lt c (length zs)) l).0)
      (λ b c lb lc p e. different zs once x b c lb lc p
      (sym (place_is x zs ys h b (cases_lt b (length zs)) lb).1 ∙ ap (λ k. get_or ys k x) e
      ∙ (place_is x zs ys h c (cases_lt c (length zs)) lc).1))

-- ---- numbers

-- how many numbers there are between two
pub length-numbers : (from to : ℕ) → length (numbers from to) ≡ to - from
length-numbers from to = length-tabulate (to - from) (λ i. from + i)

-- the number at a place
pub get_or-numbers : (from to i d : ℕ) → i < to - from → get_or (numbers from to) i d ≡ from + i
get_or-numbers from to i d l = get_or-tabulate (to - from) (λ i. from + i) i d l

pub Contains-numbers : (from to r : ℕ) → from ≤ r → r < to → Contains (numbers from to) r
Contains-numbers from to r l m =
    let e = length-numbers from to in
    (r - from, omega arith, get_or-numbers from to (r - from) r (omega arith) ∙ omega arith)

pub member_of_numbers : (from to r : ℕ) → Contains (numbers from to) r → (from ≤ r) × (r < to)
member_of_numbers from to r h =
    let e = length-numbers from to in
    let l = h.1 in
    let at : get_or (numbers from to) h.0 r ≡ from + h.0 = get_or-numbers from to h.0 r (omega arith) in
    let is = h.2 in (omega arith, omega arith)

pub numbers_rise : (from to : ℕ) → AllPairs (λ r s. r < s) (numbers from to)
numbers_rise from to i j d l m =
    let e = length-numbers from to in
    let at_i : get_or (numbers from to) i d ≡ from + i = get_or-numbers from to i d (omega arith) in
    let at_j : get_or (numbers from to) j d ≡ from + j = get_or-numbers from to j d (omega arith) in omega arith

-- the numbers below n, downwards
pub descending_falls : (n : ℕ) → AllPairs (λ r s. s < r) (reverse (ascending n))
descending_falls n i j d l m =
    let e = length-tabulate n (λ (c : ℕ). c) in
    let r = length-reverse (ascending n) in
    let at_i : get_or (reverse (ascending n)) i d ≡ length (ascending n) - 1 - i =
    get_or-reverse (ascending n) i d (omega arith)
    ∙ get_or-tabulate n (λ c. c) (length (ascending n) - 1 - i) d (omega arith) in
    let at_j : get_or (reverse (ascending n)) j d ≡ length (ascending n) - 1 - j =
    get_or-reverse (ascending n) j d (omega arith)
    ∙ get_or-tabulate n (λ c. c) (length (ascending n) - 1 - j) d (omega arith) in
    omega arith

-- ---- the order of two states that first differ at p
pub is_before-at : (x y : List ℕ) (p : ℕ) → p < length x → p < length y
    → ((i : ℕ) → i < p → slice_index x i ≡ slice_index y i) → slice_index x p < slice_index y p → is_before x y ≡ true
is_before-at [] y p lx ly same l = absurd (omega arith)
is_before-at (r ∷ x) [] p lx ly same l = absurd (omega arith)
is_before-at (r ∷ x) (s ∷ y) zero lx ly same l = is_before-lower r s x y l
is_before-at (r ∷ x) (s ∷ y) (suc p) lx ly same l =
    ap (λ t. is_before (t ∷ x) (s ∷ y)) (same 0 (omega arith)) ∙ is_before-equal s x y
    ∙ is_before-at x y p (omega arith) (omega arith) (λ i k. same (suc i) (omega arith)) l
