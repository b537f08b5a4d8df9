-- Rows in order, by neighbours; lists of degrees compared from a place on.
use Rattle.std.proofs.Common.{◌≡◌, ℕ, zero, suc, ◌+◌, ◌<◌, ◌≤◌, ℤ, pos, ◌+ℤ◌, Bool, true, false, ◌&&◌, ◌||◌, List, [], ◌∷◌, length, get_or, take, drop, set, IsTrue, AllPairs, refl, ap, sym, ◌∙◌, inl, inr, arith, add-one}
use Rattle.std.specs.Prelude.{◌-ℤ◌, ◌≤ℤ◌, neg_ℤ, int_lt}
use Rattle.std.specs.Ordering.{int_eq}
use Rattle.std.proofs.lemmas.Int.{ints}
use Rattle.std.proofs.lemmas.Bool.{cases_eq}
use Rattle.std.proofs.lemmas.List.{get_or-take, length-take-le}
use Rattle.std.proofs.Math.Seq.{drop-cons, take-set-lt}
use mir.Syntax.{w32}
use mir.Val.{SFits, to_z, of_z}
use Rattle.hat_division.specs.DegreeLists.{is_higher, stands_before_by_component, raised_at, lowered_at}
use Rattle.hat_division.specs.MultiTable.{degrees_of}
use Rattle.hat_division.specs.declared.multi_tables.MultiRow.{MultiRow}
use Rattle.hat_division.proofs.Multi.DegreeListLemmas.{multidegree_before-transitive}

-- each row below i stands before the one after it
abbrev pub AreOrderedBelow : List MultiRow → ℕ → Type 0
AreOrderedBelow rows i =
    (k : ℕ) (d : MultiRow) → suc k < i
    → stands_before_by_component (degrees_of (get_or rows k d)) (degrees_of (get_or rows (suc k) d)) ≡ true

-- rows in order by neighbours are in order
pub ordered_by_neighbours : (rows : List MultiRow) → AreOrderedBelow rows (length rows)
    → AllPairs (λ p q. IsTrue (stands_before_by_component (degrees_of p) (degrees_of q))) rows
ordered_by_neighbours rows h i zero d l m = absurd (omega arith)
ordered_by_neighbours rows h i (suc j) d l m = elim (cases_eq i j) [
  | inl e ↦
      ap (λ k. stands_before_by_component (degrees_of (get_or rows k d)) (degrees_of (get_or rows (suc j) d))) e
      ∙ h j d m
  | inr p ↦
      multidegree_before-transitive (degrees_of (get_or rows i d)) (degrees_of (get_or rows j d))
      (degrees_of (get_or rows (suc j) d)) (ordered_by_neighbours rows h i j d (omega arith) (omega arith)) (h j d m)
]

-- ---- from a place on
-- the number there, and the others
from_place : (xs : List ℤ) (i : ℕ) (d : ℤ) → i < length xs → drop i xs ≡ get_or xs i d ∷ drop (i + 1) xs
from_place xs i d within = drop-cons xs i d within ∙ ap (λ n. get_or xs i d ∷ drop n xs) (sym (add-one i))

pub drop-past : (xs : List ℤ) (i : ℕ) → length xs ≤ i → drop i xs ≡ []
drop-past [] i l = nothing i
  where
    nothing : (i : ℕ) → drop {A = ℤ} i [] ≡ []
    nothing zero = refl
    nothing (suc i) = refl
drop-past (x ∷ xs) zero l = absurd (omega arith)
drop-past (x ∷ xs) (suc i) l = drop-past xs i (omega arith)

module _ (p q : List ℤ) (i : ℕ) (d : ℤ) (lp : i < length p) where
  -- the other list ends here
  pub higher-longer : i ≡ length q → is_higher (drop i p) (drop i q) ≡ true
  higher-longer e = λ j. is_higher (from_place p i d lp j) (drop-past q i (omega arith) j)

  module _ (lq : i < length q) where
    at_place : is_higher (drop i p) (drop i q)
        ≡ (int_lt (get_or q i d) (get_or p i d)
        || (int_eq (get_or q i d) (get_or p i d) && is_higher (drop (i + 1) p) (drop (i + 1) q)))
    at_place = λ j. is_higher (from_place p i d lp j) (from_place q i d lq j)

    by : (a b c : Bool) → a ≡ true → (a || (b && c)) ≡ true
    by a b c h = ap (λ t. t || (b && c)) h

    -- a greater number
    pub higher-greater : int_lt (get_or q i d) (get_or p i d) ≡ true → is_higher (drop i p) (drop i q) ≡ true
    higher-greater h =
        at_place
        ∙ by (int_lt (get_or q i d) (get_or p i d)) (int_eq (get_or q i d) (get_or p i d))
        (is_higher (drop (i + 1) p) (drop (i + 1) q)) h

    neither : (a b c : Bool) → a ≡ false → b ≡ false → (a || (b && c)) ≡ false
    neither a b c h k = (λ j. h j || (k j && c))

    differ : (x y : ℤ) → int_lt x y ≡ true → (int_lt y x ≡ false) × (int_eq y x ≡ false)
    differ x y h = (first x y h, second x y h)
      where
        first : (x y : ℤ) → int_lt x y ≡ true → int_lt y x ≡ false
        first x y h = grind (arith, ints)

        second : (x y : ℤ) → int_lt x y ≡ true → int_eq y x ≡ false
        second x y h = grind (arith, ints)

    -- a smaller one
    pub higher-smaller : int_lt (get_or p i d) (get_or q i d) ≡ true → is_higher (drop i p) (drop i q) ≡ false
    higher-smaller h =
        let (less, same) = differ (get_or p i d) (get_or q i d) h in
        at_place
        ∙ neither (int_lt (get_or q i d) (get_or p i d)) (int_eq (get_or q i d) (get_or p i d))
        (is_higher (drop (i + 1) p) (drop (i + 1) q)) less same

    passed : (a b c : Bool) → a ≡ false → b ≡ true → (a || (b && c)) ≡ c
    passed a b c h k = (λ j. h j || (k j && c))

    alike : (x y : ℤ) → int_lt x y ≡ false → int_lt y x ≡ false → int_eq x y ≡ true
    alike x y h k = grind (arith, ints)

    -- the same
    pub higher-same : int_lt (get_or q i d) (get_or p i d) ≡ false → int_lt (get_or p i d) (get_or q i d) ≡ false
        → is_higher (drop i p) (drop i q) ≡ is_higher (drop (i + 1) p) (drop (i + 1) q)
    higher-same h k =
        at_place
        ∙ passed (int_lt (get_or q i d) (get_or p i d)) (int_eq (get_or q i d) (get_or p i d))
        (is_higher (drop (i + 1) p) (drop (i + 1) q)) h (alike (get_or q i d) (get_or p i d) h k)

-- ---- one number raised or lowered
pub raised_at-set : (i : ℕ) (ds : List ℤ) (d : ℤ) → i < length ds → raised_at i ds ≡ set ds i (get_or ds i d +ℤ pos 2)
raised_at-set i [] d l = absurd (omega arith)
raised_at-set zero (x ∷ ds) d l = refl
raised_at-set (suc i) (x ∷ ds) d l = ap (λ xs. x ∷ xs) (raised_at-set i ds d (omega arith))

pub lowered_at-set : (i : ℕ) (ds : List ℤ) (d : ℤ) → i < length ds → lowered_at i ds ≡ set ds i (get_or ds i d -ℤ pos 2)
lowered_at-set i [] d l = absurd (omega arith)
lowered_at-set zero (x ∷ ds) d l = refl
lowered_at-set (suc i) (x ∷ ds) d l = ap (λ xs. x ∷ xs) (lowered_at-set i ds d (omega arith))

-- ---- a number of a stored list
-- what is stored at a place of the list
pub stored_at : (ds stored : List ℤ) (i k : ℕ) → take k stored ≡ ds → k ≤ length stored → i < length ds
    → get_or stored i (pos 0) ≡ get_or ds i (pos 0)
stored_at ds stored i k view within l =
    let long : length ds ≡ k = ap length (sym view) ∙ length-take-le k stored within in
    sym (get_or-take k stored i (pos 0) (omega arith)) ∙ ap (λ xs. get_or xs i (pos 0)) view

set_stored : (ds stored : List ℤ) (i n k : ℕ) (v : ℤ) → n ≡ length ds → take k stored ≡ ds → k ≤ length stored
    → i < length ds → take n (set stored i v) ≡ set ds i v
set_stored ds stored i n k v counted view within l =
    let long : length ds ≡ k = ap length (sym view) ∙ length-take-le k stored within in
    let same : n ≡ k = counted ∙ long in
    take-set-lt n stored i v (omega arith) ∙ (λ j. set (take (same j) stored) i v) ∙ ap (λ xs. set xs i v) view

pub stored-raised_at : (ds stored : List ℤ) (i n k : ℕ) (v : ℤ) → n ≡ length ds → take k stored ≡ ds → k ≤ length stored
    → i < length ds → v ≡ get_or stored i (pos 0) +ℤ pos 2 → take n (set stored i v) ≡ raised_at i ds
stored-raised_at ds stored i n k v counted view within l is =
    set_stored ds stored i n k v counted view within l
    ∙ ap (set ds i) (is ∙ ap (λ z. z +ℤ pos 2) (stored_at ds stored i k view within l))
    ∙ sym (raised_at-set i ds (pos 0) l)

pub stored-lowered_at : (ds stored : List ℤ) (i n k : ℕ) (v : ℤ) → n ≡ length ds → take k stored ≡ ds
    → k ≤ length stored
    → i < length ds → v ≡ get_or stored i (pos 0) -ℤ pos 2 → take n (set stored i v) ≡ lowered_at i ds
stored-lowered_at ds stored i n k v counted view within l is =
    set_stored ds stored i n k v counted view within l
    ∙ ap (set ds i) (is ∙ ap (λ z. z -ℤ pos 2) (stored_at ds stored i k view within l))
    ∙ sym (lowered_at-set i ds (pos 0) l)

-- two more and two less, as machine words
pub two_up : (z : ℤ) → SFits w32 z → z ≤ℤ pos 1000
    → to_z w32 (of_z w32 (to_z w32 (of_z w32 z) +ℤ pos 2)) ≡ z +ℤ pos 2
two_up z fits high = omega (arith, ints)

pub two_down : (z : ℤ) → SFits w32 z → neg_ℤ (pos 1000) ≤ℤ z
    → to_z w32 (of_z w32 (to_z w32 (of_z w32 z) -ℤ pos 2)) ≡ z -ℤ pos 2
two_down z fits low = omega (arith, ints)
