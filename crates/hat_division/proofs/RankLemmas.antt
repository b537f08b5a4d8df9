-- Ranks by bidegree of lists of rows, and of lists in order; tables with the same ranks are equal.
use Rattle.std.proofs.Common.{◌≡◌, ℕ, zero, suc, ◌+◌, ◌<◌, ◌≤◌, ℤ, true, false, List, [], ◌∷◌, length, get_or, All, refl, ap, sym, ◌∙◌, ◌⊎◌, inl, inr, arith}
use Rattle.std.specs.Ordering.{int_eq}
use Rattle.std.proofs.lemmas.Bool.{cases_Bool, cond-true, cond-false, false≢true, and_parts}
use Rattle.std.proofs.lemmas.Bool.Decides.{Decides-int_eq}
use Rattle.std.proofs.lemmas.Int.{ints}
use Rattle.std.proofs.lemmas.List.Elements.{All-head, All-tail}
use Rattle.std.proofs.lemmas.List.Sums.{sum_by-cons, get_or-le-sum_by}
use Rattle.f2_algebra.specs.Bigraded.{stands_before}
use Rattle.f2_algebra.proofs.Ranks.OrderLemmas.{stands_before-transitive}
use Rattle.hat_division.specs.Table.{bidegree_of, AreOrdered}
use Rattle.hat_division.specs.Product.{stands_at, part_at, rank_at}
use Rattle.hat_division.specs.Inner.Products.{ArePositive}
use Rattle.hat_division.specs.declared.tables.TableRow.{TableRow}

-- ---- the order of rows
-- rows of which one comes before the other stand in different bidegrees
pub apart : (p q : TableRow) (m a : ℤ) → stands_before (bidegree_of p) (bidegree_of q) ≡ true → stands_at p m a ≡ true
    → stands_at q m a ≡ false
apart p q m a h s = grind (arith, ints)

-- of two rows one comes before the other, or they stand in one bidegree
pub ordered_or_together : (p q : TableRow) → (stands_before (bidegree_of p) (bidegree_of q) ≡ true)
    ⊎ ((stands_before (bidegree_of q) (bidegree_of p) ≡ true) ⊎ (stands_at q p.m p.a ≡ true))
ordered_or_together p q = elim (cases_Bool (stands_before (bidegree_of p) (bidegree_of q))) [
  | inl h ↦ inl h
  | inr h ↦ elim (cases_Bool (stands_before (bidegree_of q) (bidegree_of p))) [
    | inl k ↦ inr (inl k)
    | inr k ↦ inr (inr (together p q h k))
  ]
]
  where
    together : (p q : TableRow) → stands_before (bidegree_of p) (bidegree_of q) ≡ false
        → stands_before (bidegree_of q) (bidegree_of p) ≡ false → stands_at q p.m p.a ≡ true
    together p q h k = grind (arith, ints)

-- the degrees of a row
pub degrees_of : (row : TableRow) (m a : ℤ) → stands_at row m a ≡ true → (row.m ≡ m) × (row.a ≡ a)
degrees_of row m a s =
    let parts = and_parts (int_eq row.m m) (int_eq row.a a) s in
    ((Decides-int_eq row.m m).0 parts.0, (Decides-int_eq row.a a).0 parts.1)

pub stands_itself : (row : TableRow) → stands_at row row.m row.a ≡ true
stands_itself row = grind (arith, ints)

pub AreOrdered-tail : (row : TableRow) (rows : List TableRow) → AreOrdered (row ∷ rows) → AreOrdered rows
AreOrdered-tail row rows h i j d l m = h (suc i) (suc j) d (omega arith) (omega arith)

-- ---- ranks
pub rank_at-cons : (row : TableRow) (rows : List TableRow) (m a : ℤ)
    → rank_at (row ∷ rows) m a ≡ part_at row m a + rank_at rows m a
unfolding rank_at
rank_at-cons row rows m a = sum_by-cons (λ r. part_at r m a) row rows

pub rank_at-nil : (m a : ℤ) → rank_at [] m a ≡ 0
unfolding rank_at
rank_at-nil m a = refl

pub part_at-here : (row : TableRow) (m a : ℤ) → stands_at row m a ≡ true → part_at row m a ≡ row.rank
part_at-here row m a s = cond-true (stands_at row m a) row.rank 0 s

pub part_at-elsewhere : (row : TableRow) (m a : ℤ) → stands_at row m a ≡ false → part_at row m a ≡ 0
part_at-elsewhere row m a s = cond-false (stands_at row m a) row.rank 0 s

-- a row has at most the rank in its bidegree
pub rank_at-le : (rows : List TableRow) (i : ℕ) (d : TableRow) (m a : ℤ) → i < length rows
    → stands_at (get_or rows i d) m a ≡ true → (get_or rows i d).rank ≤ rank_at rows m a
unfolding rank_at
rank_at-le rows i d m a l s =
    omega (arith, get_or-le-sum_by (λ r. part_at r m a) rows i d l, part_at-here (get_or rows i d) m a s)

-- if no row is, the rank is 0
pub rank_at-none : (rows : List TableRow) (m a : ℤ) → All (λ row. stands_at row m a ≡ false) rows → rank_at rows m a ≡ 0
rank_at-none [] m a h = rank_at-nil m a
rank_at-none (row ∷ rows) m a h =
    omega (
      arith,
      rank_at-cons row rows m a,
      part_at-elsewhere row m a (All-head (λ r. stands_at r m a ≡ false) row rows h),
      rank_at-none rows m a (All-tail (λ r. stands_at r m a ≡ false) row rows h),
    )

-- if the rank is above 0, there is a row
pub row_found : (rows : List TableRow) (m a : ℤ) → 0 < rank_at rows m a
    → (i : ℕ) × (i < length rows) × ((d : TableRow) → stands_at (get_or rows i d) m a ≡ true)
row_found [] m a h = absurd (omega (arith, rank_at-nil m a))
row_found (row ∷ rows) m a h = elim (cases_Bool (stands_at row m a)) [
  | inl s ↦ (0, omega arith, λ d. s)
  | inr s ↦
      let t = row_found rows m a (omega (arith, rank_at-cons row rows m a, part_at-elsewhere row m a s)) in
      let below = t.1 in
      (suc t.0, omega arith, t.2)
]

-- all rows after the first stand elsewhere
tail_elsewhere : (row : TableRow) (rows : List TableRow) (m a : ℤ) → AreOrdered (row ∷ rows) → stands_at row m a ≡ true
    → rank_at rows m a ≡ 0
tail_elsewhere row rows m a ordered s =
    rank_at-none rows m a (λ k d l. apart row (get_or rows k d) m a (ordered 0 (suc k) d (omega arith) (omega arith)) s)

-- in order, the rank is that of the one row
pub rank_at-row : (rows : List TableRow) (i : ℕ) (d : TableRow) (m a : ℤ) → AreOrdered rows → i < length rows
    → stands_at (get_or rows i d) m a ≡ true → rank_at rows m a ≡ (get_or rows i d).rank
rank_at-row [] i d m a ordered l s = absurd (omega arith)
rank_at-row (row ∷ rows) zero d m a ordered l s =
    omega (arith, rank_at-cons row rows m a, part_at-here row m a s, tail_elsewhere row rows m a ordered s)
rank_at-row (row ∷ rows) (suc i) d m a ordered l s =
    omega (
      arith,
      rank_at-cons row rows m a,
      rank_at-row rows i d m a (AreOrdered-tail row rows ordered) (omega arith) s,
      part_at-elsewhere row m a (other (cases_Bool (stands_at row m a))),
    )
  where
    other : (stands_at row m a ≡ true) ⊎ (stands_at row m a ≡ false) → stands_at row m a ≡ false
    other (inl e) =
        absurd (false≢true (sym (apart row (get_or rows i d) m a (ordered 0 (suc i) d (omega arith) l) e) ∙ s))
    other (inr e) = e

-- ---- tables with the same ranks
-- a row that stands before all others of a list stands in no bidegree of theirs
before_all : (row next : TableRow) (rows : List TableRow) → AreOrdered (next ∷ rows)
    → stands_before (bidegree_of row) (bidegree_of next) ≡ true
    → rank_at (next ∷ rows) row.m row.a ≡ 0
before_all row next rows ordered h = rank_at-none (next ∷ rows) row.m row.a each
  where
    each : All (λ r. stands_at r row.m row.a ≡ false) (next ∷ rows)
    each zero d l = apart row next row.m row.a h (stands_itself row)
    each (suc k) d l =
        apart row (get_or rows k d) row.m row.a
        (stands_before-transitive (bidegree_of row) (bidegree_of next) (bidegree_of (get_or rows k d)) h
        (ordered 0 (suc k) d (omega arith) l))
        (stands_itself row)

-- the rank at the first row
at_first : (row : TableRow) (rows : List TableRow) → AreOrdered (row ∷ rows)
    → rank_at (row ∷ rows) row.m row.a ≡ row.rank
at_first row rows ordered = rank_at-row (row ∷ rows) 0 row row.m row.a ordered (omega arith) (stands_itself row)

ArePositive-tail : (row : TableRow) (rows : List TableRow) → ArePositive (row ∷ rows) → ArePositive rows
ArePositive-tail row rows h =
    record { ordered = AreOrdered-tail row rows h.ordered; positive = All-tail (λ r. 1 ≤ r.rank) row rows h.positive }

first_positive : (row : TableRow) (rows : List TableRow) → ArePositive (row ∷ rows) → 1 ≤ row.rank
first_positive row rows h = All-head (λ r. 1 ≤ r.rank) row rows h.positive

-- the first rows are the same
same_first : (p q : TableRow) (ps qs : List TableRow) → ArePositive (p ∷ ps) → ArePositive (q ∷ qs)
    → ((m a : ℤ) → rank_at (p ∷ ps) m a ≡ rank_at (q ∷ qs) m a) → p ≡ q
same_first p q ps qs hp hq same = elim (ordered_or_together p q) [
  | inl h ↦
      absurd (omega (
        arith,
        same p.m p.a,
        at_first p ps hp.ordered,
        first_positive p ps hp,
        before_all p q qs hq.ordered h,
      ))
  | inr other ↦ elim other [
    | inl h ↦
        absurd (omega (
          arith,
          same q.m q.a,
          at_first q qs hq.ordered,
          first_positive q qs hq,
          before_all q p ps hp.ordered h,
        ))
    | inr s ↦
        let degrees = degrees_of q p.m p.a s in
        let ranks : p.rank ≡ q.rank =
        sym (at_first p ps hp.ordered) ∙ same p.m p.a ∙ rank_at-row (q ∷ qs) 0 q p.m p.a hq.ordered (omega arith) s in
        λ k. record { m = sym degrees.0 k; a = sym degrees.1 k; rank = ranks k }
  ]
]

-- lists in order with the same ranks above 0 are equal
pub same_rows : (ps qs : List TableRow) → ArePositive ps → ArePositive qs
    → ((m a : ℤ) → rank_at ps m a ≡ rank_at qs m a) → ps ≡ qs
same_rows [] [] hp hq same = refl
same_rows [] (q ∷ qs) hp hq same =
    absurd (omega (arith, same q.m q.a, rank_at-nil q.m q.a, at_first q qs hq.ordered, first_positive q qs hq))
same_rows (p ∷ ps) [] hp hq same =
    absurd (omega (arith, same p.m p.a, rank_at-nil p.m p.a, at_first p ps hp.ordered, first_positive p ps hp))
same_rows (p ∷ ps) (q ∷ qs) hp hq same =
    let first = same_first p q ps qs hp hq same in
    let later = same_rows ps qs (ArePositive-tail p ps hp) (ArePositive-tail q qs hq) (λ m a.
    let whole = same m a in
    let parts : part_at p m a ≡ part_at q m a = ap (λ r. part_at r m a) first in
    omega (arith, whole, parts, rank_at-cons p ps m a, rank_at-cons q qs m a)) in
    λ k. first k ∷ later k
