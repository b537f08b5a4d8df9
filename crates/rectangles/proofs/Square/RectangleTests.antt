-- The tests of the definitions are those with which the square law computes: ranges as comparisons,
-- without a remainder, and states as functions.
use Rattle.std.proofs.Common.{◌≡◌, ◌≢◌, ◌⊎◌, ℕ, ◌<◌, not, ◌&&◌, ◌||◌, List, length, slice_index, swap, refl, ap, ap₂, ◌∙◌, sym, eqb, ltb, arith, inl, inr, cond}
use mathlib.Core.Path.{fun_ext}
use Rattle.std.proofs.lemmas.Bool.{cases_lt, cases_eq, eq-eqb, ne_eqb}
use Rattle.std.proofs.lemmas.List.Edits.{swapped_from_swap}
use Rattle.state_rank.specs.Bijection.{IsBijection}
use Rattle.torus_geom.specs.Counts.{all_below}
use Rattle.torus_geom.specs.Marks.{Marks, size, IsGrid}
use Rattle.torus_geom.specs.Range.{in_range, is_inside}
use Rattle.torus_geom.specs.Rectangle.{is_empty, is_unmarked}
use Rattle.torus_geom.proofs.Circles.RangeLemmas.{offset-above, offset-below}
use Rattle.rectangles.proofs.Square.CyclicOrder.{between}
use Rattle.rectangles.proofs.Square.Exchanges.{with_exchanged, with_exchanged-other}
use Rattle.rectangles.proofs.Square.EmptyRectangles.{is_clear_of}
use Rattle.rectangles.proofs.Square.OpenRectangles.{unmarked, marks}
use Rattle.torus_geom.proofs.Sums.AllBelowLemmas.{all_below-same}
use Rattle.torus_geom.proofs.Circles.RectangleLemmas.{corners}
use Rattle.torus_geom.proofs.Circles.BetweenLemmas.{is_between}

-- ---- ranges
-- a range is what is met between its ends on the way up
pub in_range-between : (n a b i : ℕ) → a < n → b < n → i < n → in_range n a b i ≡ between a b i
in_range-between n a b i la lb li = elim (cases_lt i a) [
  | inl p ↦ elim (cases_lt b a) [
    | inl q ↦ ap₂ ltb (offset-below n a i p la) (offset-below n a b q la) ∙ grind arith
    | inr q ↦ ap₂ ltb (offset-below n a i p la) (offset-above n a b q lb) ∙ grind arith
  ]
  | inr p ↦ elim (cases_lt b a) [
    | inl q ↦ ap₂ ltb (offset-above n a i p li) (offset-below n a b q la) ∙ grind arith
    | inr q ↦ ap₂ ltb (offset-above n a i p li) (offset-above n a b q lb) ∙ grind arith
  ]
]

-- and its inside the same without the start
pub is_inside-between : (n a b i : ℕ) → a < n → b < n → i < n → is_inside n a b i ≡ is_between a b i
is_inside-between n a b i la lb li = ap (λ t. t && not (eqb i a)) (in_range-between n a b i la lb li)

-- ---- rectangles

-- a rectangle of a state is empty by the one test if it is by the other
pub is_empty-corners : (n : ℕ) (x : List ℕ) → IsBijection n x → (a b j k : ℕ) → a < n → b < n → j < n → k < n
    → is_empty x (corners a b j k) ≡ is_clear_of n (slice_index x) a b j k
is_empty-corners n x s a b j k la lb lj lk =
    ap (λ m. all_below m (λ c. not (is_inside m a b c && is_inside m j k (slice_index x c)))) s.long
    ∙ all_below-same n (λ c. not (is_inside n a b c && is_inside n j k (slice_index x c)))
    (λ c. not (is_between a b c && is_between j k (slice_index x c))) (λ c l.
    λ i. not (is_inside-between n a b c la lb l i && is_inside-between n j k (slice_index x c) lj lk (s.small c l) i))

-- and unmarked
pub is_unmarked-corners : (g : Marks) → IsGrid g → (a b j k : ℕ) → a < size g → b < size g → j < size g → k < size g
    → is_unmarked g (corners a b j k) ≡ unmarked (size g) (slice_index g.o) (slice_index g.x) a b j k
is_unmarked-corners g s a b j k la lb lj lk =
    let n = size g in
    all_below-same n (λ c. not (in_range n a b c && (in_range n j k (slice_index g.o c)
    || in_range n j k (slice_index g.x c))))
    (λ c. not (between a b c && marks (slice_index g.o) (slice_index g.x) (between j k) c)) (λ c l.
    λ i. not (in_range-between n a b c la lb l i
    && (in_range-between n j k (slice_index g.o c) lj lk (s.o.small c l) i
    || in_range-between n j k (slice_index g.x c) lj lk (s.x.small c l) i)))

-- ---- the exchange of two rows
-- a list with two elements exchanged, as a function
pub swap-with_exchanged : (x : List ℕ) (a b : ℕ) → a < length x → b < length x
    → slice_index (swap x a b) ≡ with_exchanged (slice_index x) a b
swap-with_exchanged x a b la lb = fun_ext (λ c. each c (cases_eq c a) (cases_eq c b))
  where
    each : (c : ℕ) → (c ≡ a) ⊎ (c ≢ a) → (c ≡ b) ⊎ (c ≢ b)
        → slice_index (swap x a b) c ≡ with_exchanged (slice_index x) a b c
    each c (inl i) q =
        ap (slice_index (swap x a b)) i ∙ (swapped_from_swap x (swap x a b) a b 0 la lb refl).0
        ∙ sym (ap (λ z. cond z (slice_index x b) (cond (eqb c b) (slice_index x a) (slice_index x c))) (eq-eqb c a i))
    each c (inr p) (inl j) =
        ap (slice_index (swap x a b)) j ∙ (swapped_from_swap x (swap x a b) a b 0 la lb refl).1
        ∙ sym (λ v. cond (ne_eqb c a p v) (slice_index x b) (cond (eq-eqb c b j v) (slice_index x a) (slice_index x c)))
    each c (inr p) (inr q) =
        (swapped_from_swap x (swap x a b) a b 0 la lb refl).2 c p q
        ∙ sym (with_exchanged-other (slice_index x) a b c p q)
