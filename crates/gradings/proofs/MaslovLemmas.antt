-- The Maslov degree as a sum over the columns, and the Alexander degree as a number of the grid and a
-- sum over the columns of numbers that depend on the column and the row alone.
use Rattle.std.proofs.Common.{◌≡◌, ℕ, zero, suc, ◌<◌, ◌≤◌, ◌&&◌, List, length, take, slice_index, refl, ap, ◌∙◌, sym, ltb, arith, inl, inr}
use Rattle.std.proofs.Math.IntN.{ℤ, pos, ◌+ℤ◌, ◌-ℤ◌, ◌*ℤ◌}
use Rattle.std.proofs.lemmas.Int.{ints}
use Rattle.std.specs.Prelude.{int_div}
use Rattle.std.proofs.lemmas.Bool.{cases_eq, lt-ltb, le-ltb}
use Rattle.std.proofs.lemmas.List.{length-take-le, get_or-take}
use Rattle.state_rank.specs.Bijection.{IsBijection}
use Rattle.torus_geom.specs.Counts.{one_if, sum_below, count_below}
use Rattle.torus_geom.specs.Marks.{Marks, size, IsGrid}
use Rattle.torus_geom.specs.Components.{components}
use Rattle.torus_geom.specs.Degrees.{maslov, alexander}
use Rattle.torus_geom.proofs.Sums.SumLemmas.{sum_below_same, balanced_sum, balanced_pairs}
use Rattle.torus_geom.proofs.Pairs.PairLemmas.{pairs, lower_left, maslov-by_pairs}
use Rattle.torus_geom.proofs.Sums.HalfLemmas.{int_div-double}
use Rattle.gradings.proofs.EvennessLemmas.{doubled_alexander_even}

-- the points left of a column are those of the columns below it
pub lower_left-left : (n : ℕ) (P : ℕ → ℕ) (c r : ℕ) → c ≤ n → lower_left n P c r ≡ count_below c (λ d. ltb (P d) r)
lower_left-left zero P c r h = let e : c ≡ zero = omega arith in ap (λ m. count_below m (λ d. ltb (P d) r)) (sym e)
lower_left-left (suc n) P c r h = elim (cases_eq c (suc n)) [
  | inl e ↦
      sum_below_same (suc n) (λ d. one_if (ltb d c && ltb (P d) r)) (λ d. one_if (ltb (P d) r))
      (λ d l. ap (λ b. one_if (b && ltb (P d) r)) (lt-ltb d c (omega arith)))
      ∙ ap (λ m. count_below m (λ d. ltb (P d) r)) (sym e)
  | inr p ↦
      let rest = lower_left-left n P c r (omega arith) in
      let none : one_if (ltb n c && ltb (P n) r) ≡ pos 0 =
      ap (λ b. one_if (b && ltb (P n) r)) (le-ltb n c (omega arith)) in
      omega (arith, ints)
]

-- of a list, the points left of a column are the list before it
pub count_below-take : (rows : List ℕ) (c r : ℕ) → c ≤ length rows
    → count_below (length (take c rows)) (λ d. ltb (slice_index (take c rows) d) r)
    ≡ lower_left (length rows) (slice_index rows) c r
count_below-take rows c r h =
    ap (λ m. count_below m (λ d. ltb (slice_index (take c rows) d) r)) (length-take-le c rows h)
    ∙ sum_below_same c (λ d. one_if (ltb (slice_index (take c rows) d) r)) (λ d. one_if (ltb (slice_index rows d) r))
    (λ d l. ap (λ s. one_if (ltb s r)) (get_or-take c rows d 0 l))
    ∙ sym (lower_left-left (length rows) (slice_index rows) c r h)

-- what column c adds to the degree
abbrev pub gain : ℕ → List ℕ → List ℕ → ℕ → ℤ
gain n o x c =
    lower_left n (slice_index x) c (slice_index x c) +ℤ lower_left n (slice_index o) c (slice_index o c) -ℤ pos 2
    *ℤ lower_left n (slice_index o) c (slice_index x c)

-- the same of the lists before column c
pub gain-take : (o x : List ℕ) (c : ℕ) → length x ≡ length o → c < length o
    → count_below (length (take c x)) (λ d. ltb (slice_index (take c x) d) (slice_index x c))
    +ℤ count_below (length (take c o)) (λ d. ltb (slice_index (take c o) d) (slice_index o c))
    -ℤ pos 2 *ℤ count_below (length (take c o)) (λ d. ltb (slice_index (take c o) d) (slice_index x c))
    ≡ gain (length o) o x c
gain-take o x c long inside =
    let points = count_below-take x c (slice_index x c) (omega arith)
    ∙ ap (λ n. lower_left n (slice_index x) c (slice_index x c)) long in
    let marks = count_below-take o c (slice_index o c) (omega arith) in
    let mixed = count_below-take o c (slice_index x c) (omega arith) in
    λ i. points i +ℤ marks i -ℤ pos 2 *ℤ mixed i

-- the degree is what the columns add
pub maslov-gains : (n : ℕ) (o x : List ℕ) → IsBijection n o → IsBijection n x
    → maslov n o x ≡ sum_below n (gain n o x) +ℤ pos 1 -ℤ pos n
maslov-gains n o x bo bx =
    let by_pairs = maslov-by_pairs n o x bo bx in
    let mixed = λ (c : ℕ). lower_left n (slice_index o) c (slice_index x c) in
    let sums =
    balanced_pairs n (gain n o x) (λ c. mixed c +ℤ mixed c) (λ c. lower_left n (slice_index x) c (slice_index x c))
    (λ c. lower_left n (slice_index o) c (slice_index o c)) (λ c l. omega (arith, ints)) in
    let twice = balanced_sum n (λ c. mixed c +ℤ mixed c) mixed mixed (λ c l. refl) in
    omega (arith, ints)

-- what a point at column c and row r adds to the Alexander degree
abbrev pub alexander_weight : Marks → ℕ → ℕ → ℤ
alexander_weight g c r = lower_left (size g) (slice_index g.x) c r -ℤ lower_left (size g) (slice_index g.o) c r

-- what the grid gives to it
abbrev pub alexander_constant : Marks → ℤ
alexander_constant g =
    int_div (pairs (size g) (slice_index g.o) (slice_index g.o) -ℤ pairs (size g) (slice_index g.x) (slice_index g.x)
    -ℤ (pos (size g) -ℤ pos (components g))) (pos 2)

-- the Alexander degree is a number of the grid, and a sum of numbers of single points
pub alexander-linear : (g : Marks) → IsGrid g → (x : List ℕ) → IsBijection (size g) x
    → alexander g x ≡ alexander_constant g +ℤ sum_below (size g) (λ c. alexander_weight g c (slice_index x c))
unfolding alexander
alexander-linear g grid x state =
    let n = size g in
    let even = doubled_alexander_even g grid x state in
    let half = even.0 in
    let weights = sum_below n (λ c. alexander_weight g c (slice_index x c)) in
    let by_o = maslov-by_pairs n g.o x grid.o state in
    let by_x = maslov-by_pairs n g.x x grid.x state in
    let by_points =
    balanced_sum n (λ c. lower_left n (slice_index g.x) c (slice_index x c))
    (λ c. alexander_weight g c (slice_index x c)) (λ c. lower_left n (slice_index g.o) c (slice_index x c))
    (λ c l. omega (arith, ints)) in
    let doubled = even.1 in
    let constant : pairs n (slice_index g.o) (slice_index g.o) -ℤ pairs n (slice_index g.x) (slice_index g.x)
    -ℤ (pos n -ℤ pos (components g)) ≡ (half -ℤ weights) +ℤ (half -ℤ weights) = omega (arith, ints) in
    let half_constant = ap (λ z. int_div z (pos 2)) constant ∙ int_div-double (half -ℤ weights) in
    let half_doubled = ap (λ z. int_div z (pos 2)) doubled ∙ int_div-double half in
    omega (arith, ints)
