-- The degrees of a state by tables of its grid. Route: a table is filled place by place; the sum of its
-- entries at the points of the state is the sum in the law that gives the degree by single points; and both
-- degrees are small, so that no sum on the way overflows.
use Rattle.std.proofs.Common.{◌≡◌, ◌≢◌, ℕ, zero, suc, ◌+◌, ◌*◌, ◌<◌, ◌≤◌, Bool, true, false, List, length, take, slice_index, slice_index_or, set, refl, ap, subst, ◌∙◌, sym, ltb, add-one, arith, below_more, get_or-set_same, get_or-set_other}
use Rattle.std.proofs.Common.{◌≤ℤ◌}
use Rattle.std.proofs.Math.IntN.{ℤ, pos, ◌+ℤ◌, ◌-ℤ◌, ◌*ℤ◌}
use Rattle.std.proofs.lemmas.Int.{ints}
use Rattle.std.specs.Prelude.{int_div}
use Rattle.std.proofs.lemmas.List.{length-set}
use Rattle.state_rank.specs.Bijection.{IsBijection}
use Rattle.state_rank.specs.States.{IsState}
use Rattle.state_rank.specs.declared.TheConstants.{MAX_SIZE}
use Rattle.torus_geom.specs.Counts.{one_if, sum_below, count_below}
use Rattle.torus_geom.specs.Marks.{Marks, size, IsGrid}
use Rattle.torus_geom.specs.Components.{is_first, components}
use Rattle.torus_geom.specs.Degrees.{maslov_o, alexander}
use Rattle.torus_geom.proofs.Sums.SumLemmas.{sum_below_same, balanced_sum}
use Rattle.torus_geom.proofs.Pairs.PairLemmas.{lower_left, pairs, maslov-by_pairs, maslov-by_points}
use Rattle.torus_geom.proofs.Sums.HalfLemmas.{int_div-double}
use Rattle.gradings.specs.Degrees.{IsSmallDegree}
use Rattle.gradings.specs.Inner.Tables.{left_below, pairs_of, entry, half_of_marks, IsTables}
use Rattle.gradings.specs.declared.tables.DegreeTables.TheInside.{Inside}
use Rattle.gradings.proofs.MaslovLemmas.{count_below-take, alexander_weight, alexander-linear}
use Rattle.torus_geom.proofs.Cycles.ComponentLemmas.{components-count}
use Rattle.gradings.proofs.EvennessLemmas.{doubled_alexander_even, two-alexander}

-- ---- filling an array

-- an array has its length, and its entries below i have the property P of their place
pub record IsFilled {A : Type 0} (long : ℕ) (xs : List A) (i : ℕ) (d : A) (P : ℕ → A → Type 0) : Type 0 where
  pub whole : length xs ≡ long
  pub each : (k : ℕ) → k < i → P k (slice_index_or xs k d)

-- one more entry is written
pub IsFilledWith-more : {A : Type 0} (long : ℕ) (xs : List A) (i : ℕ) (d : A) (P : ℕ → A → Type 0) (v : A) → i < long
    → IsFilled long xs i d P → P i v → IsFilled long (set xs i v) (i + 1) d P
IsFilledWith-more long xs i d P v inside filled new =
    let whole = filled.whole in
    record {
      whole = length-set xs i v ∙ whole;
      each = below_more _ _
          (λ k l. let apart : k ≢ i = omega arith in
          subst (P k) (sym (get_or-set_other xs i k v d apart)) (filled.each k l))
          (subst (P i) (sym (get_or-set_same xs i v d (omega arith))) new);
    }

-- ---- sums of entries

-- the pairs whose second column is before d
pub record IsPairCount (rows : List ℕ) (d : ℕ) (count : ℤ) : Type 0 where
  pub value : count ≡ sum_below d (λ c. left_below (length rows) rows c (slice_index rows c))
  pub low : pos 0 ≤ℤ count
  pub high : count ≤ℤ pos (MAX_SIZE * d)

-- the pairs of one column more
pub IsPairCount-more : (rows : List ℕ) (d row : ℕ) (count term next : ℤ) → d < length rows → row ≡ slice_index rows d
    → IsPairCount rows d count
    → term ≡ count_below (length (take d rows)) (λ c. ltb (slice_index (take d rows) c) row) → pos 0 ≤ℤ term
    → term ≤ℤ pos MAX_SIZE → next ≡ count +ℤ term → IsPairCount rows (d + 1) next
IsPairCount-more rows d row count term next inside at h e low high is =
    let value = h.value in
    let old_low = h.low in
    let old_high = h.high in
    let found : term ≡ left_below (length rows) rows d (slice_index rows d) =
    e ∙ count_below-take rows d row (omega arith) ∙ ap (left_below (length rows) rows d) at in
    record {
      value = rw add-one (omega (arith, ints));
      low = omega (arith, ints);
      high = omega (arith, ints);
    }

-- the sum of the entries at the points before column c
pub record IsEntrySum (table : List (List ℕ)) (rows : List ℕ) (c sum : ℕ) : Type 0 where
  pub value : pos sum ≡ sum_below c (λ d. pos (entry table d (slice_index rows d)))
  pub high : sum ≤ 256 * c

-- the entry of one column more
pub IsEntrySum-more : (table : List (List ℕ)) (rows : List ℕ) (c sum term : ℕ) → IsEntrySum table rows c sum
    → term ≡ entry table c (slice_index rows c) → term < 256 → IsEntrySum table rows (c + 1) (sum + term)
IsEntrySum-more table rows c sum term h e small =
    let value = h.value in
    let high = h.high in
    record {
      value = rw add-one (omega (arith, ints));
      high = omega arith;
    }

-- ---- sums are small

-- from 0 to bound
abbrev pub IsUpTo : ℕ → ℤ → Type 0
IsUpTo bound z = (pos 0 ≤ℤ z) × (z ≤ℤ pos bound)

sum_below_up_to : (n bound : ℕ) (f : ℕ → ℤ) → ((t : ℕ) → t < n → IsUpTo bound (f t))
    → IsUpTo (bound * n) (sum_below n f)
sum_below_up_to zero bound f h = (omega (arith, ints), omega (arith, ints))
sum_below_up_to (suc n) bound f h =
    let rest = sum_below_up_to n bound f (λ t l. h t (omega arith)) in
    let term = h n (omega arith) in
    let rest_low = rest.0 in
    let rest_high = rest.1 in
    let low = term.0 in
    let high = term.1 in
    let product : bound * suc n ≡ bound * n + bound = omega arith in
    (omega (arith, ints), omega (arith, ints))

one_if_up_to : (b : Bool) → IsUpTo 1 (one_if b)
one_if_up_to true = (omega (arith, ints), omega (arith, ints))
one_if_up_to false = (omega (arith, ints), omega (arith, ints))

pub count_below_up_to : (n : ℕ) (test : ℕ → Bool) → IsUpTo n (count_below n test)
count_below_up_to n test =
    let h = sum_below_up_to n 1 (λ t. one_if (test t)) (λ t l. one_if_up_to (test t)) in
    let low = h.0 in
    let high = h.1 in
    (omega (arith, ints), omega (arith, ints))

-- there are at most n times n pairs
pub pairs_up_to : (n : ℕ) (P Q : ℕ → ℕ) → IsUpTo (n * n) (pairs n P Q)
pairs_up_to n P Q = sum_below_up_to n n (λ c. lower_left n P c (Q c)) (λ c l. count_below_up_to n _)

square_of_size : (n : ℕ) → n ≤ MAX_SIZE → n * n ≤ 100
square_of_size n h = grind arith

-- pairs of a size that is handled
pub pairs_small : (n : ℕ) (P Q : ℕ → ℕ) → n ≤ MAX_SIZE → IsUpTo 100 (pairs n P Q)
pairs_small n P Q h =
    let most = pairs_up_to n P Q in
    let square = square_of_size n h in
    let low = most.0 in
    let high = most.1 in
    (omega (arith, ints), omega (arith, ints))

module _ (g : Marks) (grid : IsGrid g) where
  -- there are no more components than columns
  pub components_few : pos (components g) ≤ℤ pos (size g)
  components_few =
      let count = components-count g in
      let few = count_below_up_to (size g) (is_first g) in
      let high = few.1 in
      omega (arith, ints)

  -- what the marks give to the Alexander degree is even
  pub marks_even : (half : ℤ)
      × (pairs_of (size g) g.o -ℤ pairs_of (size g) g.x -ℤ (pos (size g) -ℤ pos (components g)) ≡ half +ℤ half)
  marks_even =
      let even = doubled_alexander_even g grid g.o grid.o in
      let sum = even.1 in
      let by_o = maslov-by_pairs (size g) g.o g.o grid.o grid.o in
      let by_x = maslov-by_pairs (size g) g.x g.o grid.x grid.o in (
        even.0 -ℤ pairs (size g) (slice_index g.x) (slice_index g.o)
            +ℤ pairs (size g) (slice_index g.o) (slice_index g.o),
        omega (arith, ints),
      )

  -- so is the number that is kept of it
  pub half_of_marks-is : half_of_marks g ≡ marks_even.0
  half_of_marks-is = ap (λ z. int_div z (pos 2)) marks_even.1 ∙ int_div-double marks_even.0

  -- and it is small
  pub half_of_marks_small : IsSmallDegree marks_even.0
  half_of_marks_small =
      let fits = grid.is_size.greatest in
      let sum = marks_even.1 in
      let few = components_few in
      let of_o = pairs_small (size g) (slice_index g.o) (slice_index g.o) fits in
      let of_x = pairs_small (size g) (slice_index g.x) (slice_index g.x) fits in
      let o_low = of_o.0 in
      let o_high = of_o.1 in
      let x_low = of_x.0 in
      let x_high = of_x.1 in
      record { low = omega (arith, ints); high = omega (arith, ints) }

  module _ (x : List ℕ) (state : IsBijection (size g) x) where
    -- the Maslov degree is small
    pub maslov_small : IsSmallDegree (maslov_o g x)
    maslov_small =
        let fits = grid.is_size.greatest in
        let by_o = maslov-by_pairs (size g) g.o x grid.o state in
        let of_points = pairs_small (size g) (slice_index x) (slice_index x) fits in
        let of_marks = pairs_small (size g) (slice_index g.o) (slice_index g.o) fits in
        let mixed = pairs_small (size g) (slice_index g.o) (slice_index x) fits in
        let points_low = of_points.0 in
        let points_high = of_points.1 in
        let marks_low = of_marks.0 in
        let marks_high = of_marks.1 in
        let mixed_low = mixed.0 in
        let mixed_high = mixed.1 in
        record { low = omega (arith, ints); high = omega (arith, ints) }

    -- the Alexander degree is small
    pub alexander_small : IsSmallDegree (alexander g x)
    alexander_small =
        let fits = grid.is_size.greatest in
        let twice = two-alexander g grid x state in
        let by_o = maslov-by_pairs (size g) g.o x grid.o state in
        let by_x = maslov-by_pairs (size g) g.x x grid.x state in
        let few = components_few in
        let of_o = pairs_small (size g) (slice_index g.o) (slice_index g.o) fits in
        let of_x = pairs_small (size g) (slice_index g.x) (slice_index g.x) fits in
        let by_marks = pairs_small (size g) (slice_index g.o) (slice_index x) fits in
        let also_by_marks = pairs_small (size g) (slice_index g.x) (slice_index x) fits in
        let o_low = of_o.0 in
        let o_high = of_o.1 in
        let x_low = of_x.0 in
        let x_high = of_x.1 in
        let left_low = by_marks.0 in
        let left_high = by_marks.1 in
        let right_low = also_by_marks.0 in
        let right_high = also_by_marks.1 in
        record { low = omega (arith, ints); high = omega (arith, ints) }

-- ---- the laws of the two tables

sum_below-sizes : (n : ℕ) → sum_below n (λ c. pos MAX_SIZE) ≡ pos (MAX_SIZE * n)
sum_below-sizes zero = refl
sum_below-sizes (suc n) = let h = sum_below-sizes n in omega (arith, ints)

module _ (t : Inside) (tables : IsTables t) (x : List ℕ) (state : IsBijection (size t.grid) x) (sum : ℕ) where
  abbrev n : ℕ
  n = size t.grid

  -- the Maslov degree by its table
  pub maslov-by_table : pos sum ≡ sum_below n (λ c. pos (entry t.o_below c (slice_index x c)))
      → t.maslov_of_marks +ℤ pairs_of n x -ℤ pos 2 *ℤ pos sum ≡ maslov_o t.grid x
  maslov-by_table is =
      let fits = tables.grid.is_size.greatest in
      let law = maslov-by_points n t.grid.o x tables.grid.o state in
      let constant = tables.maslov_of_marks in
      let entries =
      sum_below_same n (λ c. pos (entry t.o_below c (slice_index x c)))
      (λ c. lower_left n (slice_index t.grid.o) c (slice_index x c))
      (λ c l. let inside = state.small c l in tables.o_below c (slice_index x c) l (omega arith)) in
      omega (arith, ints)

  -- the Alexander degree by its table
  pub alexander-by_table : pos sum ≡ sum_below n (λ c. pos (entry t.weights c (slice_index x c)))
      → t.alexander_of_marks +ℤ pos sum ≡ alexander t.grid x
  alexander-by_table is =
      let fits = tables.grid.is_size.greatest in
      let law = alexander-linear t.grid tables.grid x state in
      let constant = tables.alexander_of_marks in
      let entries =
      balanced_sum n (λ c. pos (entry t.weights c (slice_index x c))) (λ c. pos MAX_SIZE)
      (λ c. alexander_weight t.grid c (slice_index x c))
      (λ c l. let inside = state.small c l in tables.weights c (slice_index x c) l (omega arith)) in
      let sizes = sum_below-sizes n in
      omega (arith, ints)

-- ---- what the calls on a table find

-- a degree, which is small
pub record IsFound (degree found : ℤ) : Type 0 where
  pub value : found ≡ degree
  pub small : IsSmallDegree degree

module _ (t : Inside) (tables : IsTables t) (g : Marks) (view : t.grid ≡ g) (x rows : List ℕ) (state : IsState x)
    (one_size : length x ≡ size g) (points : rows ≡ x) (sum : ℕ) where
  abbrev bijection : IsBijection (size t.grid) x
  bijection = subst (λ n. IsBijection n x) (one_size ∙ ap size (sym view)) state.bijection

  abbrev sums : (table : List (List ℕ))
      → sum_below (length rows) (λ c. pos (entry table c (slice_index rows c)))
      ≡ sum_below (size t.grid) (λ c. pos (entry table c (slice_index x c)))
  sums table =
      ap (λ xs. sum_below (length xs) (λ c. pos (entry table c (slice_index xs c)))) points
      ∙ ap (λ n. sum_below n (λ c. pos (entry table c (slice_index x c)))) (one_size ∙ ap size (sym view))

  -- the Maslov degree is found
  pub maslov_found : pos sum ≡ sum_below (length rows) (λ c. pos (entry t.o_below c (slice_index rows c))) → (count : ℤ)
      → count ≡ pairs_of (length rows) rows
      → IsFound (maslov_o g x) (t.maslov_of_marks +ℤ count -ℤ pos 2 *ℤ pos sum)
  maslov_found is count counted = record {
    value =
        ap (λ z. t.maslov_of_marks +ℤ z -ℤ pos 2 *ℤ pos sum)
        (counted ∙ ap (λ xs. pairs_of (length xs) xs) points ∙ ap (λ n. pairs_of n x) (one_size ∙ ap size (sym view)))
        ∙ maslov-by_table t tables x bijection sum (is ∙ sums t.o_below)
        ∙ ap (λ h. maslov_o h x) view;
    small = subst (λ h. IsSmallDegree (maslov_o h x)) view (maslov_small t.grid tables.grid x bijection);
  }

  -- the Alexander degree is found
  pub alexander_found : pos sum ≡ sum_below (length rows) (λ c. pos (entry t.weights c (slice_index rows c)))
      → IsFound (alexander g x) (t.alexander_of_marks +ℤ pos sum)
  alexander_found is = record {
    value = alexander-by_table t tables x bijection sum (is ∙ sums t.weights) ∙ ap (λ h. alexander h x) view;
    small = subst (λ h. IsSmallDegree (alexander h x)) view (alexander_small t.grid tables.grid x bijection);
  }
