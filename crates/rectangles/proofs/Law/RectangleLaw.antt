-- The rectangle law: what a rectangle from one state to another changes of the Maslov degree, by the
-- marks in it and the points inside it, empty or not, across the seam or not. So a step of the border
-- lowers both Maslov degrees by one, and keeps the Alexander degree.
use Rattle.std.proofs.Common.{◌≡◌, ◌≢◌, ℕ, ◌<◌, Bool, true, false, not, ◌&&◌, ◌||◌, List, length, slice_index, swap, refl, ap, ◌∙◌, sym, subst, eqb, arith}
use Rattle.std.proofs.Math.IntN.{pos, ◌+ℤ◌, ◌-ℤ◌, ◌*ℤ◌}
use Rattle.std.proofs.lemmas.Int.{ints}
use Rattle.std.specs.Prelude.{int_div}
use Rattle.std.proofs.lemmas.Bool.{and_parts, eqb-true, not-true, false≢true}
use Rattle.std.proofs.lemmas.List.Edits.{length-swap}
use Rattle.state_rank.specs.Bijection.{IsBijection}
use Rattle.state_rank.proofs.BijectionLemmas.{one_to_one}
use Rattle.state_rank.proofs.SwapLemmas.{slice_index-swap_first, slice_index-swap_second, slice_index-swap_other, IsBijection-swap}
use Rattle.torus_geom.specs.Counts.{one_if, count_below, all_below}
use Rattle.torus_geom.specs.Marks.{Marks, size, IsGrid}
use Rattle.torus_geom.specs.Range.{in_range, is_inside}
use Rattle.torus_geom.specs.Rectangle.{IsProper, leads, is_same, is_empty, is_unmarked}
use Rattle.torus_geom.specs.Border.{is_step}
use Rattle.torus_geom.specs.Degrees.{maslov, maslov_o, maslov_x, alexander, doubled_alexander, marks_in, points_inside}
use Rattle.torus_geom.specs.declared.rects.Rect.{Rect}
use Rattle.torus_geom.proofs.Sums.AllBelowLemmas.{at_all_below}
use Rattle.torus_geom.proofs.Sums.SumLemmas.{sum_below_same, sum_below_vanishes}
use Rattle.torus_geom.proofs.Pairs.PairLemmas.{maslov-by_pairs}
use Rattle.torus_geom.proofs.Pairs.ExchangeLaw.{IsExchange, maslov-exchanged, marks_between, points_within}
use Rattle.rectangles.proofs.Square.RectangleTests.{in_range-between, is_inside-between}
use Rattle.rectangles.proofs.Square.BorderLemmas.{LowersDegrees}

-- the two states are bijections, and the rectangle is a way from x to y
pub record IsWay (n : ℕ) (x y : List ℕ) (r : Rect) : Type 0 where
  pub from : IsBijection n x
  pub to : IsBijection n y
  pub proper : IsProper n r
  pub from_left : slice_index x r.left ≡ r.low
  pub from_right : slice_index x r.right ≡ r.high
  pub to_left : slice_index y r.left ≡ r.high
  pub to_right : slice_index y r.right ≡ r.low
  pub others : (c : ℕ) → c < n → c ≢ r.left → c ≢ r.right → slice_index x c ≡ slice_index y c

-- the two points moved, along a rectangle with these corners
pub IsWay-swap : (n : ℕ) (x : List ℕ) (r : Rect) → IsBijection n x → r.left < n → r.right < n → r.left ≢ r.right
    → slice_index x r.left ≡ r.low → slice_index x r.right ≡ r.high
    → IsWay n x (swap x r.left r.right) r
IsWay-swap n x r state left right apart low high =
    let left_in : r.left < length x = let long = state.long in omega arith in
    let right_in : r.right < length x = let long = state.long in omega arith in
    record {
      from = state;
      to = IsBijection-swap n x r.left r.right left right state;
      proper = record {
        left_below = left;
        right_below = right;
        low_below = subst (λ i. i < n) low (state.small r.left left);
        high_below = subst (λ i. i < n) high (state.small r.right right);
        columns = apart;
        rows = λ e. state.apart r.left r.right left right apart (low ∙ e ∙ sym high);
      };
      from_left = low;
      from_right = high;
      to_left = slice_index-swap_first x r.left r.right left_in right_in ∙ high;
      to_right = slice_index-swap_second x r.left r.right left_in right_in ∙ low;
      others = λ c l p q. sym (slice_index-swap_other x r.left r.right c left_in right_in p q);
    }

module _ (n : ℕ) (x y : List ℕ) (r : Rect) (way : IsWay n x y r) where
  exchange : IsExchange n r.left r.right r.low r.high (slice_index x) (slice_index y)
  exchange = record {
    a_below = way.proper.left_below;
    b_below = way.proper.right_below;
    apart = way.proper.columns;
    one = one_to_one n x way.from;
    one_after = one_to_one n y way.to;
    from_a = way.from_left;
    from_b = way.from_right;
    to_a = way.to_left;
    to_b = way.to_right;
    others = way.others;
  }

  -- for each set of marks that is a bijection
  pub maslov-rectangle : (o : List ℕ) → IsBijection n o
      → maslov n o x -ℤ maslov n o y ≡ pos 1 -ℤ pos 2 *ℤ marks_in n o r +ℤ pos 2 *ℤ points_inside n x r
  maslov-rectangle o bo =
      let proper = way.proper in
      let of_x = maslov-by_pairs n o x bo way.from in
      let of_y = maslov-by_pairs n o y bo way.to in
      let law =
      maslov-exchanged n r.left r.right r.low r.high (slice_index x) (slice_index y) exchange (slice_index o)
      (one_to_one n o bo) in
      let marks : marks_in n o r ≡ marks_between n (slice_index o) r.left r.right r.low r.high =
      sum_below_same n (λ c. one_if (in_range n r.left r.right c && in_range n r.low r.high (slice_index o c)))
      (λ c. one_if _) (λ c l.
      λ i. one_if (in_range-between n r.left r.right c proper.left_below proper.right_below l i
      && in_range-between n r.low r.high (slice_index o c) proper.low_below proper.high_below (bo.small c l) i)) in
      let points : points_inside n x r ≡ points_within n (slice_index x) r.left r.right r.low r.high =
      sum_below_same n (λ c. one_if (is_inside n r.left r.right c && is_inside n r.low r.high (slice_index x c)))
      (λ c. one_if _) (λ c l.
      λ i. one_if (is_inside-between n r.left r.right c proper.left_below proper.right_below l i
      && is_inside-between n r.low r.high (slice_index x c) proper.low_below proper.high_below
      (way.from.small c l) i)) in
      omega (arith, ints)

-- ---- steps of the border

-- a test that never passes counts none
count_below_none : (n : ℕ) (test : ℕ → Bool) → ((c : ℕ) → c < n → test c ≡ false) → count_below n test ≡ pos 0
count_below_none n test h = sum_below_vanishes n (λ c. one_if (test c)) (λ c l. ap one_if (h c l))

none_of_two : (u v w : Bool) → not (u && (v || w)) ≡ true → ((u && v) ≡ false) × ((u && w) ≡ false)
none_of_two true true w h = absurd (false≢true h)
none_of_two true false true h = absurd (false≢true h)
none_of_two true false false h = (refl, refl)
none_of_two false v w h = (refl, refl)

module _ (g : Marks) (grid : IsGrid g) (x y : List ℕ) (r : Rect) (from : IsBijection (size g) x)
    (to : IsBijection (size g) y) (proper : IsProper (size g) r) (step : is_step g x y r ≡ true) where
  abbrev n : ℕ
  n = size g

  leading : leads r x y ≡ true
  leading = (and_parts (leads r x y) (is_empty x r && is_unmarked g r) step).0

  empty : is_empty x r ≡ true
  empty = (and_parts (is_empty x r) (is_unmarked g r)
      (and_parts (leads r x y) (is_empty x r && is_unmarked g r) step).1).0

  unmarked : is_unmarked g r ≡ true
  unmarked =
      (and_parts (is_empty x r) (is_unmarked g r) (and_parts (leads r x y) (is_empty x r && is_unmarked g r) step).1).1

  low : slice_index x r.left ≡ r.low
  low = eqb-true (slice_index x r.left) r.low
      (and_parts (eqb (slice_index x r.left) r.low)
      (eqb (slice_index x r.right) r.high && is_same (swap x r.left r.right) y) leading).0

  rest : (eqb (slice_index x r.right) r.high && is_same (swap x r.left r.right) y) ≡ true
  rest = (and_parts (eqb (slice_index x r.left) r.low)
      (eqb (slice_index x r.right) r.high && is_same (swap x r.left r.right) y) leading).1

  high : slice_index x r.right ≡ r.high
  high = eqb-true (slice_index x r.right) r.high
      (and_parts (eqb (slice_index x r.right) r.high) (is_same (swap x r.left r.right) y) rest).0

  same_rows : (c : ℕ) → c < n → slice_index (swap x r.left r.right) c ≡ slice_index y c
  same_rows c l =
      let z : List ℕ = swap x r.left r.right in
      let same =
      (and_parts (eqb (length z) (length y)) (all_below (length z) (λ c. eqb (slice_index z c) (slice_index y c)))
      (and_parts (eqb (slice_index x r.right) r.high) (is_same z y) rest).1).1 in
      let long : length (swap x r.left r.right) ≡ n = length-swap x r.left r.right ∙ from.long in
      eqb-true (slice_index (swap x r.left r.right) c) (slice_index y c)
      (at_all_below (length (swap x r.left r.right))
      (λ c. eqb (slice_index (swap x r.left r.right) c) (slice_index y c)) same c (omega arith))

  pub way_of_step : IsWay n x y r
  way_of_step =
      let swapped = IsWay-swap n x r from proper.left_below proper.right_below proper.columns low high in
      record {
        from = from;
        to = to;
        proper = proper;
        from_left = low;
        from_right = high;
        to_left = sym (same_rows r.left proper.left_below) ∙ swapped.to_left;
        to_right = sym (same_rows r.right proper.right_below) ∙ swapped.to_right;
        others = λ c l p q. swapped.others c l p q ∙ same_rows c l;
      }

  no_points : points_inside n x r ≡ pos 0
  no_points =
      count_below_none n (λ c. is_inside n r.left r.right c && is_inside n r.low r.high (slice_index x c)) (λ c l.
      not-true (is_inside n r.left r.right c && is_inside n r.low r.high (slice_index x c))
      (at_all_below n (λ c. not (is_inside n r.left r.right c && is_inside n r.low r.high (slice_index x c)))
      (subst (λ m. all_below m (λ c. not (is_inside m r.left r.right c && is_inside m r.low r.high (slice_index x c)))
      ≡ true) from.long empty) c l))

  pub no_marks_of_step : (c : ℕ) → c < n
      → ((in_range n r.left r.right c && in_range n r.low r.high (slice_index g.o c)) ≡ false)
      × ((in_range n r.left r.right c && in_range n r.low r.high (slice_index g.x c)) ≡ false)
  no_marks_of_step c l =
      none_of_two (in_range n r.left r.right c) (in_range n r.low r.high (slice_index g.o c))
      (in_range n r.low r.high (slice_index g.x c))
      (at_all_below n (λ c. not (in_range n r.left r.right c
      && (in_range n r.low r.high (slice_index g.o c) || in_range n r.low r.high (slice_index g.x c)))) unmarked
      c l)

  -- M falls by one, by the O
  pub step_lowers_maslov : maslov_o g x ≡ maslov_o g y +ℤ pos 1
  step_lowers_maslov =
      let law = maslov-rectangle n x y r way_of_step g.o grid.o in
      let points = no_points in
      let marks =
      count_below_none n (λ c. in_range n r.left r.right c && in_range n r.low r.high (slice_index g.o c))
      (λ c l. (no_marks_of_step c l).0) in
      omega (arith, ints)

  -- and by the X
  pub step_lowers_maslov_x : maslov_x g x ≡ maslov_x g y +ℤ pos 1
  step_lowers_maslov_x =
      let law = maslov-rectangle n x y r way_of_step g.x grid.x in
      let points = no_points in
      let marks =
      count_below_none n (λ c. in_range n r.left r.right c && in_range n r.low r.high (slice_index g.x c))
      (λ c l. (no_marks_of_step c l).1) in
      omega (arith, ints)

  -- A stays
  pub step_keeps_alexander : alexander g x ≡ alexander g y
  unfolding alexander
  step_keeps_alexander =
      let by_o = step_lowers_maslov in
      let by_x = step_lowers_maslov_x in
      let doubled : doubled_alexander g x ≡ doubled_alexander g y = omega (arith, ints) in
      ap (λ z. int_div z (pos 2)) doubled

-- each step lowers the Maslov degree by one and keeps the Alexander degree
pub lowers_degrees : (g : Marks) → IsGrid g → LowersDegrees g
lowers_degrees g grid x y r from to proper step =
    λ i. (
      step_lowers_maslov g grid x y r from to proper step i,
      step_keeps_alexander g grid x y r from to proper step i,
    )
