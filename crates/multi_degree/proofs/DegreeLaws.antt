-- The laws of the degrees by component: twice the degree is the whole number that it is to be; a rectangle changes
-- it by the marks of the component in it, so the border keeps it; and all of them add up to twice the Alexander degree.
use Rattle.std.proofs.Common.{◌≡◌, ℕ, ◌<◌, Bool, true, false, ◌&&◌, List, slice_index, cond, refl, ap, ◌∙◌, sym, arith}
use Rattle.std.proofs.Math.IntN.{ℤ, pos, ◌+ℤ◌, ◌-ℤ◌, ◌*ℤ◌}
use Rattle.std.proofs.lemmas.Int.{ints}
use Rattle.f2_algebra.specs.Chain.{holds}
use Rattle.state_rank.specs.Bijection.{IsBijection}
use Rattle.state_rank.specs.States.{rank}
use Rattle.state_rank.proofs.BijectionLemmas.{IsOneToOne, one_to_one, row-column_of}
use Rattle.state_rank.proofs.RankLemmas.{rank_one_to_one}
use Rattle.torus_geom.specs.Counts.{one_if}
use Rattle.torus_geom.specs.Marks.{Marks, size, IsGrid}
use Rattle.torus_geom.specs.Components.{column_after, is_first}
use Rattle.torus_geom.specs.Range.{in_range}
use Rattle.torus_geom.specs.Rectangle.{IsProper}
use Rattle.torus_geom.specs.Border.{is_step, border}
use Rattle.torus_geom.specs.Chains.{single}
use Rattle.torus_geom.specs.Inner.CodeBorder.{border_of_state}
use Rattle.torus_geom.specs.Degrees.{Point, point, mark, maslov, alexander}
use Rattle.torus_geom.specs.declared.rects.Rect.{Rect}
use Rattle.torus_geom.proofs.Chains.ReachedLemmas.{in_border_of_state}
use Rattle.torus_geom.proofs.Sums.SumLemmas.{sum_below_same, sum_below_vanishes}
use Rattle.torus_geom.proofs.Sums.HalfLemmas.{two-int_div}
use Rattle.torus_geom.proofs.Sums.TabulateLemmas.{pos-length-filter-ascending}
use Rattle.torus_geom.proofs.Pairs.PairLemmas.{count_below-all}
use Rattle.torus_geom.proofs.Pairs.ExchangeLaw.{IsExchange}
use Rattle.torus_geom.proofs.Cycles.ComponentLemmas.{column_after_one, components-count}
use Rattle.gradings.proofs.EvennessLemmas.{two-alexander}
use Rattle.rectangles.proofs.Square.RectangleTests.{in_range-between}
use Rattle.rectangles.proofs.Square.BorderLemmas.{step_of_border}
use Rattle.rectangles.proofs.Law.RectangleLaw.{IsWay, way_of_step, no_marks_of_step}
use Rattle.multi_degree.specs.ComponentDegrees.{is_on_cycle, component_size, every, pair_balance, doubled_component_degree, component_degree, component_degrees, total_degree, marks_in_part}
use Rattle.multi_degree.proofs.PartSums.{sum_where, sum_where_same, sum_where-sub, sum_where-add}
use Rattle.multi_degree.specs.Inner.Around.{points_around, marks_around}
use Rattle.multi_degree.proofs.BalanceLemmas.{around, pair_balance-sum, pair_balance-every, around-marks, around-points}
use Rattle.multi_degree.proofs.PartExchange.{inside, balance-exchanged}
use Rattle.multi_degree.proofs.PartEvenness.{balances_even}
use Rattle.multi_degree.proofs.CycleTests.{is_on_cycle-kept, sum_of_components}
use Rattle.multi_degree.proofs.FirstColumns.{map-passing, total_degree-passing}

-- ---- the balance by the rows of functions
module _ (g : Marks) (here : ℕ → Bool) where
  pub balance-marks : (y : List ℕ) → pair_balance g here (mark y)
      ≡ sum_where (size g) here (λ d. marks_around (size g) (slice_index y) d (slice_index g.x d)
      -ℤ marks_around (size g) (slice_index y) d (slice_index g.o d))
  balance-marks y =
      pair_balance-sum g here (mark y)
      ∙ sum_where_same (size g) here _ _ (λ d l h.
      λ i. around-marks (size g) y g.x d i -ℤ around-marks (size g) y g.o d i)

  pub balance-points : (x : List ℕ) → pair_balance g here (point x)
      ≡ sum_where (size g) here (λ d. points_around (size g) (slice_index x) d (slice_index g.x d)
      -ℤ points_around (size g) (slice_index x) d (slice_index g.o d))
  balance-points x =
      pair_balance-sum g here (point x)
      ∙ sum_where_same (size g) here _ _ (λ d l h.
      λ i. around-points (size g) x g.x d i -ℤ around-points (size g) x g.o d i)

module _ (g : Marks) (grid : IsGrid g) where
  abbrev o_one : IsOneToOne (size g) (slice_index g.o)
  o_one = one_to_one (size g) g.o grid.o

  abbrev x_one : IsOneToOne (size g) (slice_index g.x)
  x_one = one_to_one (size g) g.x grid.x

  -- the X of a column is in the row of the O to which the walk goes
  pub row_after : (c : ℕ) → c < size g → slice_index g.x c ≡ slice_index g.o (column_after g c)
  row_after c l = sym (row-column_of (size g) (slice_index g.o) o_one (slice_index g.x c) (grid.x.small c l))

  -- ---- a set of columns that the walk keeps
  module _ (here : ℕ → Bool) (keeps : (c : ℕ) → c < size g → here (column_after g c) ≡ here c) where
    -- the balances of all marks add up to an even number
    pub mark_balances-even : (half : ℤ)
        × (pair_balance g here (mark g.x) +ℤ pair_balance g here (mark g.o) ≡ half +ℤ half)
    mark_balances-even =
        let even = balances_even (size g) here (slice_index g.o) (slice_index g.x) (column_after g)
        (column_after_one g grid) o_one x_one keeps row_after grid.apart in
        (even.0, (λ i. balance-marks g here g.x i +ℤ balance-marks g here g.o i) ∙ even.1)

    -- a rectangle changes the balance of points by twice the X of these columns in it, less twice the O
    pub pair_balance-rectangle : (x y : List ℕ) (r : Rect) → IsWay (size g) x y r
        → pair_balance g here (point x) -ℤ pair_balance g here (point y)
        ≡ pos 2 *ℤ marks_in_part (size g) here g.x r -ℤ pos 2 *ℤ marks_in_part (size g) here g.o r
    pair_balance-rectangle x y r way =
        let exchange : IsExchange (size g) r.left r.right r.low r.high (slice_index x) (slice_index y) = record {
          a_below = way.proper.left_below;
          b_below = way.proper.right_below;
          apart = way.proper.columns;
          one = one_to_one (size g) x way.from;
          one_after = one_to_one (size g) y way.to;
          from_a = way.from_left;
          from_b = way.from_right;
          to_a = way.to_left;
          to_b = way.to_right;
          others = way.others;
        } in
        let law = balance-exchanged (size g) r.left r.right r.low r.high (slice_index x) (slice_index y) exchange here
        (slice_index g.o) (slice_index g.x) (column_after g) (column_after_one g grid) keeps row_after in
        let of_x = balance-points g here x in
        let of_y = balance-points g here y in
        let in_x = counted g.x (λ c l. grid.x.small c l) in
        let in_o = counted g.o (λ c l. grid.o.small c l) in
        omega (arith, ints)
      where
        guarded : (b t : Bool) → one_if (b && t) ≡ cond b (one_if t) (pos 0)
        guarded true t = refl
        guarded false t = refl

        counted : (m : List ℕ) → ((c : ℕ) → c < size g → slice_index m c < size g)
            → marks_in_part (size g) here m r
            ≡ sum_where (size g) here (λ d. inside r.left r.right r.low r.high d (slice_index m d))
        counted m small = sum_below_same (size g) _ _ (λ c l.
            guarded (here c) (in_range (size g) r.left r.right c && in_range (size g) r.low r.high (slice_index m c))
            ∙ (λ i. cond (here c)
            (one_if (in_range-between (size g) r.left r.right c way.proper.left_below way.proper.right_below l i
            && in_range-between (size g) r.low r.high (slice_index m c) way.proper.low_below way.proper.high_below
            (small c l) i)) (pos 0)))

  -- ---- one component
  module _ (f : ℕ) (f_below : f < size g) where
    kept : (c : ℕ) → c < size g → is_on_cycle g f (column_after g c) ≡ is_on_cycle g f c
    kept c l = is_on_cycle-kept g grid f c f_below l

    -- there is a whole number that is the degree
    pub doubled_component_degree_even : (x : List ℕ) → (half : ℤ) × (doubled_component_degree g f x ≡ half +ℤ half)
    unfolding doubled_component_degree
    doubled_component_degree_even x =
        let even = mark_balances-even (is_on_cycle g f) kept in
        let is = even.1 in (
          pair_balance g (is_on_cycle g f) (point x) -ℤ even.0 -ℤ (pos (component_size g f) -ℤ pos 1),
          omega (arith, ints),
        )

    -- so twice the degree is what it is to be
    pub two-component_degree : (x : List ℕ)
        → pos 2 *ℤ component_degree g f x ≡ doubled_component_degree g f x
    unfolding component_degree
    two-component_degree x =
        let even = doubled_component_degree_even x in two-int_div (doubled_component_degree g f x) even.0 even.1

    -- a rectangle changes the degree by twice the X of the component in it, less twice its O
    pub component_degree-rectangle : (x y : List ℕ) (r : Rect) → IsWay (size g) x y r
        → component_degree g f x -ℤ component_degree g f y
        ≡ pos 2 *ℤ marks_in_part (size g) (is_on_cycle g f) g.x r
        -ℤ pos 2 *ℤ marks_in_part (size g) (is_on_cycle g f) g.o r
    unfolding doubled_component_degree
    component_degree-rectangle x y r way =
        let law = pair_balance-rectangle (is_on_cycle g f) kept x y r way in
        let of_x = two-component_degree x in
        let of_y = two-component_degree y in
        omega (arith, ints)

    -- a step of the border keeps it
    pub component_degree-step : (x y : List ℕ) (r : Rect) → IsBijection (size g) x → IsBijection (size g) y
        → IsProper (size g) r → is_step g x y r ≡ true → component_degree g f x ≡ component_degree g f y
    component_degree-step x y r from to proper step =
        let law = component_degree-rectangle x y r (way_of_step g grid x y r from to proper step) in
        let no_x = none g.x (λ c l. (no_marks_of_step g grid x y r from to proper step c l).1) in
        let no_o = none g.o (λ c l. (no_marks_of_step g grid x y r from to proper step c l).0) in
        omega (arith, ints)
      where
        passes_not : (b t : Bool) → t ≡ false → one_if (b && t) ≡ pos 0
        passes_not true t e = ap one_if e
        passes_not false t e = refl

        none : (m : List ℕ)
            → ((c : ℕ) → c < size g
            → (in_range (size g) r.left r.right c && in_range (size g) r.low r.high (slice_index m c)) ≡ false)
            → marks_in_part (size g) (is_on_cycle g f) m r ≡ pos 0
        none m out = sum_below_vanishes (size g) _ (λ c l. passes_not (is_on_cycle g f c) _ (out c l))

  -- ---- all components
  -- a step of the border keeps all degrees
  pub component_degrees-step : (x y : List ℕ) (r : Rect) → IsBijection (size g) x → IsBijection (size g) y
      → IsProper (size g) r → is_step g x y r ≡ true → component_degrees g x ≡ component_degrees g y
  unfolding component_degrees
  component_degrees-step x y r from to proper step =
      map-passing (is_first g) (λ f. component_degree g f x) (λ f. component_degree g f y) (size g)
      (λ f l h. component_degree-step f l x y r from to proper step)

  -- the border keeps all degrees
  pub component_degrees-border_of_state : (x y : List ℕ) → IsBijection (size g) x → IsBijection (size g) y
      → holds (border_of_state g x) (rank y) ≡ true → component_degrees g x ≡ component_degrees g y
  component_degrees-border_of_state x y sx sy h =
      let (u, su, is, (r, proper, step)) = step_of_border g x (rank y) h in
      component_degrees-step x u r sx su proper step
      ∙ ap (component_degrees g) (rank_one_to_one (size g) u y su sy is)

  pub component_degrees-in_border : (x y : List ℕ) → IsBijection (size g) x → border g (single x) y ≡ true
      → component_degrees g x ≡ component_degrees g y
  component_degrees-in_border x y sx h =
      let (sy, held) = in_border_of_state g x y sx h in component_degrees-border_of_state x y sx sy held

  -- ---- their sum
  sum_of_balances : (p : ℕ → Point)
      → sum_where (size g) (is_first g) (λ f. pair_balance g (is_on_cycle g f) p) ≡ pair_balance g every p
  sum_of_balances p =
      sum_where_same (size g) (is_first g) _ _ (λ f l h. pair_balance-sum g (is_on_cycle g f) p)
      ∙ sum_of_components g grid (λ d. around (size g) p (mark g.x d) -ℤ around (size g) p (mark g.o d))
      ∙ sym (pair_balance-sum g every p)

  pub sum_of_sizes : sum_where (size g) (is_first g) (λ f. pos (component_size g f)) ≡ pos (size g)
  sum_of_sizes =
      sum_where_same (size g) (is_first g) _ (λ f. sum_where (size g) (is_on_cycle g f) (λ d. pos 1))
      (λ f l h. pos-length-filter-ascending (is_on_cycle g f) (size g))
      ∙ sum_of_components g grid (λ d. pos 1) ∙ count_below-all (size g)

  -- the degrees add up to twice the Alexander degree
  pub total_degree-component_degrees : (x : List ℕ) → IsBijection (size g) x
      → total_degree (component_degrees g x) ≡ pos 2 *ℤ alexander g x
  unfolding component_degrees doubled_component_degree maslov
  total_degree-component_degrees x state =
      let n = size g in
      let D : ℕ → ℤ = λ f. component_degree g f x in
      let A : ℕ → ℤ = λ f. pair_balance g (is_on_cycle g f) (point x) in
      let B : ℕ → ℤ = λ f. pair_balance g (is_on_cycle g f) (mark g.x) in
      let C : ℕ → ℤ = λ f. pair_balance g (is_on_cycle g f) (mark g.o) in
      let N : ℕ → ℤ = λ f. pos (component_size g f) in
      let I : ℕ → ℤ = λ f. pos 1 in
      let listed = total_degree-passing (is_first g) D n in
      let each = sum_where_same n (is_first g) (λ f. D f +ℤ D f)
      (λ f. ((A f -ℤ B f) -ℤ (C f -ℤ A f)) -ℤ ((N f -ℤ I f) +ℤ (N f -ℤ I f)))
      (λ f l h. let two = two-component_degree f l x in omega (arith, ints)) in
      let s1 = sum_where-add n (is_first g) D D in
      let s2 = sum_where-sub n (is_first g) A B in
      let s3 = sum_where-sub n (is_first g) C A in
      let s4 = sum_where-sub n (is_first g) (λ f. A f -ℤ B f) (λ f. C f -ℤ A f) in
      let s5 = sum_where-sub n (is_first g) N I in
      let s6 = sum_where-add n (is_first g) (λ f. N f -ℤ I f) (λ f. N f -ℤ I f) in
      let s7 = sum_where-sub n (is_first g) (λ f. (A f -ℤ B f) -ℤ (C f -ℤ A f))
      (λ f. (N f -ℤ I f) +ℤ (N f -ℤ I f)) in
      let of_points = sum_of_balances (point x) in
      let of_x = sum_of_balances (mark g.x) in
      let of_o = sum_of_balances (mark g.o) in
      let by_points = pair_balance-every g (point x) in
      let by_x = pair_balance-every g (mark g.x) in
      let by_o = pair_balance-every g (mark g.o) in
      let sizes = sum_of_sizes in
      let cycles = components-count g in
      let whole = two-alexander g grid x state in
      omega (arith, ints)
