-- The laws of the front of a grid, and of the states x+ and x-.
use Rattle.torus_geom.proofs.Chains.ReachedLemmas.{states_of-border_of_state}
use Rattle.torus_geom.proofs.Chains.CodesLemmas.{states_of-nothing}
use Rattle.torus_geom.specs.Codes.{states_of}
use Rattle.std.proofs.Common.{◌≡◌, ℕ, ◌<◌, ◌≤◌, true, ◌&&◌, List, length, take, slice_index, subst, ap, ◌∙◌, sym, eqb, arith}
use Rattle.std.proofs.Math.IntN.{ℤ, pos, ◌+ℤ◌, ◌-ℤ◌, ◌*ℤ◌}
use Rattle.std.proofs.lemmas.Int.{ints}
use Rattle.std.proofs.lemmas.Bool.{and_parts, eqb-true}
use Rattle.std.proofs.lemmas.List.{length-take-le, get_or-take}
use Rattle.std.specs.Prelude.{int_div, swap}
use Rattle.f2_algebra.specs.Chain.{nothing}
use Rattle.state_rank.specs.Bijection.{IsSize, IsBijection}
use Rattle.state_rank.specs.States.{IsState}
use Rattle.state_rank.proofs.BijectionLemmas.{IsOneToOne, one_to_one, same_list}
use Rattle.torus_geom.specs.Chains as chains
use Rattle.torus_geom.specs.Counts.{one_if, sum_below}
use Rattle.torus_geom.specs.Marks.{Marks, size, IsGrid}
use Rattle.torus_geom.specs.Range.{in_range}
use Rattle.torus_geom.specs.Rectangle.{leads, is_same, is_empty, is_unmarked}
use Rattle.torus_geom.specs.Border.{is_step, border as border_of}
use Rattle.torus_geom.specs.Inner.CodeBorder.{border_of_state}
use Rattle.torus_geom.specs.Degrees.{maslov_o}
use Rattle.torus_geom.specs.Front.{is_north_east_x, is_north_east_o, is_south_west_x, is_south_west_o, north_east, south_west, thurston_bennequin, writhe, doubled_rotation, rotation, plus_state, minus_state}
use Rattle.torus_geom.specs.Range.{one_up, one_down}
use Rattle.torus_geom.specs.declared.rects.Rect.{Rect}
use Rattle.torus_geom.proofs.Sums.SumLemmas.{sum_below-add, sum_below-zero, balanced_pairs}
use Rattle.torus_geom.proofs.Sums.HalfLemmas.{int_div-double, two-int_div}
use Rattle.state_rank.proofs.OrderLemmas.{length-tabulate}
use Rattle.torus_geom.proofs.Sums.TabulateLemmas.{slice_index-tabulate}
use Rattle.torus_geom.proofs.Pairs.PairLemmas.{maslov-by_pairs}
use Rattle.torus_geom.proofs.Circles.TurnLemmas.{one_up_below, one_down_below, one_up_one, one_down_one, composed_one, one_down-one_up, one_up-one_down}
use Rattle.torus_geom.proofs.Circles.RectangleLemmas.{in_range-start, in_range-one_down, no_x_inside, border_of_state-no_step}
use Rattle.front_data.proofs.CrossingLemmas.{pairs-crossings}
use Rattle.front_data.proofs.CornerLemmas as corners
use Rattle.front_data.proofs.PlusLemmas.{maslov_by_pairs-plus_state}

-- the sums over the columns, by their parts
pub north_east-sum : (g : Marks)
    → sum_below (size g) (λ c. one_if (is_north_east_x g c) +ℤ one_if (is_north_east_o g c)) ≡ north_east g
north_east-sum g = sum_below-add (size g) (λ c. one_if (is_north_east_x g c)) (λ c. one_if (is_north_east_o g c))

-- and those of twice the rotation number
pub doubled_rotation-sum : (g : Marks)
    → sum_below (size g) (λ c. one_if (is_north_east_x g c) +ℤ one_if (is_south_west_o g c)
    -ℤ one_if (is_north_east_o g c) -ℤ one_if (is_south_west_x g c)) ≡ doubled_rotation g
doubled_rotation-sum g =
    let n = size g in
    let plus = λ (c : ℕ). one_if (is_north_east_x g c) +ℤ one_if (is_south_west_o g c) in
    let minus = λ (c : ℕ). one_if (is_north_east_o g c) +ℤ one_if (is_south_west_x g c) in
    let apart =
    balanced_pairs n (λ c. plus c -ℤ one_if (is_north_east_o g c) -ℤ one_if (is_south_west_x g c)) minus plus
    (λ c. pos 0) (λ c l. omega (arith, ints)) in
    let none = sum_below-zero n in
    let added = sum_below-add n (λ c. one_if (is_north_east_x g c)) (λ c. one_if (is_south_west_o g c)) in
    let taken = sum_below-add n (λ c. one_if (is_north_east_o g c)) (λ c. one_if (is_south_west_x g c)) in
    omega (arith, ints)

-- a step leaves the state at its lower left and upper right corners, and is unmarked
step_parts : (g : Marks) (x y : List ℕ) (r : Rect) → is_step g x y r ≡ true
    → (slice_index x r.left ≡ r.low) × (slice_index x r.right ≡ r.high) × (is_unmarked g r ≡ true)
step_parts g x y r step =
    let parts = and_parts (leads r x y) (is_empty x r && is_unmarked g r) step in
    let corners_of =
    and_parts (eqb (slice_index x r.left) r.low)
    (eqb (slice_index x r.right) r.high && is_same (swap x r.left r.right) y) parts.0 in
    let second = and_parts (eqb (slice_index x r.right) r.high) (is_same (swap x r.left r.right) y) corners_of.1 in (
      eqb-true (slice_index x r.left) r.low corners_of.0,
      eqb-true (slice_index x r.right) r.high second.0,
      (and_parts (is_empty x r) (is_unmarked g r) parts.1).1,
    )

module _ (g : Marks) (grid : IsGrid g) where
  abbrev o_one : IsOneToOne (size g) (slice_index g.o)
  o_one = one_to_one (size g) g.o grid.o

  abbrev x_one : IsOneToOne (size g) (slice_index g.x)
  x_one = one_to_one (size g) g.x grid.x

  -- there are as many NE as SW corners
  pub north_east-south_west : north_east g ≡ south_west g
  north_east-south_west =
      corners.north_east-south_west (size g) (slice_index g.o) (slice_index g.x) o_one x_one grid.apart

  -- the columns whose X is above its O and the rows whose X is right of its O, less n
  abbrev pub turning : ℤ
  turning = corners.turning (size g) (slice_index g.o) (slice_index g.x) o_one x_one grid.apart

  -- twice it, by the corners
  pub doubled_rotation-turning : doubled_rotation g ≡ turning +ℤ turning
  doubled_rotation-turning =
      sym (corners.turning-corners (size g) (slice_index g.o) (slice_index g.x) o_one x_one grid.apart)

  -- the rotation number
  pub rotation-turning : rotation g ≡ turning
  unfolding rotation
  rotation-turning = ap (λ d. int_div d (pos 2)) doubled_rotation-turning ∙ int_div-double turning

  -- the rotation number is whole
  pub two-rotation : pos 2 *ℤ rotation g ≡ doubled_rotation g
  unfolding rotation
  two-rotation = two-int_div (doubled_rotation g) turning doubled_rotation-turning

  -- M(x-) = tb + rot + 1
  pub maslov-minus_state : maslov_o g (minus_state g) ≡ thurston_bennequin g +ℤ rotation g +ℤ pos 1
  unfolding thurston_bennequin writhe
  maslov-minus_state =
      let by_pairs = maslov-by_pairs (size g) g.o g.x grid.o grid.x in
      let by_corners =
      corners.maslov_by_pairs-minus_state (size g) (slice_index g.o) (slice_index g.x) o_one x_one grid.apart in
      let turns = rotation-turning in
      omega (arith, ints)

  -- x+ is a state
  pub plus_state-state : IsBijection (size g) (plus_state g)
  plus_state-state = record {
    long = length-tabulate (size g) (λ c. one_up (size g) (slice_index g.x (one_down (size g) c)));
    small = λ c l. let e = at_plus c l in
        let s = one_up_below (size g) (slice_index g.x (one_down (size g) c))
        (grid.x.small (one_down (size g) c) (one_down_below (size g) c l)) in omega arith;
    apart = λ b c lb lc p e. turned.apart b c lb lc p (sym (at_plus b lb) ∙ e ∙ at_plus c lc);
  }
    where
      turned : IsOneToOne (size g) (λ c. one_up (size g) (slice_index g.x (one_down (size g) c)))
      turned = composed_one (size g) (one_up (size g)) (λ c. slice_index g.x (one_down (size g) c))
          (one_up_one (size g)) (composed_one (size g) (slice_index g.x) (one_down (size g)) x_one
          (one_down_one (size g)))

      at_plus : (c : ℕ) → c < size g
          → slice_index (plus_state g) c ≡ one_up (size g) (slice_index g.x (one_down (size g) c))
      at_plus c l = slice_index-tabulate (size g) (λ c. one_up (size g) (slice_index g.x (one_down (size g) c))) c l

  -- the point of x+ on the circle after column c
  pub plus_state-one_up : (c : ℕ) → c < size g
      → slice_index (plus_state g) (one_up (size g) c) ≡ one_up (size g) (slice_index g.x c)
  plus_state-one_up c l =
      slice_index-tabulate (size g) (λ c. one_up (size g) (slice_index g.x (one_down (size g) c))) (one_up (size g) c)
      (one_up_below (size g) c l)
      ∙ ap (λ d. one_up (size g) (slice_index g.x d)) (one_down-one_up (size g) c l)

  -- M(x+) = tb - rot + 1
  pub maslov-plus_state : maslov_o g (plus_state g) ≡ thurston_bennequin g -ℤ rotation g +ℤ pos 1
  unfolding thurston_bennequin writhe
  maslov-plus_state =
      let o = slice_index g.o in
      let x = slice_index g.x in
      let by_pairs = maslov-by_pairs (size g) g.o (plus_state g) grid.o plus_state-state in
      let by_marks =
      maslov_by_pairs-plus_state (size g) o x (slice_index (plus_state g)) o_one x_one
      (one_to_one (size g) (plus_state g) plus_state-state) plus_state-one_up in
      let crossings = pairs-crossings (size g) o x o_one x_one grid.apart in
      let at_x = corners.north_at_x (size g) o x o_one x_one grid.apart in
      let at_o = corners.north_at_o (size g) o x o_one x_one grid.apart in
      let mixed = corners.mixed_pairs (size g) o x o_one x_one grid.apart in
      let turns = rotation-turning in
      omega (arith, ints)

  -- no step leaves x-: each rectangle from it has the X of its first column
  pub border_of_state-minus_state : border_of_state g (minus_state g) ≡ nothing
  border_of_state-minus_state = border_of_state-no_step g (minus_state g) (λ y r proper step.
      let parts = step_parts g (minus_state g) y r step in
      no_x_inside g r r.left parts.2 proper.left_below
      (in_range-start (size g) r.left r.right proper.left_below proper.right_below proper.columns)
      (ap (in_range (size g) r.low r.high) parts.0
      ∙ in_range-start (size g) r.low r.high proper.low_below proper.high_below proper.rows))

  -- no step leaves x+: each rectangle from it has the X of its last column
  pub border_of_state-plus_state : border_of_state g (plus_state g) ≡ nothing
  border_of_state-plus_state = border_of_state-no_step g (plus_state g) (λ y r proper step.
      let parts = step_parts g (plus_state g) y r step in
      let n = size g in
      let c = one_down n r.right in
      let c_below = one_down_below n r.right proper.right_below in
      let high : one_up n (slice_index g.x c) ≡ r.high = sym (plus_state-one_up c c_below)
      ∙ ap (slice_index (plus_state g)) (one_up-one_down n r.right proper.right_below) ∙ parts.1 in
      let row : slice_index g.x c ≡ one_down n r.high =
      sym (one_down-one_up n (slice_index g.x c) (grid.x.small c c_below)) ∙ ap (one_down n) high in
      no_x_inside g r c parts.2 c_below
      (in_range-one_down n r.left r.right proper.left_below proper.right_below proper.columns)
      (ap (in_range n r.low r.high) row
      ∙ in_range-one_down n r.low r.high proper.low_below proper.high_below proper.rows))

  -- x+ is a state of a size that is handled
  pub plus_state_IsState : IsState (plus_state g)
  plus_state_IsState =
      let long = plus_state-state.long in
      record {
        size = subst IsSize (sym long) grid.is_size;
        bijection = subst (λ n. IsBijection n (plus_state g)) (sym long) plus_state-state;
      }

  -- and x-
  pub minus_state_IsState : IsState (minus_state g)
  minus_state_IsState =
      let long = grid.x.long in
      record {
        size = subst IsSize (sym long) grid.is_size;
        bijection = subst (λ n. IsBijection n (minus_state g)) (sym long) grid.x;
      }

-- rows that are those of x+, of a longer list
pub take-plus_state : (g : Marks) (rows : List ℕ) → size g ≤ length rows
    → ((c : ℕ) → c < size g → slice_index rows c ≡ one_up (size g) (slice_index g.x (one_down (size g) c)))
    → take (size g) rows ≡ plus_state g
take-plus_state g rows room at =
    let row = λ (c : ℕ). one_up (size g) (slice_index g.x (one_down (size g) c)) in
    same_list (size g) (take (size g) rows) (plus_state g) (length-take-le (size g) rows room)
    (length-tabulate (size g) row)
    (λ c l. get_or-take (size g) rows c 0 l ∙ at c l ∙ sym (slice_index-tabulate (size g) row c l))

-- ---- over states
module _ (g : Marks) (s : IsGrid g) where
  -- x+ is a cycle
  pub border-plus_state : border_of g (chains.single (plus_state g)) ≡ chains.nothing
  border-plus_state =
      sym (states_of-border_of_state g (plus_state g) (plus_state-state g s))
      ∙ ap (states_of (size g)) (border_of_state-plus_state g s) ∙ states_of-nothing (size g)

  -- and so is x-
  pub border-minus_state : border_of g (chains.single (minus_state g)) ≡ chains.nothing
  border-minus_state =
      sym (states_of-border_of_state g (minus_state g) s.x) ∙ ap (states_of (size g)) (border_of_state-minus_state g s)
      ∙ states_of-nothing (size g)
