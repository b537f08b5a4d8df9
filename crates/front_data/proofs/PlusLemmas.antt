-- The degree of the state of the upper right corners of the X, by pairs of marks. For the rows of marks
-- and points as functions. Route: with circles named 1 to n its points are marks moved by a half; naming
-- the vertical circle n as 0 raises the degree by one, naming the horizontal circle n as 0 lowers it.
use Rattle.std.proofs.Common.{◌≡◌, ◌≢◌, ℕ, zero, suc, ◌+◌, ◌<◌, ◌≤◌, false, not, ◌&&◌, refl, ap, ◌∙◌, sym, ltb, arith, inl, inr, cond}
use Rattle.std.proofs.Math.IntN.{ℤ, pos, ◌+ℤ◌, ◌-ℤ◌}
use Rattle.std.proofs.lemmas.Int.{ints}
use Rattle.std.proofs.lemmas.Bool.{cases_eq, lt-ltb, eq-eqb, ne_eqb}
use Rattle.f2_algebra.proofs.Chains.Tables.{and-true}
use Rattle.state_rank.specs.Bijection.{column_of}
use Rattle.state_rank.proofs.BijectionLemmas.{IsOneToOne, column_of-one_to_one, column_of-below, row-column_of, column_of-is}
use Rattle.torus_geom.specs.Counts.{one_if, sum_below, count_below}
use Rattle.torus_geom.specs.Range.{one_up, one_down}
use Rattle.torus_geom.proofs.Sums.SumLemmas.{sum_below_same, sum_below_vanishes, balanced_sum, sum_below_but_two, sum_below-at_only, at_only, sum_below_reindex}
use Rattle.torus_geom.proofs.Pairs.PairLemmas.{pairs, maslov_by_pairs, lower_left, count_below-ltb, count_below-rows}
use Rattle.torus_geom.proofs.Pairs.RowPairLemmas.{pairs_same, pairs-column_of}
use Rattle.torus_geom.proofs.Circles.TurnLemmas.{one_up-below, one_up-last, one_down-first, one_up_one, one_down_one, composed_one, one_down-one_up, column_of-one_up, pairs-one_up}
use Rattle.front_data.proofs.CrossingLemmas.{weak_pairs-pairs}

module _ (m : ℕ) (o x z : ℕ → ℕ) (oo : IsOneToOne (suc m) o) (ox : IsOneToOne (suc m) x) (oz : IsOneToOne (suc m) z)
    (says : (c : ℕ) → c < suc m → z (one_up (suc m) c) ≡ one_up (suc m) (x c)) where
  abbrev n : ℕ
  n = suc m

  abbrev up_x : ℕ → ℕ
  up_x c = one_up n (x c)

  -- the column of the top row
  abbrev top : ℕ
  top = column_of n x m

  top_below : top < n
  top_below = column_of-below n x ox m (omega arith)

  up_x_one : IsOneToOne n up_x
  up_x_one = composed_one n (one_up n) x (one_up_one n) ox

  by_rows : pairs n up_x up_x ≡ pairs n (λ r. column_of n x (one_down n r)) (λ r. column_of n x (one_down n r))
  by_rows =
      pairs-column_of n up_x up_x up_x_one up_x_one
      ∙ pairs_same n (column_of n up_x) (λ r. column_of n x (one_down n r)) (column_of n up_x)
      (λ r. column_of n x (one_down n r)) (column_of-one_up n x ox) (column_of-one_up n x ox)

  -- the pairs of points
  pairs_of_points : pairs n z z +ℤ (pos (z 0) +ℤ pos (z 0)) +ℤ (pos top +ℤ pos top) +ℤ pos 2
      ≡ pairs n x x +ℤ (pos n +ℤ pos n)
  pairs_of_points =
      let turned = pairs-one_up m z z oz oz in
      let same_pairs = pairs_same n (λ c. z (one_up n c)) up_x (λ c. z (one_up n c)) up_x says says in
      let p = λ (r : ℕ). column_of n x (one_down n r) in
      let op = composed_one n (column_of n x) (one_down n) (column_of-one_to_one n x ox) (one_down_one n) in
      let also_turned = pairs-one_up m (λ r. column_of n x (one_down n r)) (λ r. column_of n x (one_down n r)) op op in
      let also_same_pairs =
      pairs_same n (λ r. column_of n x (one_down n (one_up n r))) (column_of n x)
      (λ r. column_of n x (one_down n (one_up n r))) (column_of n x)
      (λ c l. ap (column_of n x) (one_down-one_up n c l)) (λ c l. ap (column_of n x) (one_down-one_up n c l)) in
      let also_by_rows = pairs-column_of n x x ox ox in
      let again_by_rows = by_rows in
      let at_row : pos (column_of n x (one_down n 0)) ≡ pos top = ap (λ t. pos (column_of n x t)) (one_down-first m) in
      omega (arith, ints)

  at_right : (r : ℕ) → r ≤ n → lower_left n o n r ≡ pos r
  at_right r h =
      sum_below_same n _ (λ d. one_if (ltb (o d) r)) (λ d l. ap (λ t. one_if (t && ltb (o d) r)) (lt-ltb d n l))
      ∙ count_below-rows n o oo r h

  at_top : (c : ℕ) → c ≤ n → lower_left n o c n ≡ pos c
  at_top c h =
      sum_below_same n _ (λ d. one_if (ltb d c))
      (λ d l. ap (λ t. one_if (ltb d c && t)) (lt-ltb (o d) n (oo.small d l)) ∙ ap one_if (and-true (ltb d c)))
      ∙ count_below-ltb n c h

  at_left : (r : ℕ) → lower_left n o 0 r ≡ pos 0
  at_left r =
      sum_below_vanishes n _ (λ d l. let e : ltb d 0 ≡ false = grind arith in ap (λ t. one_if (t && ltb (o d) r)) e)

  at_bottom : (c : ℕ) → lower_left n o c 0 ≡ pos 0
  at_bottom c = sum_below_vanishes n _ (λ d l. let e : (ltb d c && ltb (o d) 0) ≡ false = grind arith in ap one_if e)

  -- the pairs of an O and a point, named by circles 1 to n and by circles 0 to n - 1
  named : ℕ → ℤ
  named c = lower_left n o (c + 1) (x c + 1)

  placed : ℕ → ℤ
  placed c = lower_left n o (one_up n c) (one_up n (x c))

  all_placed : pairs n o z ≡ sum_below n placed
  unfolding placed
  all_placed = sym (sum_below_reindex n (one_up n) (one_up_one n) (λ d. lower_left n o d (z d)))
      ∙ sum_below_same n _ placed (λ c l. ap (lower_left n o (one_up n c)) (says c l))

  all_named : sum_below n named ≡ pos n +ℤ pairs n x o
  unfolding named
  all_named =
      sum_below_same n named (λ c. count_below n (λ d. not (ltb c d) && not (ltb (x c) (o d))))
      (λ c l. sum_below_same n _ (λ d. one_if (not (ltb c d) && not (ltb (x c) (o d))))
      (λ d k. λ i. one_if (weak c d i && weak (x c) (o d) i)))
      ∙ weak_pairs-pairs n o x oo ox
    where
      weak : (a b : ℕ) → ltb b (a + 1) ≡ not (ltb a b)
      weak a b = grind arith

  agree : (c : ℕ) → c < n → c ≢ m → c ≢ top → named c ≡ placed c
  unfolding named placed
  agree c l p q =
      let r : x c ≢ m = λ e. q (sym (column_of-is n x ox c m l e)) in
      let s = ox.small c l in
      let u = one_up-below m c (omega arith) in
      let v = one_up-below m (x c) (omega arith) in
      sym (λ i. lower_left n o (u i) (v i))

  named_last : named m ≡ pos (x m + 1)
  unfolding named
  named_last = let e : m + 1 ≡ n = omega arith in let s = ox.small m (omega arith) in
      ap (λ t. lower_left n o t (x m + 1)) e ∙ at_right (x m + 1) (omega arith)

  placed_last : placed m ≡ pos 0
  unfolding placed
  placed_last = ap (λ t. lower_left n o t (one_up n (x m))) (one_up-last m) ∙ at_left (one_up n (x m))

  named_top : named top ≡ pos (top + 1)
  unfolding named
  named_top =
      let e : x top + 1 ≡ n = let i = row-column_of n x ox m (omega arith) in omega arith in
      let l = top_below in
      ap (lower_left n o (top + 1)) e ∙ at_top (top + 1) (omega arith)

  placed_top : placed top ≡ pos 0
  unfolding placed
  placed_top = ap (λ t. lower_left n o (one_up n top) (one_up n t)) (row-column_of n x ox m (omega arith))
      ∙ ap (lower_left n o (one_up n top)) (one_up-last m) ∙ at_bottom (one_up n top)

  z_first : z 0 ≡ one_up n (x m)
  z_first = ap z (sym (one_up-last m)) ∙ says m (omega arith)

  -- the degree, by pairs of marks
  pub maslov_by_pairs-plus : maslov_by_pairs n o z
      ≡ (pairs n x x +ℤ pairs n o o +ℤ pos 1) -ℤ (pairs n x o +ℤ pairs n x o) -ℤ pos n
  maslov_by_pairs-plus = elim (cases_eq top m) [
    | inl e ↦
        let of_points = pairs_of_points in
        let circles_from_none = all_placed in
        let circles_from_one = all_named in
        let i : x m ≡ m = ap x (sym e) ∙ row-column_of n x ox m (omega arith) in
        let z0 : z 0 ≡ 0 = z_first ∙ ap (one_up n) i ∙ one_up-last m in
        let balance = balanced_sum n named placed (at_only m named) (λ c l. elim (cases_eq c m) [
          | inl j ↦
              let a : placed c ≡ pos 0 = ap placed j ∙ placed_last in
              let b : at_only m named c ≡ named c = ap (λ t. cond t (named c) (pos 0)) (eq-eqb c m j) in
              omega (arith, ints)
          | inr q ↦
              let a = agree c l q (λ k. q (k ∙ e)) in
              let b : at_only m named c ≡ pos 0 = ap (λ t. cond t (named c) (pos 0)) (ne_eqb c m q) in
              omega (arith, ints)
        ]) in
        let single = sum_below-at_only n m named (omega arith) in
        let last_named = named_last in
        omega (arith, ints)
    | inr q ↦
        let also_of_points = pairs_of_points in
        let also_circles_from_none = all_placed in
        let also_circles_from_one = all_named in
        let p : x m ≢ m = λ i. q (column_of-is n x ox m m (omega arith) i) in
        let s = ox.small m (omega arith) in
        let z0 : z 0 ≡ x m + 1 = z_first ∙ one_up-below m (x m) (omega arith) in
        let but_two = sum_below_but_two n m top named placed (omega arith) top_below (λ i. q (sym i)) agree in
        let also_last_named = named_last in
        let top_named = named_top in
        let last_placed = placed_last in
        let top_placed = placed_top in
        omega (arith, ints)
  ]

-- the same for any size
pub maslov_by_pairs-plus_state : (n : ℕ) (o x z : ℕ → ℕ) → IsOneToOne n o → IsOneToOne n x → IsOneToOne n z
    → ((c : ℕ) → c < n → z (one_up n c) ≡ one_up n (x c))
    → maslov_by_pairs n o z ≡ (pairs n x x +ℤ pairs n o o +ℤ pos 1) -ℤ (pairs n x o +ℤ pairs n x o) -ℤ pos n
maslov_by_pairs-plus_state zero o x z oo ox oz says = refl
maslov_by_pairs-plus_state (suc m) o x z oo ox oz says = maslov_by_pairs-plus m o x z oo ox oz says
