-- A turn keeps the Maslov and the Alexander degree of each state, and the number of components.
-- Route: a turn to the left changes pairs by the rows of the first points alone, which cancel in the degree; to the
-- right it is undone; up and down are turns of the columns of rows.
use Rattle.std.proofs.Common.{List, ap, arith, length, refl, slice_index, subst, suc, sym, zero, ℕ, ◌<◌, ◌∙◌, ◌≡◌}
use Rattle.std.proofs.lemmas.Int.{ints}
use Rattle.state_rank.proofs.BijectionLemmas.{IsOneToOne, column_of-below, column_of-one_to_one, one_to_one}
use Rattle.state_rank.specs.Bijection.{IsBijection, column_of}
use Rattle.state_rank.specs.States.{IsState}
use Rattle.torus_geom.proofs.Pairs.PairLemmas.{maslov-by_pairs, maslov_by_pairs}
use Rattle.torus_geom.proofs.Pairs.RowPairLemmas.{maslov_by_pairs-column_of, maslov_by_pairs_same}
use Rattle.torus_geom.proofs.Circles.TurnLemmas.{column_of-one_up, composed_one, one_down-one_up, one_down_one, one_up-one_down, one_up_one, pairs-one_up}
use Rattle.torus_geom.specs.Components.{column_after, components}
use Rattle.torus_geom.specs.Degrees.{alexander, maslov, maslov_o, maslov_x}
use Rattle.torus_geom.specs.Range.{one_down, one_up}
use Rattle.torus_geom.specs.Marks.{IsGrid, Marks, size}
use Rattle.grid_moves.proofs.Turned.ComponentLemmas.{alexander_same, components-along, row-column_after}
use Rattle.grid_moves.proofs.Turned.TurnLemmas.{IsBijection-turned_rows, IsGrid-turned, length-turned_rows, slice_index-turned_rows}
use Rattle.grid_moves.proofs.Turned.TurnedStates.{IsBijection-turned_state, source-target, target_column-one_to_one, turned_state-at}
use Rattle.grid_moves.specs.Carried.{target_column, turned_state}
use Rattle.grid_moves.specs.Moves.{moved_row, source_column, turned, turned_rows}
use Rattle.grid_moves.specs.declared.turns.Side.{Side}
use Rattle.grid_moves.specs.declared.turns.Side.TheVariants.{Down, Left, Right, Up}

module _ (m : ℕ) where
  turned_left : (o x : ℕ → ℕ) → IsOneToOne (suc m) o → IsOneToOne (suc m) x
      → maslov_by_pairs (suc m) (λ c. o (one_up (suc m) c)) (λ c. x (one_up (suc m) c)) ≡ maslov_by_pairs (suc m) o x
  turned_left o x oo ox =
      let of_points = pairs-one_up m x x ox ox in
      let of_marks = pairs-one_up m o o oo oo in
      let of_both = pairs-one_up m o x oo ox in
      omega (arith, ints)

left_keeps : (n : ℕ) (o x : ℕ → ℕ) → IsOneToOne n o → IsOneToOne n x
    → maslov_by_pairs n (λ c. o (one_up n c)) (λ c. x (one_up n c)) ≡ maslov_by_pairs n o x
left_keeps zero o x oo ox = refl
left_keeps (suc m) o x oo ox = turned_left m o x oo ox

right_keeps : (n : ℕ) (o x : ℕ → ℕ) → IsOneToOne n o → IsOneToOne n x
    → maslov_by_pairs n (λ c. o (one_down n c)) (λ c. x (one_down n c)) ≡ maslov_by_pairs n o x
right_keeps n o x oo ox =
    sym (left_keeps n (λ c. o (one_down n c)) (λ c. x (one_down n c))
    (composed_one n o (one_down n) oo (one_down_one n)) (composed_one n x (one_down n) ox (one_down_one n)))
    ∙ maslov_by_pairs_same n (λ c. o (one_down n (one_up n c))) o (λ c. x (one_down n (one_up n c))) x
    (λ c l. ap o (one_down-one_up n c l)) (λ c l. ap x (one_down-one_up n c l))

up_keeps : (n : ℕ) (o x : ℕ → ℕ) → IsOneToOne n o → IsOneToOne n x
    → maslov_by_pairs n (λ c. one_up n (o c)) (λ c. one_up n (x c)) ≡ maslov_by_pairs n o x
up_keeps n o x oo ox =
    maslov_by_pairs-column_of n (λ c. one_up n (o c)) (λ c. one_up n (x c))
    (composed_one n (one_up n) o (one_up_one n) oo) (composed_one n (one_up n) x (one_up_one n) ox)
    ∙ maslov_by_pairs_same n _ (λ r. column_of n o (one_down n r)) _ (λ r. column_of n x (one_down n r))
    (column_of-one_up n o oo) (column_of-one_up n x ox)
    ∙ right_keeps n (column_of n o) (column_of n x) (column_of-one_to_one n o oo) (column_of-one_to_one n x ox)
    ∙ sym (maslov_by_pairs-column_of n o x oo ox)

down_keeps : (n : ℕ) (o x : ℕ → ℕ) → IsOneToOne n o → IsOneToOne n x
    → maslov_by_pairs n (λ c. one_down n (o c)) (λ c. one_down n (x c)) ≡ maslov_by_pairs n o x
down_keeps n o x oo ox =
    sym (up_keeps n (λ c. one_down n (o c)) (λ c. one_down n (x c)) (composed_one n (one_down n) o (one_down_one n) oo)
    (composed_one n (one_down n) x (one_down_one n) ox))
    ∙ maslov_by_pairs_same n (λ c. one_up n (one_down n (o c))) o (λ c. one_up n (one_down n (x c))) x
    (λ c l. one_up-one_down n (o c) (oo.small c l)) (λ c l. one_up-one_down n (x c) (ox.small c l))

each_side : (side : Side) (n : ℕ) (o x : ℕ → ℕ) → IsOneToOne n o → IsOneToOne n x
    → maslov_by_pairs n (λ c. moved_row side n (o (source_column side n c)))
    (λ c. moved_row side n (x (source_column side n c))) ≡ maslov_by_pairs n o x
each_side Left n o x oo ox = left_keeps n o x oo ox
each_side Right n o x oo ox = right_keeps n o x oo ox
each_side Up n o x oo ox = up_keeps n o x oo ox
each_side Down n o x oo ox = down_keeps n o x oo ox

-- of lists
maslov-turned : (side : Side) (n : ℕ) (o x : List ℕ) → IsBijection n o → IsBijection n x
    → maslov n (turned_rows side n o) (turned_state side x) ≡ maslov n o x
maslov-turned side n o x bo bx =
    maslov-by_pairs n (turned_rows side n o) (turned_state side x) (IsBijection-turned_rows side n o bo)
    (IsBijection-turned_state side n x bx)
    ∙ maslov_by_pairs_same n (slice_index (turned_rows side n o))
    (λ c. moved_row side n (slice_index o (source_column side n c))) (slice_index (turned_state side x))
    (λ c. moved_row side n (slice_index x (source_column side n c)))
    (slice_index-turned_rows side n o) (turned_state-at side n x bx.long)
    ∙ each_side side n (slice_index o) (slice_index x) (one_to_one n o bo) (one_to_one n x bx)
    ∙ sym (maslov-by_pairs n o x bo bx)

module _ (side : Side) (g : Marks) (s : IsGrid g) where
  size-turned : size (turned side g) ≡ size g
  size-turned = length-turned_rows side (size g) g.o

  -- A turn keeps the number of components.
  pub components-turned : components (turned side g) ≡ components g
  components-turned =
      let n : ℕ = size g in
      let to_target = target_column-one_to_one side n in
      let at : (rows : List ℕ) (d : ℕ) → d < n
      → slice_index (turned_rows side n rows) (target_column side n d) ≡ moved_row side n (slice_index rows d) =
      λ rows d l. slice_index-turned_rows side n rows (target_column side n d) (to_target.small d l)
      ∙ ap (λ e. moved_row side n (slice_index rows e)) (source-target side n d l) in
      components-along g (turned side g) s (IsGrid-turned side g s) size-turned (target_column side n) to_target
      (λ c l. at g.x c l ∙ ap (moved_row side n) (sym (row-column_after g s c l))
      ∙ sym (at g.o (column_after g c)
      (column_of-below n (slice_index g.o) (one_to_one n g.o s.o) (slice_index g.x c) (s.x.small c l))))

  module _ (x : List ℕ) (sx : IsState x) (e : length x ≡ size g) where
    bijection : IsBijection (size g) x
    bijection = subst (λ n. IsBijection n x) e sx.bijection

    -- A turn keeps the Maslov degree.
    pub maslov_o-turned : maslov_o (turned side g) (turned_state side x) ≡ maslov_o g x
    maslov_o-turned = ap (λ n. maslov n (turned_rows side (size g) g.o) (turned_state side x)) size-turned
        ∙ maslov-turned side (size g) g.o x s.o bijection

    maslov_x-turned : maslov_x (turned side g) (turned_state side x) ≡ maslov_x g x
    maslov_x-turned = ap (λ n. maslov n (turned_rows side (size g) g.x) (turned_state side x)) size-turned
        ∙ maslov-turned side (size g) g.x x s.x bijection

    -- And the Alexander degree.
    pub alexander-turned : alexander (turned side g) (turned_state side x) ≡ alexander g x
    alexander-turned =
        alexander_same g (turned side g) x
        (turned_state side x) size-turned components-turned maslov_o-turned maslov_x-turned
