-- The number of components of a grid whose columns are renamed, and when a state of another grid has the same
-- degrees.
use Rattle.std.proofs.Common.{◌≡◌, ℕ, ◌<◌, List, slice_index, ap, subst, ◌∙◌, sym, arith}
use Rattle.std.proofs.Math.IntN.{pos, ◌-ℤ◌}
use Rattle.std.proofs.lemmas.Int.{ints}
use Rattle.std.specs.Prelude.{int_div}
use Rattle.state_rank.specs.Bijection.{column_of}
use Rattle.state_rank.proofs.BijectionLemmas.{IsOneToOne, one_to_one, column_of-is, row-column_of}
use Rattle.torus_geom.specs.Counts.{count_below}
use Rattle.torus_geom.specs.Marks.{Marks, size, IsGrid}
use Rattle.torus_geom.specs.Components.{column_after, is_first, components}
use Rattle.torus_geom.specs.Degrees.{maslov_o, maslov_x, alexander}
use Rattle.torus_geom.proofs.Cycles.CycleLemmas.{PicksOne}
use Rattle.grid_moves.proofs.Turned.CycleCounts.{same_cycles, same_cycles_along}
use Rattle.torus_geom.proofs.Cycles.ComponentLemmas.{column_after_one, is_first_picks, components-count}

module _ (g : Marks) (grid : IsGrid g) where
  -- the O of the next column is in the row of the X
  pub row-column_after : (c : ℕ) → c < size g → slice_index g.o (column_after g c) ≡ slice_index g.x c
  row-column_after c l =
      row-column_of (size g) (slice_index g.o) (one_to_one (size g) g.o grid.o) (slice_index g.x c) (grid.x.small c l)

module _ (g h : Marks) (sg : IsGrid g) (sh : IsGrid h) (e : size h ≡ size g) (r : ℕ → ℕ)
    (one : IsOneToOne (size g) r) where
  o_one : IsOneToOne (size g) (slice_index h.o)
  o_one = let R : ℕ → Type 0 = λ m. IsOneToOne m (slice_index h.o) in subst R e (one_to_one (size h) h.o sh.o)

  step_one : IsOneToOne (size g) (column_after h)
  step_one = let P : ℕ → Type 0 = λ m. IsOneToOne m (column_after h) in subst P e (column_after_one h sh)

  picks : PicksOne (size g) (column_after h) (is_first h)
  picks = let Q : ℕ → Type 0 = λ m. PicksOne m (column_after h) (is_first h) in subst Q e (is_first_picks h sh)

  -- the X of column c and the O of column d are in one row
  step_is : (c d : ℕ) → d < size g → slice_index h.x c ≡ slice_index h.o d → column_after h c ≡ d
  step_is c d l meet = ap (λ m. column_of m (slice_index h.o) (slice_index h.x c)) e
      ∙ column_of-is (size g) (slice_index h.o) o_one d (slice_index h.x c) l (sym meet)

  -- A renaming r of the columns of g by those of h that carries the walk of g to that of h.
  pub components-along : ((c : ℕ) → c < size g → slice_index h.x (r c) ≡ slice_index h.o (r (column_after g c)))
      → components h ≡ components g
  components-along meet =
      let of_h : pos (components h) ≡ pos (components g) =
      components-count h ∙ ap (λ m. count_below m (is_first h)) e
      ∙ sym (same_cycles_along (size g) (column_after g) (column_after h) r (column_after_one g sg) step_one one
      (λ c l. step_is (r c) (r (column_after g c)) (one.small (column_after g c) ((column_after_one g sg).small c l))
      (meet c l))
      (is_first g) (is_first h) (is_first_picks g sg) picks)
      ∙ sym (components-count g) in
      omega (arith, ints)

  -- The same if the walk of h goes round the cycles of g the other way.
  pub components-back : ((c : ℕ) → c < size g → slice_index h.x (r (column_after g c)) ≡ slice_index h.o (r c))
      → components h ≡ components g
  components-back meet =
      let of_h : pos (components h) ≡ pos (components g) =
      components-count h ∙ ap (λ m. count_below m (is_first h)) e
      ∙ sym (same_cycles (size g) (column_after g) (column_after h) r (column_after_one g sg) step_one one
      (λ c l. step_is (r (column_after g c)) (r c) (one.small c l) (meet c l))
      (is_first g) (is_first h) (is_first_picks g sg) picks)
      ∙ sym (components-count g) in
      omega (arith, ints)

-- if size, components and both Maslov degrees agree, so does the Alexander degree
pub alexander_same : (g h : Marks) (x y : List ℕ) → size h ≡ size g → components h ≡ components g
    → maslov_o h y ≡ maslov_o g x → maslov_x h y ≡ maslov_x g x → alexander h y ≡ alexander g x
unfolding alexander
alexander_same g h x y es ec eo ex = λ i. int_div (eo i -ℤ ex i -ℤ (pos (es i) -ℤ pos (ec i))) (pos 2)
