-- `Over` carries the state of the upper right corners of the X to that of the exchanged grid, and `Under` that of
-- the lower left corners, for columns and for rows: transposing carries each to that of the transposed grid.
use Rattle.std.proofs.Common.{List, ap, arith, refl, slice_index, subst, sym, true, ℕ, ◌<◌, ◌∙◌, ◌≡◌}
use Rattle.std.proofs.lemmas.List.Edits.{length-swap}
use Rattle.f2_algebra.proofs.Chains.Sums.{sum_over-single}
use Rattle.f2_algebra.specs.Chain.{single}
use Rattle.state_rank.proofs.BijectionLemmas.{column_of-below, one_to_one, row-column_of, same_list}
use Rattle.state_rank.proofs.RankLemmas.{unrank-rank}
use Rattle.state_rank.specs.Bijection.{IsBijection, column_of}
use Rattle.state_rank.specs.States.{rank, transpose, unrank}
use Rattle.torus_geom.proofs.TransposeLemmas.{IsBijection-transposed, IsGrid-transposed, slice_index-transpose}
use Rattle.torus_geom.proofs.Circles.TurnLemmas.{one_down-one_up, one_down_below, one_up-one_down, one_up_below}
use Rattle.torus_geom.specs.Front.{minus_state, plus_state}
use Rattle.torus_geom.specs.Range.{one_down, one_up}
use Rattle.torus_geom.specs.Marks.{IsGrid, Marks, size}
use Rattle.torus_geom.specs.Transposed.{transposed}
use Rattle.grid_moves.proofs.Turned.CarriedChains.{carried-single}
use Rattle.grid_moves.proofs.Exchanged.SwapGridLemmas.{IsGrid-swapped_columns}
use Rattle.grid_moves.specs.Inner.CodeCarried.{transposed_chain}
use Rattle.grid_moves.specs.Moves.{are_commuting, swapped, swapped_columns}
use Rattle.grid_moves.specs.declared.commutations.Axis.{Axis}
use Rattle.grid_moves.specs.declared.commutations.Axis.TheVariants.{Cols, Rows}
use Rattle.pentagon_map.proofs.FrontStates.MinusState.{column_image-minus_state}
use Rattle.pentagon_map.proofs.FrontStates.PlusState.{IsBijection-plus_state, column_image-plus_state, length-plus_state, plus_state-at}
use Rattle.grid_moves.proofs.Exchanged.TransposedGrids.{size-transposed, transpose-at, transpose_AreInverse}
use Rattle.pentagon_map.specs.Inner.CodeImages.{column_image, image, image_of_state}
use Rattle.pentagon_map.specs.declared.Corner.{Corner}
use Rattle.pentagon_map.specs.declared.Corner.TheVariants.{Over, Under}

-- transposing carries the upper right corners to those of the transposed grid
pub plus_state-transposed : (g : Marks) → IsGrid g → transpose (plus_state g) ≡ plus_state (transposed g)
plus_state-transposed g s =
    let n : ℕ = size g in
    let y : List ℕ = plus_state g in
    let sy = IsBijection-plus_state g s in
    let one = one_to_one n g.x s.x in
    same_list n (transpose y) (plus_state (transposed g)) (IsBijection-transposed n y sy).long
    (length-plus_state n (transposed g) (size-transposed g)) (λ r l.
    let k = one_down_below n r l in
    let d : ℕ = column_of n (slice_index g.x) (one_down n r) in
    let ld = column_of-below n (slice_index g.x) one (one_down n r) k in
    let c : ℕ = one_up n d in
    let lc = one_up_below n d ld in
    let is : slice_index y c ≡ r =
    plus_state-at n g refl c lc
    ∙ ap (λ t. one_up n (slice_index g.x t)) (one_down-one_up n d ld)
    ∙ ap (one_up n) (row-column_of n (slice_index g.x) one (one_down n r) k)
    ∙ one_up-one_down n r l in
    ap (slice_index (transpose y)) (sym is)
    ∙ transpose-at n y sy c lc
    ∙ sym (plus_state-at n (transposed g) (size-transposed g) r l
    ∙ ap (one_up n) (slice_index-transpose n g.x (one_down n r) s.x.long k)))

-- the image of a chain of one state
pub image-single : (axis : Axis) (g : Marks) (c : ℕ) (corner : Corner) (x : List ℕ) → IsBijection (size g) x
    → image axis g c corner (single (rank x)) ≡ image_of_state axis g c corner x
unfolding image
image-single axis g c corner x sx =
    sum_over-single (rank x) (λ code. image_of_state axis g c corner (unrank (size g) code))
    ∙ ap (image_of_state axis g c corner) (unrank-rank (size g) x sx)

module _ (g : Marks) (s : IsGrid g) (c : ℕ) (lc : c < size g) (h : are_commuting Rows g c ≡ true) where
  abbrev n : ℕ
  n = size g

  abbrev t : Marks
  t = transposed g

  st : IsGrid t
  st = IsGrid-transposed g s

  lt : c < size t
  lt = let e = size-transposed g in omega arith

  same_size : size (swapped_columns t c) ≡ n
  same_size = length-swap t.o (one_down (size t) c) c ∙ size-transposed g

  there : IsGrid (swapped_columns t c)
  there = IsGrid-swapped_columns t c st lt

  rows-plus_state : image_of_state Rows g c Over (plus_state g) ≡ single (rank (plus_state (swapped Rows g c)))
  rows-plus_state =
      ap (λ y. transposed_chain n (column_image t c Over y)) (plus_state-transposed g s)
      ∙ ap (transposed_chain n) (column_image-plus_state t st c lt h)
      ∙ carried-single n transpose transpose (transpose_AreInverse n) (plus_state (swapped_columns t c))
      (subst (λ m. IsBijection m (plus_state (swapped_columns t c))) same_size
      (IsBijection-plus_state (swapped_columns t c) there))
      ∙ ap (λ y. single (rank y)) (plus_state-transposed (swapped_columns t c) there)

  rows-minus_state : image_of_state Rows g c Under (minus_state g) ≡ single (rank (minus_state (swapped Rows g c)))
  rows-minus_state =
      ap (transposed_chain n) (column_image-minus_state t st c lt h)
      ∙ carried-single n transpose transpose (transpose_AreInverse n) (swapped_columns t c).x
      (subst (λ m. IsBijection m (swapped_columns t c).x) same_size there.x)

-- `Over` carries x+ to x+.
pub image-plus_state : (axis : Axis) (g : Marks) → IsGrid g → (c : ℕ) → c < size g → are_commuting axis g c ≡ true
    → image axis g c Over (single (rank (plus_state g))) ≡ single (rank (plus_state (swapped axis g c)))
image-plus_state Cols g s c l h =
    image-single Cols g c Over (plus_state g) (IsBijection-plus_state g s) ∙ column_image-plus_state g s c l h
image-plus_state Rows g s c l h =
    image-single Rows g c Over (plus_state g) (IsBijection-plus_state g s) ∙ rows-plus_state g s c l h

-- `Under` carries x- to x-.
pub image-minus_state : (axis : Axis) (g : Marks) → IsGrid g → (c : ℕ) → c < size g → are_commuting axis g c ≡ true
    → image axis g c Under (single (rank (minus_state g))) ≡ single (rank (minus_state (swapped axis g c)))
image-minus_state Cols g s c l h = image-single Cols g c Under (minus_state g) s.x ∙ column_image-minus_state g s c l h
image-minus_state Rows g s c l h = image-single Rows g c Under (minus_state g) s.x ∙ rows-minus_state g s c l h
