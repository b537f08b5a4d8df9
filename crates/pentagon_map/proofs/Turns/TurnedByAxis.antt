-- A turn carries the image of a chain to that of the turned chain, for columns and for rows: transposing makes a turn
-- of the one kind a turn of the other.
use Rattle.std.proofs.Common.{List, ap, arith, inl, inr, refl, slice_index, sym, ℕ, ◌<◌, ◌∙◌, ◌≡◌, ◌≤◌}
use Rattle.std.proofs.lemmas.Bool.{cases_lt}
use Rattle.f2_algebra.proofs.Chains.Sets.{same_chain}
use Rattle.f2_algebra.specs.Chain.{Chain, holds}
use Rattle.state_rank.proofs.BijectionLemmas.{one_to_one, same_list}
use Rattle.state_rank.proofs.Pigeonhole.{onto}
use Rattle.state_rank.proofs.RankLemmas.{IsBijection-unrank}
use Rattle.state_rank.specs.Bijection.{IsBijection}
use Rattle.state_rank.specs.States.{factorial, rank, transpose, unrank}
use Rattle.torus_geom.proofs.TransposeLemmas.{IsBijection-transposed, IsGrid-transposed}
use Rattle.torus_geom.proofs.Circles.TurnLemmas.{composed_one}
use Rattle.torus_geom.specs.Marks.{IsGrid, Marks, size}
use Rattle.torus_geom.specs.Transposed.{transposed}
use Rattle.grid_moves.proofs.Turned.CarriedChains.{AreInverse-back, holds-carried, moved-below, moved-past, moved-rank, moved-undone}
use Rattle.grid_moves.proofs.Turned.TurnLemmas.{IsBijection-turned_rows, IsGrid-turned, length-turned_rows}
use Rattle.grid_moves.proofs.Turned.TurnedStates.{IsBijection-turned_state, opposite, turned_AreInverse}
use Rattle.grid_moves.specs.Inner.CodeCarried.{moved, transposed_chain, turned_chain}
use Rattle.grid_moves.specs.Carried.{target_column, turned_place, turned_state}
use Rattle.grid_moves.specs.Moves.{moved_row, turned, turned_rows}
use Rattle.grid_moves.specs.declared.commutations.Axis.{Axis}
use Rattle.grid_moves.specs.declared.commutations.Axis.TheVariants.{Cols, Rows}
use Rattle.grid_moves.specs.declared.turns.Side.{Side}
use Rattle.grid_moves.specs.declared.turns.Side.TheVariants.{Down, Left, Right, Up}
use Rattle.pentagon_map.proofs.ChainMap.ImageOfBorder.{image_by_columns}
use Rattle.pentagon_map.proofs.Rows.ImageByRows.{image-by_columns, image-by_rows}
use Rattle.grid_moves.proofs.Exchanged.TransposedGrids.{size-transposed, transpose-at, transpose_AreInverse}
use Rattle.grid_moves.proofs.Turned.Shifts.{IsShift-moved_row, IsShift-target_column}
use Rattle.grid_moves.proofs.Turned.TurnedSteps.{at_target}
use Rattle.pentagon_map.proofs.Turns.TurnedImages.{image_by_columns-turned}
use Rattle.pentagon_map.specs.Inner.CodeImages.{image}
use Rattle.pentagon_map.specs.declared.Corner.{Corner}

-- the side to which the transposed grid is turned
abbrev pub flipped : Side → Side
flipped Left = Down
flipped Right = Up
flipped Up = Right
flipped Down = Left

flipped-flipped : (side : Side) → flipped (flipped side) ≡ side
flipped-flipped Left = refl
flipped-flipped Right = refl
flipped-flipped Up = refl
flipped-flipped Down = refl

target_column-flipped : (side : Side) (n c : ℕ) → target_column (flipped side) n c ≡ moved_row side n c
target_column-flipped Left n c = refl
target_column-flipped Right n c = refl
target_column-flipped Up n c = refl
target_column-flipped Down n c = refl

moved_row-flipped : (side : Side) (n c : ℕ) → moved_row (flipped side) n c ≡ target_column side n c
moved_row-flipped Left n c = refl
moved_row-flipped Right n c = refl
moved_row-flipped Up n c = refl
moved_row-flipped Down n c = refl

-- a turned list, transposed
pub transpose-turned_rows : (side : Side) (n : ℕ) → 2 ≤ n → (rows : List ℕ) → IsBijection n rows
    → transpose (turned_rows side n rows) ≡ turned_rows (flipped side) n (transpose rows)
transpose-turned_rows side n big rows s =
    let y : List ℕ = turned_rows side n rows in
    let sy = IsBijection-turned_rows side n rows s in
    let su = IsBijection-transposed n rows s in
    let sv = IsBijection-turned_rows (flipped side) n (transpose rows) su in
    let sf = IsShift-target_column side n in
    let sh = IsShift-moved_row side n in
    let both = composed_one n (moved_row side n) (slice_index rows) sh.one (one_to_one n rows s) in
    same_list n (transpose y) (turned_rows (flipped side) n (transpose rows))
    (IsBijection-transposed n y sy).long sv.long (λ r l.
    let (c, lc, is) = onto n (λ c. moved_row side n (slice_index rows c)) both.small both.apart r l in
    let lr = s.small c lc in
    ap (slice_index (transpose y)) (sym is ∙ sym (at_target side n rows c lc))
    ∙ transpose-at n y sy (target_column side n c) (sf.one.small c lc)
    ∙ sym (moved_row-flipped side n c)
    ∙ ap (moved_row (flipped side) n) (sym (transpose-at n rows s c lc))
    ∙ sym (at_target (flipped side) n (transpose rows) (slice_index rows c) lr)
    ∙ ap (slice_index (turned_rows (flipped side) n (transpose rows)))
    (target_column-flipped side n (slice_index rows c) ∙ is))

-- of states
transpose-turned_state : (side : Side) (n : ℕ) → 2 ≤ n → (x : List ℕ) → IsBijection n x
    → transpose (turned_state side x) ≡ turned_state (flipped side) (transpose x)
transpose-turned_state side n big x sx =
    ap (λ m. transpose (turned_rows side m x)) sx.long
    ∙ transpose-turned_rows side n big x sx
    ∙ ap (λ m. turned_rows (flipped side) m (transpose x)) (sym (IsBijection-transposed n x sx).long)

-- of grids
transposed-turned : (side : Side) (g : Marks) → IsGrid g
    → transposed (turned side g) ≡ turned (flipped side) (transposed g)
transposed-turned side g s =
    (λ i. record {
      o = transpose-turned_rows side (size g) s.is_size.least g.o s.o i;
      x = transpose-turned_rows side (size g) s.is_size.least g.x s.x i;
    })
    ∙ ap (λ m. record {
      o = turned_rows (flipped side) m (transpose g.o);
      x = turned_rows (flipped side) m (transpose g.x);
    }) (sym (size-transposed g))

-- of chains
module _ (side : Side) (n : ℕ) (big : 2 ≤ n) where
  codes_turned : (c : ℕ)
      → moved n transpose (moved n (turned_state side) c) ≡ moved n (turned_state (flipped side)) (moved n transpose c)
  codes_turned c = elim (cases_lt c (factorial n)) [
    | inl l ↦
        let x = unrank n c in
        let sx = IsBijection-unrank n c l in
        ap (moved n transpose) (moved-below n (turned_state side) c l)
        ∙ moved-rank n transpose (turned_state side x) (IsBijection-turned_state side n x sx)
        ∙ ap rank (transpose-turned_state side n big x sx)
        ∙ sym (moved-rank n (turned_state (flipped side)) (transpose x) (IsBijection-transposed n x sx))
        ∙ ap (moved n (turned_state (flipped side))) (sym (moved-below n transpose c l))
    | inr l ↦
        ap (moved n transpose) (moved-past n (turned_state side) c l) ∙ moved-past n transpose c l
        ∙ sym (ap (moved n (turned_state (flipped side))) (moved-past n transpose c l)
        ∙ moved-past n (turned_state (flipped side)) c l)
  ]

  pub transposed_chain-turned : (z : Chain)
      → transposed_chain n (turned_chain side n z) ≡ turned_chain (flipped side) n (transposed_chain n z)
  transposed_chain-turned z =
      let t = transpose_AreInverse n in
      let there = turned_AreInverse side n in
      let flip = turned_AreInverse (flipped side) n in
      same_chain _ _ (λ q.
      let back : ℕ → ℕ = moved n (turned_state (opposite side)) in
      let back' : ℕ → ℕ = moved n (turned_state (opposite (flipped side))) in
      let u : ℕ = back (moved n transpose q) in
      let q_is : q ≡ moved n (turned_state (flipped side)) (moved n transpose u) =
      sym (moved-undone n transpose transpose t q)
      ∙ ap (moved n transpose) (sym (moved-undone n (turned_state (opposite side)) (turned_state side)
      (AreInverse-back n (turned_state side) (turned_state (opposite side)) there) (moved n transpose q)))
      ∙ codes_turned u in
      holds-carried n transpose transpose t (turned_chain side n z) q
      ∙ holds-carried n (turned_state side) (turned_state (opposite side)) there z (moved n transpose q)
      ∙ ap (holds z) (sym (ap (moved n transpose) (ap back' q_is
      ∙ moved-undone n (turned_state (flipped side)) (turned_state (opposite (flipped side))) flip
      (moved n transpose u)) ∙ moved-undone n transpose transpose t u))
      ∙ sym (holds-carried n (turned_state (flipped side)) (turned_state (opposite (flipped side))) flip
      (transposed_chain n z) q
      ∙ holds-carried n transpose transpose t z (back' q)))

-- A turn carries the image of a chain to the image of the turned chain, at the turned place.
pub image-turned : (axis : Axis) (side : Side) (g : Marks) → IsGrid g → (c : ℕ) → c < size g
    → (corner : Corner) (z : Chain)
    → image axis (turned side g) (turned_place axis side (size g) c) corner (turned_chain side (size g) z)
    ≡ turned_chain side (size g) (image axis g c corner z)
image-turned Cols side g s c lc corner z =
    image-by_columns (turned side g) (target_column side (size g) c) corner (turned_chain side (size g) z)
    ∙ image_by_columns-turned side g s c lc corner z
    ∙ ap (turned_chain side (size g)) (sym (image-by_columns g c corner z))
image-turned Rows side g s c lc corner z =
    let n : ℕ = size g in
    let t : Marks = transposed g in
    let d : ℕ = moved_row side n c in
    let big = s.is_size.least in
    let n_is = size-transposed g in
    let size_is : size (turned side g) ≡ n = length-turned_rows side n g.o in
    let w : Chain = transposed_chain n z in
    image-by_rows (turned side g) (IsGrid-turned side g s) d corner (turned_chain side n z)
    ∙ ap (λ m. transposed_chain m (image_by_columns (transposed (turned side g)) d corner
    (transposed_chain m (turned_chain side n z)))) size_is
    ∙ ap (λ h. transposed_chain n (image_by_columns h d corner (transposed_chain n (turned_chain side n z))))
    (transposed-turned side g s)
    ∙ ap (λ v. transposed_chain n (image_by_columns (turned (flipped side) t) d corner v))
    (transposed_chain-turned side n big z)
    ∙ ap (λ e. transposed_chain n (image_by_columns (turned (flipped side) t) e corner
    (turned_chain (flipped side) n w))) (sym (target_column-flipped side n c))
    ∙ ap (transposed_chain n)
    (ap (λ m. image_by_columns (turned (flipped side) t) (target_column (flipped side) m c) corner
    (turned_chain (flipped side) m w)) (sym n_is)
    ∙ image_by_columns-turned (flipped side) t (IsGrid-transposed g s) c (omega arith) corner w
    ∙ ap (λ m. turned_chain (flipped side) m (image_by_columns t c corner w)) n_is)
    ∙ transposed_chain-turned (flipped side) n big (image_by_columns t c corner w)
    ∙ ap (λ k. turned_chain k n (transposed_chain n (image_by_columns t c corner w))) (flipped-flipped side)
    ∙ ap (turned_chain side n) (sym (image-by_rows g s c corner z))
