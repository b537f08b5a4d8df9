-- The exchange of two columns, or rows, twice gives the grid back.
use Rattle.std.proofs.Common.{ap, arith, swap, ℕ, ◌<◌, ◌∙◌, ◌≡◌}
use Rattle.std.proofs.lemmas.List.Edits.{length-swap}
use Rattle.state_rank.proofs.SwapLemmas.{swap-swap}
use Rattle.torus_geom.proofs.TransposeLemmas.{IsGrid-transposed}
use Rattle.torus_geom.proofs.Circles.TurnLemmas.{one_down_below}
use Rattle.torus_geom.specs.Range.{one_down}
use Rattle.torus_geom.specs.Marks.{IsGrid, Marks, size}
use Rattle.torus_geom.specs.Transposed.{transposed}
use Rattle.grid_moves.proofs.Exchanged.SwapGridLemmas.{IsGrid-swapped_columns}
use Rattle.grid_moves.proofs.Exchanged.TransposedGrids.{size-transposed, transposed-transposed}
use Rattle.grid_moves.specs.Moves.{swapped, swapped_columns}
use Rattle.grid_moves.specs.declared.commutations.Axis.{Axis}
use Rattle.grid_moves.specs.declared.commutations.Axis.TheVariants.{Cols, Rows}

columns-twice : (g : Marks) → IsGrid g → (c : ℕ) → c < size g → swapped_columns (swapped_columns g c) c ≡ g
columns-twice g s c l =
    let k = one_down_below (size g) c l in
    ap (λ m. record {
      o = swap (swap g.o (one_down (size g) c) c) (one_down m c) c;
      x = swap (swap g.x (one_down (size g) c) c) (one_down m c) c;
    }) (length-swap g.o (one_down (size g) c) c)
    ∙ (λ i. record {
      o = swap-swap (size g) g.o s.o (one_down (size g) c) c k l i;
      x = swap-swap (size g) g.x s.x (one_down (size g) c) c k l i;
    })

-- An exchange undoes itself.
pub swapped-swapped : (axis : Axis) (g : Marks) → IsGrid g → (c : ℕ) → c < size g
    → swapped axis (swapped axis g c) c ≡ g
swapped-swapped Cols g s c l = columns-twice g s c l
swapped-swapped Rows g s c l =
    let t : Marks = transposed g in
    let st = IsGrid-transposed g s in
    let lt : c < size t = let e = size-transposed g in omega arith in
    ap (λ h. transposed (swapped_columns h c))
    (transposed-transposed (swapped_columns t c) (IsGrid-swapped_columns t c st lt))
    ∙ ap transposed (columns-twice t st c lt)
    ∙ transposed-transposed g s

-- the exchanged grid has the same size
pub size-swapped : (axis : Axis) (g : Marks) (c : ℕ) → size (swapped axis g c) ≡ size g
size-swapped Cols g c = length-swap g.o (one_down (size g) c) c
size-swapped Rows g c =
    let t : Marks = transposed g in
    size-transposed (swapped_columns t c) ∙ length-swap t.o (one_down (size t) c) c ∙ size-transposed g

-- and is a grid
pub IsGrid-swapped : (axis : Axis) (g : Marks) → IsGrid g → (c : ℕ) → c < size g → IsGrid (swapped axis g c)
IsGrid-swapped Cols g s c l = IsGrid-swapped_columns g c s l
IsGrid-swapped Rows g s c l =
    let t : Marks = transposed g in
    let st = IsGrid-transposed g s in
    let lt : c < size t = let e = size-transposed g in omega arith in
    IsGrid-transposed (swapped_columns t c) (IsGrid-swapped_columns t c st lt)
