-- Transposing carries steps to steps and keeps degrees, so that the transposed grid has the same ranks.
use Rattle.std.proofs.Common.{◌↔◌, ℕ, ℤ, refl}
use Rattle.state_rank.specs.States.{transpose}
use Rattle.torus_geom.specs.Inner.CodeHomology.{IsHomologyRank}
use Rattle.torus_geom.specs.Marks.{Marks, size, IsGrid}
use Rattle.torus_geom.specs.Transposed.{transposed}
use Rattle.grid_moves.proofs.Exchanged.TransposedGrids.{size-transposed, transpose_AreInverse}
use Rattle.grid_moves.proofs.Turned.ComponentLemmas.{alexander_same}
use Rattle.pentagon_map.proofs.Degrees.KeptDegrees.{components-transposed, maslov_o-transposed, maslov_x-transposed}
use Rattle.pentagon_map.proofs.Rows.Transposing.{transposed_steps}
use Rattle.grid_symmetry.proofs.CarriedRanks.{CarriesSteps, KeepsDegrees, rank-carried}

pub transposed_CarriesSteps : (g : Marks) → IsGrid g → CarriesSteps g (transposed g) transpose
transposed_CarriesSteps g s = record {
  same_size = size-transposed g;
  inverse = transpose_AreInverse (size g);
  steps = transposed_steps g s;
}

pub transposed_KeepsDegrees : (g : Marks) → IsGrid g → KeepsDegrees g (transposed g) transpose
transposed_KeepsDegrees g s x sx =
    let o = maslov_o-transposed g (size g) refl s x sx in
    let by_x = maslov_x-transposed g (size g) refl s x sx in
    let a = alexander_same g (transposed g) x (transpose x) (size-transposed g) (components-transposed g s) o by_x in
    λ i. (o i, a i)

-- The transposed grid has the same ranks.
pub rank-transposed : (g : Marks) → IsGrid g → (m a : ℤ) (d : ℕ)
    → IsHomologyRank (transposed g) m a d ↔ IsHomologyRank g m a d
rank-transposed g s =
    rank-carried g (transposed g) transpose (transposed_CarriesSteps g s) (transposed_KeepsDegrees g s)
