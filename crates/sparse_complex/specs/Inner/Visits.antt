-- The visit of the states of one Alexander degree, by their first rows.
--     IsBranch g a b            a branch of the visit: its states are a block, `used` has their first rows as bits, and
--                               `left` is what their other weights must add to, for the Alexander degree a
--     AreFirstCells D n cells   the cells of the codes below n, in the order of their codes
--     IsBefore p q              the cell p has a lower Maslov degree than q, or the same and a lower code
--     IsAscending cells         each cell is before the next
use Rattle.std.specs.Prelude.{◌≡◌, ◌⊎◌, ℕ, ◌+◌, ◌-◌, ◌<◌, ◌≤◌, List, length, slice_index_or, take, drop, ℤ, ◌+ℤ◌, ◌-ℤ◌, ◌<ℤ◌}
use Rattle.state_rank.specs.Bijection.{IsBijection}
use Rattle.state_rank.specs.Blocks.{IsBlock}
use Rattle.state_rank.specs.States.{factorial}
use Rattle.torus_geom.specs.Marks.{Marks, size, IsGrid}
use Rattle.gradings.specs.Sums.{least, sum_before, rows_used}
use Rattle.f2_algebra.specs.Complex.{Complex}
use Rattle.sparse_complex.specs.declared.slices.Cell.{Cell}
use Rattle.sparse_complex.specs.declared.builds.Branch.{Branch}
use Rattle.sparse_complex.specs.Inner.Built.{AreCells}

pub record IsBranch (g : Marks) (a : ℤ) (b : Branch) : Type 0 where
  pub grid : IsGrid g
  pub state : IsBijection (size g) b.first
  pub within : b.column ≤ size g
  pub block : IsBlock (size g) (take b.column b.first) (drop b.column b.first) b.base
  pub count : b.count ≡ factorial (size g - b.column)
  pub used : b.used ≡ rows_used b.column b.first
  pub left : b.left +ℤ sum_before g b.column b.first ≡ a -ℤ least g

pub record AreFirstCells (D : Complex ℤ) (n : ℕ) (cells : List Cell) : Type 0 where
  pub are_cells : AreCells D n cells
  pub rising : (k : ℕ) (d : Cell) → k + 1 < length cells
      → (slice_index_or cells k d).code < (slice_index_or cells (k + 1) d).code

abbrev pub IsBefore : Cell → Cell → Type 0
IsBefore p q = (p.maslov <ℤ q.maslov) ⊎ ((p.maslov ≡ q.maslov) × (p.code < q.code))

abbrev pub IsAscending : List Cell → Type 0
IsAscending cells =
    (k : ℕ) (d : Cell) → k + 1 < length cells → IsBefore (slice_index_or cells k d) (slice_index_or cells (k + 1) d)
