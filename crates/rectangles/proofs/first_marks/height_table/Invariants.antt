-- The rows before the next one have their heights.
use Rattle.std.proofs.Common.{◌≡◌, ℕ, ◌<◌, [], length, slice_index, slice_index_or}
use Rattle.state_rank.specs.declared.TheConstants.{MAX_SIZE}
use Rattle.torus_geom.specs.Marks.{size}
use Rattle.rectangles.specs.FirstMarks.{first_mark_height}
use Rattle.rectangles.proofs.first_marks.height_table.Given as goal

abbrev pub invariant-loop-row : goal.invariant-loop-row
invariant-loop-row l =
    (length l.table ≡ MAX_SIZE)
    × ((r : ℕ) → r < l.row → (c : ℕ) → c < size l.g
    → slice_index (slice_index_or l.table r []) c ≡ first_mark_height l.g r c)
