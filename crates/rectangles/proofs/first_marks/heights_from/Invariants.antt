-- The columns before c have their heights.
use Rattle.std.proofs.Common.{◌≡◌, ℕ, ◌<◌, length, slice_index}
use Rattle.state_rank.specs.declared.TheConstants.{MAX_SIZE}
use Rattle.rectangles.specs.FirstMarks.{first_mark_height}
use Rattle.rectangles.proofs.first_marks.heights_from.Given as goal

abbrev pub invariant-loop-c : goal.invariant-loop-c
invariant-loop-c l =
    (length l.heights ≡ MAX_SIZE)
    × ((c : ℕ) → c < l.c → slice_index l.heights c ≡ first_mark_height l.g l.row c)
