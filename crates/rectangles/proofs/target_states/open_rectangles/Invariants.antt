use Rattle.std.proofs.Common.{◌≡◌, ℕ, ◌<◌, length, slice_index, if◌then◌else◌}
use Rattle.std.specs.Int.{bit_at}
use Rattle.rectangles.specs.Inner.Open.{is_open}
use Rattle.state_rank.specs.declared.TheConstants.{MAX_SIZE}
use Rattle.rectangles.proofs.target_states.open_rectangles.Given as goal

abbrev pub invariant-loop-a : goal.invariant-loop-a
invariant-loop-a l =
    (length l.opens ≡ MAX_SIZE)
    × ((a : ℕ) → a < l.a → (b : ℕ) → b < length l.x
    → bit_at (slice_index l.opens a) b ≡ (if is_open l.marks l.x a b then 1 else 0))
