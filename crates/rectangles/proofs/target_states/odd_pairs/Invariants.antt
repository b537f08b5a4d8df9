use Rattle.std.proofs.Common.{◌≡◌, ℕ, ◌<◌, length, slice_index}
use Rattle.std.specs.Int.{bit_at}
use Rattle.rectangles.specs.Inner.Open.{odd_bit}
use Rattle.state_rank.specs.declared.TheConstants.{MAX_SIZE}
use Rattle.rectangles.proofs.target_states.odd_pairs.Given as goal

abbrev pub invariant-loop-a : goal.invariant-loop-a
invariant-loop-a l =
    (length l.odds ≡ MAX_SIZE)
    × ((a : ℕ) → a < l.a → (b : ℕ) → b < length l.x
    → bit_at (slice_index l.odds a) (slice_index l.x b) ≡ odd_bit l.opens a b)
