-- What was appended and what is to come is the whole.
use Rattle.std.proofs.Common.{◌≡◌}
use Rattle.rectangles.proofs.Sweep.RowBitLemmas.{IsPushing}
use Rattle.rectangles.proofs.target_states.push_exchanges.Given as goal

abbrev pub invariant-loop-left : goal.invariant-loop-left
invariant-loop-left l =
    IsPushing l.x l.columns l.a l.rows l.fn.indices.items l.indices.items l.left
    × (l.indices.capacity ≡ l.fn.indices.capacity)

abbrev pub decreases-loop-left : goal.decreases-loop-left
decreases-loop-left l = l.left
