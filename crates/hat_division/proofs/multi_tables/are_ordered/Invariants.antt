-- Each row that was looked at stands before the next.
use Rattle.hat_division.proofs.Multi.RowOrder.{AreOrderedBelow}
use Rattle.hat_division.proofs.multi_tables.are_ordered.Given as goal

abbrev pub invariant-loop-i : goal.invariant-loop-i
invariant-loop-i l = AreOrderedBelow l.rows l.i
