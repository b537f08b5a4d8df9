-- Each row that was looked at stands before the next.
use Rattle.hat_division.proofs.OrderLemmas.{AreOrderedBelow}
use Rattle.hat_division.proofs.tables.are_ordered.Given as goal

abbrev pub invariant-loop-i : goal.invariant-loop-i
invariant-loop-i l = AreOrderedBelow l.rows l.i
