-- The rows so far are done.
use Rattle.std.proofs.Common.{take}
use Rattle.hat_division.proofs.Factors.BigradedTables.{bigraded_shape, bidegree_up}
use Rattle.hat_division.proofs.Factors.QuotientSteps.{IsCandidateFor}
use Rattle.hat_division.proofs.quotients.divide_one.Given as goal

abbrev pub invariant-loop-row : goal.invariant-loop-row
invariant-loop-row l = IsCandidateFor bigraded_shape bidegree_up l.rows (take l.row-index l.rows) l.quotient.items
