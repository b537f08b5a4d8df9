-- The rows so far are done.
use Rattle.std.proofs.Common.{take}
use Rattle.hat_division.specs.MultiTable.{step_up}
use Rattle.hat_division.proofs.Multi.MultiTableLemmas.{multi_shape}
use Rattle.hat_division.proofs.Factors.QuotientSteps.{IsCandidateFor}
use Rattle.hat_division.proofs.multi_quotients.divide_one.Given as goal

abbrev pub invariant-loop-row : goal.invariant-loop-row
invariant-loop-row l =
    IsCandidateFor multi_shape (step_up l.i) l.rows (take l.row-index l.rows) l.quotient.items
