-- So many factors are divided out.
use Rattle.hat_division.specs.Factors.{copies}
use Rattle.hat_division.specs.MultiTable.{step_up, IsQuotientBy}
use Rattle.hat_division.proofs.multi_quotients.divide_power.Given as goal

abbrev pub invariant-loop : goal.invariant-loop
invariant-loop l = IsQuotientBy (copies l.counter (step_up l.i)) l.fn.rows.items l.left.items
