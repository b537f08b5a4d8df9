-- The factors of the first components are divided out.
use Rattle.hat_division.specs.MultiTable.{steps_below, IsQuotientBy}
use Rattle.hat_division.proofs.multi_quotients.quotient_of.Given as goal

abbrev pub invariant-loop-i : goal.invariant-loop-i
invariant-loop-i l = IsQuotientBy (steps_below l.exps l.i) l.t l.left.items
