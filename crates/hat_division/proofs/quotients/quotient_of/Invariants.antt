-- So many factors are divided out.
use Rattle.hat_division.specs.Product.{IsQuotient}
use Rattle.hat_division.proofs.quotients.quotient_of.Given as goal

abbrev pub invariant-loop : goal.invariant-loop
invariant-loop l = IsQuotient l.counter l.t l.left.items
