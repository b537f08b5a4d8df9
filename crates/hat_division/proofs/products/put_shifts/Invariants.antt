-- The ranks so far are put.
use Rattle.hat_division.specs.Inner.Products.{AreShiftsPut}
use Rattle.hat_division.proofs.products.put_shifts.Given as goal

abbrev pub invariant-loop-i : goal.invariant-loop-i
invariant-loop-i l = AreShiftsPut l.k l.rows l.row l.i l.fn.product l.product
