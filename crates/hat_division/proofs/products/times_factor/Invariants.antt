-- The ranks below the rows so far are put.
use Rattle.hat_division.specs.Inner.Products.{AreRowsPut}
use Rattle.hat_division.proofs.products.times_factor.Given as goal

abbrev pub invariant-loop-row : goal.invariant-loop-row
invariant-loop-row l = AreRowsPut l.k l.rows l.row-index l.product
