-- No row that was looked at stands in the bidegree.
use Rattle.std.proofs.Common.{◌≡◌, ℕ, ◌<◌, false, get_or}
use Rattle.hat_division.specs.Product.{stands_at}
use Rattle.hat_division.specs.declared.tables.TableRow.{TableRow}
use Rattle.hat_division.proofs.products.rank_at.Given as goal

abbrev pub invariant-loop-row : goal.invariant-loop-row
invariant-loop-row l = (k : ℕ) (d : TableRow) → k < l.row-index → stands_at (get_or l.rows k d) l.m l.a ≡ false
