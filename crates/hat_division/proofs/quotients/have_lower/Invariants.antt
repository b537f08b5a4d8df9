-- Each row that was looked at has a row one step down.
use Rattle.std.proofs.Common.{◌≤◌, ◌<◌, ℕ, pos, get_or}
use Rattle.std.specs.Prelude.{◌-ℤ◌}
use Rattle.hat_division.specs.Product.{rank_at}
use Rattle.hat_division.specs.declared.tables.TableRow.{TableRow}
use Rattle.hat_division.proofs.quotients.have_lower.Given as goal

abbrev pub invariant-loop-row : goal.invariant-loop-row
invariant-loop-row l = (k : ℕ) (d : TableRow) → k < l.row-index
    → 1 ≤ rank_at l.rows ((get_or l.quotient k d).m -ℤ pos 1) ((get_or l.quotient k d).a -ℤ pos 1)
