-- Each row that was looked at has a row one step down.
use Rattle.std.proofs.Common.{◌≤◌, ◌<◌, ℕ, get_or}
use Rattle.hat_division.specs.MultiTable.{degrees_of, component_rank_at, step_down}
use Rattle.hat_division.specs.declared.multi_tables.MultiRow.{MultiRow}
use Rattle.hat_division.proofs.multi_quotients.have_lower.Given as goal

abbrev pub invariant-loop-row : goal.invariant-loop-row
invariant-loop-row l = (k : ℕ) (d : MultiRow) → k < l.row-index
    → 1 ≤ component_rank_at l.rows (step_down l.i (degrees_of (get_or l.quotient k d)))
