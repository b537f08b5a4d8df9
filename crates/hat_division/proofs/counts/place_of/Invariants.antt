-- Each row that was looked at stands before the row.
use Rattle.std.proofs.Common.{◌≡◌, ℕ, ◌<◌, true, get_or}
use Rattle.hat_division.specs.DegreeLists.{stands_before_by_component}
use Rattle.hat_division.specs.MultiTable.{degrees_of}
use Rattle.hat_division.specs.declared.multi_tables.MultiRow.{MultiRow}
use Rattle.hat_division.proofs.counts.place_of.Given as goal

abbrev pub invariant-loop-i : goal.invariant-loop-i
invariant-loop-i l =
    (k : ℕ) (d : MultiRow) → k < l.i
    → stands_before_by_component (degrees_of (get_or l.rows k d)) (degrees_of l.row) ≡ true
