-- No row that was looked at stands in these degrees.
use Rattle.std.proofs.Common.{◌≡◌, ◌<◌, ℕ, false, ◌&&◌, get_or}
use Rattle.std.specs.Ordering.{int_eq}
use Rattle.hat_division.specs.DegreeLists.{same_degrees}
use Rattle.hat_division.specs.declared.multi_tables.MultiRow.{MultiRow}
use Rattle.hat_division.proofs.multi_quotients.component_rank_at.Given as goal

abbrev pub invariant-loop-row : goal.invariant-loop-row
invariant-loop-row l = (k : ℕ) (d : MultiRow) → k < l.row-index
    → (int_eq (get_or l.rows k d).m l.m && same_degrees (get_or l.rows k d).d l.d) ≡ false
