-- The sum so far, and its bound.
use Rattle.std.proofs.Common.{◌≡◌, ◌*◌, ◌≤◌, take}
use Rattle.std.specs.List.{sum_by}
use Rattle.hat_division.specs.declared.tables.TheConstants.{MAX_RANK}
use Rattle.hat_division.proofs.tables.total_of.Given as goal

abbrev pub invariant-loop-row : goal.invariant-loop-row
invariant-loop-row l =
    record {
      sum : l.total ≡ sum_by (λ row. row.rank) (take l.row-index l.rows);
      bounded : l.total ≤ l.row-index * MAX_RANK;
    }
