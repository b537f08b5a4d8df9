-- The rows so far are added.
use Rattle.std.proofs.Common.{◌*◌, ◌^◌, map, take}
use Rattle.hat_division.specs.Table.{homology_row}
use Rattle.grid_euler.specs.Euler.{alternating_sum}
use Rattle.grid_euler.specs.Inner.Sums.{AreSums, AreBounded}
use Rattle.grid_euler.proofs.sums.alternating_sums.Given as goal

abbrev pub invariant-loop-row : goal.invariant-loop-row
invariant-loop-row l = record {
  running : AreSums (alternating_sum (map homology_row (take l.row-index l.row-items))) l.sums.items;
  bounded : AreBounded (2 ^ 32 * l.row-index) l.sums.items;
}
