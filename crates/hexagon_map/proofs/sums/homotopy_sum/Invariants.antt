-- The members so far are added.
use Rattle.std.proofs.Common.{◌≡◌, take}
use Rattle.hexagon_map.proofs.Targets.LoopSums.{sum_of_homotopies}
use Rattle.hexagon_map.proofs.sums.homotopy_sum.Given as goal

abbrev pub invariant-loop-code : goal.invariant-loop-code
invariant-loop-code l = l.sum ≡ sum_of_homotopies l.axis l.g l.c l.fn.corner (take l.code-index l.code-items)
