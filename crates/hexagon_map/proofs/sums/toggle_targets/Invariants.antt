-- The states so far are toggled.
use Rattle.std.proofs.Common.{◌≡◌, take}
use Rattle.f2_algebra.specs.Chain.{◌⊕◌}
use Rattle.rectangles.proofs.Sweep.LoopLemmas.{sum_of_ranks}
use Rattle.hexagon_map.proofs.sums.toggle_targets.Given as goal

abbrev pub invariant-loop-y : goal.invariant-loop-y
invariant-loop-y l = l.sum ≡ l.initial.sum ⊕ sum_of_ranks (take l.y-index l.y-items)
