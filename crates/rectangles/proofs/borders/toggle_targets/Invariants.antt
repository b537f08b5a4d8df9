-- The targets so far are toggled.
use Rattle.std.proofs.Common.{◌≡◌, take}
use Rattle.f2_algebra.specs.Chain.{◌⊕◌}
use Rattle.rectangles.proofs.Sweep.LoopLemmas.{sum_of_codes}
use Rattle.rectangles.proofs.borders.toggle_targets.Given as goal

abbrev pub invariant-loop-target : goal.invariant-loop-target
invariant-loop-target l = l.sum ≡ l.initial.sum ⊕ sum_of_codes (take l.target-index l.target-items)
