-- The borders of the members so far are added.
use Rattle.std.proofs.Common.{◌≡◌, take}
use Rattle.rectangles.proofs.Sweep.LoopLemmas.{sum_of_borders}
use Rattle.rectangles.proofs.borders.border.Given as goal

abbrev pub invariant-loop-code : goal.invariant-loop-code
invariant-loop-code l = l.sum ≡ sum_of_borders l.g (take l.code-index l.code-items)
