-- The images of the members so far are added.
use Rattle.std.proofs.Common.{◌≡◌, take}
use Rattle.pentagon_map.proofs.Targets.LoopLemmas.{sum_of_images}
use Rattle.pentagon_map.proofs.images.image_sum.Given as goal

abbrev pub invariant-loop-code : goal.invariant-loop-code
invariant-loop-code l = l.sum ≡ sum_of_images l.axis l.g l.c l.fn.corner (take l.code-index l.code-items)
