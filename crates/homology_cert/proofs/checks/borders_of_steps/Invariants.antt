-- the borders of the steps so far
use Rattle.std.proofs.Common.{◌≡◌, take}
use Rattle.homology_cert.specs.Inner.Checks.{step_borders}
use Rattle.homology_cert.proofs.checks.borders_of_steps.Given as goal

abbrev pub invariant-loop-pair : goal.invariant-loop-pair
invariant-loop-pair l = l.borders.items ≡ step_borders l.g (take l.pair-index l.pairs)
