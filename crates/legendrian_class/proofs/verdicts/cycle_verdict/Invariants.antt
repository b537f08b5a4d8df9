-- All but what is left is null.
use Rattle.std.proofs.Common.{length}
use Rattle.f2_algebra.specs.Chain.{codes}
use Rattle.legendrian_class.specs.Inner.Parts.{IsNullBut}
use Rattle.legendrian_class.proofs.verdicts.cycle_verdict.Given as goal

abbrev pub invariant-loop-code : goal.invariant-loop-code
invariant-loop-code l = IsNullBut l.g l.z l.left l.bound

abbrev pub decreases-loop-code : goal.decreases-loop-code
decreases-loop-code l = length (codes l.left)
