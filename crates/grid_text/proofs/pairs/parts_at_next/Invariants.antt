-- the lines so far are not `next`
use Rattle.std.proofs.Common.{length}
use Rattle.grid_text.specs.Inner.Cuts.{IsCut}
use Rattle.grid_text.proofs.pairs.parts_at_next.Given as goal

abbrev pub invariant-loop-bytes : goal.invariant-loop-bytes
invariant-loop-bytes l = IsCut l.text l.rest l.line

abbrev pub decreases-loop-bytes : goal.decreases-loop-bytes
decreases-loop-bytes l = length l.rest
