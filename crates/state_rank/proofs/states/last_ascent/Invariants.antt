use Rattle.std.proofs.Common.{◌-◌}
use Rattle.state_rank.specs.Inner.Steps.{FallsFrom}
use Rattle.state_rank.proofs.states.last_ascent.Given as goal

abbrev pub invariant-loop-next : goal.invariant-loop-next
invariant-loop-next l = FallsFrom (l.next - 1) l.rows
