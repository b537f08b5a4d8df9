-- the states so far ascend
use Rattle.std.proofs.Common.{take}
use Rattle.grid_text.specs.States.{AreStates}
use Rattle.grid_text.proofs.commands.are_ascending.Given as goal

abbrev pub invariant-loop-k : goal.invariant-loop-k
invariant-loop-k l = AreStates (take l.k l.states)
