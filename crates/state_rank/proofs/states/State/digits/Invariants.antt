-- the digits so far
use Rattle.std.proofs.Common.{◌≡◌, take, length}
use Rattle.state_rank.specs.States.{state_word}
use Rattle.state_rank.specs.declared.TheConstants.{ROOM}
use Rattle.state_rank.proofs.states.State.digits.Given as goal

abbrev pub invariant-loop-c : goal.invariant-loop-c
invariant-loop-c l = (length l.digits ≡ ROOM) × (take l.c l.digits ≡ state_word (take l.c l.row-items))
