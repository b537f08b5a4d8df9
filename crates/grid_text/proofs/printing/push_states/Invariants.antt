-- the states so far
use Rattle.std.proofs.Common.{◌≡◌, ◌++◌, take, map}
use Rattle.state_rank.specs.States.{state_word}
use Rattle.grid_text.specs.PlainForm.{after_space}
use Rattle.grid_text.proofs.printing.push_states.Given as goal

abbrev pub invariant-loop-x : goal.invariant-loop-x
invariant-loop-x l = l.text.items ≡ l.initial.text.items ++ after_space (map state_word (take l.x-index l.states))
