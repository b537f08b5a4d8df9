-- the bytes of the states so far
use Rattle.std.proofs.Common.{◌≡◌, ◌≤◌, ◌*◌, take, map, length}
use Rattle.state_rank.specs.States.{state_word}
use Rattle.grid_text.specs.PlainForm.{after_space}
use Rattle.grid_text.proofs.lengths.states_len.Given as goal

abbrev pub invariant-loop-x : goal.invariant-loop-x
invariant-loop-x l =
    (l.count ≡ length (after_space (map state_word (take l.x-index l.states)))) × (l.count ≤ 11 * l.x-index)
