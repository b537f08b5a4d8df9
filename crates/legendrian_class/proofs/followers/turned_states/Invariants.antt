-- The turned states so far are added.
use Rattle.std.proofs.Common.{◌≡◌, take}
use Rattle.grid_moves.specs.Carried.{turned_state}
use Rattle.legendrian_class.proofs.FollowedLemmas.{sum_of_carried}
use Rattle.legendrian_class.proofs.followers.turned_states.Given as goal

abbrev pub invariant-loop-code : goal.invariant-loop-code
invariant-loop-code l = l.turned ≡ sum_of_carried (turned_state l.side) l.n (take l.code-index l.code-items)
