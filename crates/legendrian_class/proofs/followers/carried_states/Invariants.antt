-- The states so far are added.
use Rattle.std.proofs.Common.{◌≡◌, take}
use Rattle.grid_symmetry.specs.Symmetries.{symmetric_state}
use Rattle.legendrian_class.proofs.FollowedLemmas.{sum_of_carried}
use Rattle.legendrian_class.proofs.followers.carried_states.Given as goal

abbrev pub invariant-loop-code : goal.invariant-loop-code
invariant-loop-code l = l.carried ≡ sum_of_carried (symmetric_state l.s) l.n (take l.code-index l.code-items)
