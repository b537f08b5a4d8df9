-- The product so far is a factorial.
use Rattle.std.proofs.Common.{◌≡◌}
use Rattle.state_rank.specs.States.{factorial}
use Rattle.state_rank.proofs.states.state_count.Given as goal

abbrev pub invariant-loop-k : goal.invariant-loop-k
invariant-loop-k l = l.count ≡ factorial l.k
