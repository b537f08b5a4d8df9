use Rattle.std.proofs.Common.{◌≡◌, map, take}
use Rattle.f2_algebra.specs.Chain.{of_codes}
use Rattle.state_rank.specs.States.{rank}
use Rattle.grid_job.proofs.in_force.chain_of.Given as goal

-- the states so far are in the chain
abbrev pub invariant-loop-state : goal.invariant-loop-state
invariant-loop-state l = l.chain ≡ of_codes (take l.state-index (map rank l.state-items))
