use Rattle.std.proofs.Common.{◌≡◌, take}
use Rattle.multi_degree.specs.ComponentDegrees.{component_exponents}
use Rattle.grid_job.proofs.components.exponents_of.Given as goal

-- the exponents of the components so far
abbrev pub invariant-loop-i : goal.invariant-loop-i
invariant-loop-i l = l.exponents.items ≡ take l.i (component_exponents l.g)
