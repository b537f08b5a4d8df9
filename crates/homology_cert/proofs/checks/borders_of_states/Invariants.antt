-- the borders of the states with an index below `code`
use Rattle.std.proofs.Common.{◌≡◌, map}
use Rattle.state_rank.specs.Bijection.{ascending}
use Rattle.state_rank.specs.States.{unrank}
use Rattle.torus_geom.specs.Marks.{size}
use Rattle.torus_geom.specs.Inner.CodeBorder.{border_of_state}
use Rattle.homology_cert.proofs.checks.borders_of_states.Given as goal

abbrev pub invariant-loop-code : goal.invariant-loop-code
invariant-loop-code l = l.borders.items ≡ map (λ s. border_of_state l.g (unrank (size l.g) s)) (ascending l.code)
