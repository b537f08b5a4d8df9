-- What is kept while a certificate is checked.
--     AreBorders g chains      the chains are the borders of all states of the grid, by index
--     step_borders g pairs     the borders of the steps of these pairs
use Rattle.std.specs.Prelude.{◌≡◌, List, map}
use Rattle.f2_algebra.specs.Chain.{Chain}
use Rattle.f2_algebra.specs.Certificate.{StepPair}
use Rattle.state_rank.specs.Bijection.{ascending}
use Rattle.state_rank.specs.States.{factorial, unrank}
use Rattle.torus_geom.specs.Marks.{Marks, size}
use Rattle.torus_geom.specs.Inner.CodeBorder.{border_of_state, border}

abbrev pub AreBorders : Marks → List Chain → Type 0
AreBorders g chains = chains ≡ map (λ s. border_of_state g (unrank (size g) s)) (ascending (factorial (size g)))

abbrev pub step_borders : Marks → List StepPair → List Chain
step_borders g pairs = map (λ (p : StepPair). border g p.step) pairs
