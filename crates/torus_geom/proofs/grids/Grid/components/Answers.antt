use Rattle.std.proofs.Common.{subst}
use Rattle.torus_geom.specs.Marks.{Marks}
use Rattle.torus_geom.specs.Components.{HasOneOfEachCycle, is_first}
use Rattle.torus_geom.specs.Inner.Stored.{marks}
use Rattle.torus_geom.proofs.Cycles.ComponentLemmas.{HasOneOfEachCycle-is_first}
use Rattle.torus_geom.proofs.grids.Grid.components.Goals as goal

pub returns-clause-cycles : goal.returns-clause-cycles
returns-clause-cycles c =
    let P : Marks → Type 0 = λ g. HasOneOfEachCycle g (is_first g) in
    subst P c.self.view_is (HasOneOfEachCycle-is_first (marks c.self.inside) c.self.invariant.grid)
