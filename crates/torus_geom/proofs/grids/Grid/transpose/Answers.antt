-- The two states are those of the transposed grid.
use Rattle.std.proofs.Common.{subst, sym, ◌∙◌}
use Rattle.torus_geom.specs.Marks.{Marks, IsGrid}
use Rattle.torus_geom.specs.Inner.Stored.{marks}
use Rattle.torus_geom.proofs.TransposeLemmas.{IsGrid-transposed, transposed_marks}
use Rattle.torus_geom.proofs.grids.Grid.transpose.Goals as goal

pub from_states-requires : goal.from_states-requires
from_states-requires c =
    let P : Marks → Type 0 = IsGrid in
    let is = transposed_marks c.args.self.now
    (marks c.self.inside) _ _ c.self.view_is c.transpose.ensures.state c.transpose-2.ensures.state in
    subst P (sym is) (IsGrid-transposed c.args.self.now (subst P c.self.view_is c.self.invariant.grid))

pub returns : goal.returns
returns c =
    c.from_states.ensures
    ∙ transposed_marks c.args.self.now
    (marks c.self.inside) _ _ c.self.view_is c.transpose.ensures.state c.transpose-2.ensures.state
