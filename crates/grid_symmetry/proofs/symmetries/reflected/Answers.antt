-- The two lists are the marks of the grid.
use Rattle.std.proofs.Common.{ap, subst, sym, ◌∙◌}
use Rattle.torus_geom.specs.Marks.{IsGrid, Marks}
use Rattle.grid_symmetry.specs.Symmetries.{reflected_rows}
use Rattle.grid_symmetry.proofs.Reflecting.{IsGrid-reflected}
use Rattle.grid_symmetry.proofs.symmetries.reflected.Goals as goal

pub from_states-requires : goal.from_states-requires
from_states-requires c =
    let P : Marks → Type 0 = IsGrid in
    let o = c.reflected_rows.ensures ∙ ap reflected_rows c.o_state.ensures.rows in
    let x = c.reflected_rows-2.ensures ∙ ap reflected_rows c.x_state.ensures.rows in
    subst P (λ i. record { o = sym o i; x = sym x i }) (IsGrid-reflected c.args.g.now c.o_state.ensures.grid)
