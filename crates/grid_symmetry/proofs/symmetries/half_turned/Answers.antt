-- The two lists are the marks of the grid.
use Rattle.std.proofs.Common.{ap, subst, sym, ◌∙◌}
use Rattle.torus_geom.specs.Marks.{IsGrid, Marks}
use Rattle.grid_symmetry.specs.Symmetries.{half_turned_rows}
use Rattle.grid_symmetry.proofs.HalfTurning.{IsGrid-half_turned}
use Rattle.grid_symmetry.proofs.symmetries.half_turned.Goals as goal

pub from_states-requires : goal.from_states-requires
from_states-requires c =
    let P : Marks → Type 0 = IsGrid in
    let o = c.half_turned_rows.ensures ∙ ap half_turned_rows c.o_state.ensures.rows in
    let x = c.half_turned_rows-2.ensures ∙ ap half_turned_rows c.x_state.ensures.rows in
    subst P (λ i. record { o = sym o i; x = sym x i }) (IsGrid-half_turned c.args.g.now c.o_state.ensures.grid)
