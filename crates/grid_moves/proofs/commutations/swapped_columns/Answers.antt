-- The two states are those of the exchanged marks.
use Rattle.std.proofs.Common.{◌≡◌, sym, subst}
use Rattle.torus_geom.specs.Marks.{Marks, IsGrid}
use Rattle.grid_moves.specs.Moves.{swapped_columns}
use Rattle.grid_moves.proofs.Exchanged.SwapGridLemmas.{swapped_marks, IsGrid-swapped_columns}
use Rattle.grid_moves.proofs.commutations.swapped_columns.Goals as goal

-- the marks are those of the exchanged grid
done : (c : goal.After-exchange-2)
    → record { o = c.exchange.result; x = c.exchange-2.result } ≡ swapped_columns c.args.g.now c.args.c
done c =
    swapped_marks c.args.g.now c.args.c c.size-n.result c.one_down-b.result _ _ _ _ c.size-n.ensures.size
    c.one_down-b.ensures.value
    c.o_state.ensures.rows c.x_state.ensures.rows c.exchange.ensures.state c.exchange-2.ensures.state

pub from_states-requires : goal.from_states-requires
from_states-requires c = let P : Marks → Type 0 = IsGrid in
    subst P (sym (done c)) (IsGrid-swapped_columns c.args.g.now c.args.c c.size-n.ensures.grid c.requires)
