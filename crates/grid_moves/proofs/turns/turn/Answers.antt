-- The two arrays begin with the turned lists of marks.
use Rattle.std.proofs.Common.{◌≡◌, take, slice_index, ap, sym, ◌∙◌, arith, subst}
use Rattle.torus_geom.specs.Marks.{Marks, IsGrid}
use Rattle.grid_moves.specs.Moves.{turned, moved_row}
use Rattle.grid_moves.proofs.Turned.TurnLemmas.{HasTurned-more, take-turned_marks, IsGrid-turned}
use Rattle.grid_moves.proofs.Turned.TurnedDegrees.{components-turned, maslov_o-turned, alexander-turned}
use Rattle.grid_moves.proofs.Turned.CarriedStates.{border-turned}
use Rattle.grid_moves.proofs.turns.turn.Goals as goal

pub loop-c-preserved : goal.loop-c-preserved
loop-c-preserved c =
    let n = c.size-n.ensures.grid.is_size.greatest in
    let e = c.size-n.ensures.size in
    let l = c.loop-c-test.true in
    record {
      o = HasTurned-more _ _ _ _ _ _ c.loop-c.invariant.o (omega arith)
          (c.moved_row.ensures.value
          ∙ ap (moved_row c.args.side c.size-n.result)
          (c.o.ensures.row ∙ ap (slice_index c.args.g.now.o) c.source_column-source.ensures.value));
      x = HasTurned-more _ _ _ _ _ _ c.loop-c.invariant.x (omega arith)
          (c.moved_row-in-loop-c.ensures.value
          ∙ ap (moved_row c.args.side c.size-n.result)
          (c.x.ensures.row ∙ ap (slice_index c.args.g.now.x) c.source_column-source.ensures.value));
    }

-- all columns are done
done : (c : goal.After-x-1)
    → record { o = take c.size-n.result c.loop-c.o; x = take c.size-n.result c.loop-c.x }
    ≡ turned c.args.side c.args.g.now
done c = take-turned_marks c.args.side c.args.g.now c.loop-c.o c.loop-c.x c.size-n.result c.loop-c.c
    c.size-n.ensures.grid c.size-n.ensures.size c.loop-c-test.false c.loop-c.invariant.o c.loop-c.invariant.x

pub from_marks-requires : goal.from_marks-requires
from_marks-requires c = let P : Marks → Type 0 = IsGrid in
    subst P (sym (done c)) (IsGrid-turned c.args.side c.args.g.now c.size-n.ensures.grid)

pub returns-clause-grid : goal.returns-clause-grid
returns-clause-grid c = c.from_marks.ensures
    ∙ take-turned_marks c.args.side c.args.g.now c.loop-c.o c.loop-c.x c.size-n.result c.loop-c.c c.size-n.ensures.grid
    c.size-n.ensures.size c.loop-c-test.false c.loop-c.invariant.o c.loop-c.invariant.x

pub returns-clause-keeps_components : goal.returns-clause-keeps_components
returns-clause-keeps_components c = components-turned c.args.side c.args.g.now c.size-n.ensures.grid

pub returns-clause-keeps_maslov : goal.returns-clause-keeps_maslov
returns-clause-keeps_maslov c = maslov_o-turned c.args.side c.args.g.now c.size-n.ensures.grid

pub returns-clause-keeps_alexander : goal.returns-clause-keeps_alexander
returns-clause-keeps_alexander c = alexander-turned c.args.side c.args.g.now c.size-n.ensures.grid

pub returns-clause-carries_border : goal.returns-clause-carries_border
returns-clause-carries_border c = border-turned c.args.side c.args.g.now c.size-n.ensures.grid
