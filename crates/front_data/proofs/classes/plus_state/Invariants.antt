use Rattle.std.proofs.Common.{slice_index}
use Rattle.state_rank.specs.declared.TheConstants.{MAX_SIZE}
use Rattle.torus_geom.specs.Marks.{size}
use Rattle.torus_geom.specs.Range.{one_up, one_down}
use Rattle.front_data.proofs.FilledRows.{IsFilled}
use Rattle.front_data.proofs.classes.plus_state.Given as goal

abbrev pub invariant-loop-c : goal.invariant-loop-c
invariant-loop-c l =
    IsFilled MAX_SIZE (λ k. one_up (size l.g) (slice_index l.g.x (one_down (size l.g) k))) l.c l.rows
