-- The circles so far have the opposites of the points of the opposite circles.
use Rattle.std.proofs.Common.{slice_index}
use Rattle.grid_symmetry.specs.Symmetries.{opposite}
use Rattle.grid_symmetry.proofs.RowLoops.{BeginsWith}
use Rattle.grid_symmetry.proofs.symmetries.half_turned_state.Given as goal

abbrev pub invariant-loop-c : goal.invariant-loop-c
invariant-loop-c l = BeginsWith (λ c. opposite l.n (slice_index l.x (opposite l.n c))) l.rows l.c
