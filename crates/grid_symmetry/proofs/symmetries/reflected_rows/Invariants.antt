-- The columns so far have the marks of the reflected columns.
use Rattle.std.proofs.Common.{◌-◌, slice_index}
use Rattle.grid_symmetry.proofs.RowLoops.{BeginsWith}
use Rattle.grid_symmetry.proofs.symmetries.reflected_rows.Given as goal

abbrev pub invariant-loop-c : goal.invariant-loop-c
invariant-loop-c l = BeginsWith (λ c. slice_index l.o (l.n - 1 - c)) l.rows l.c
