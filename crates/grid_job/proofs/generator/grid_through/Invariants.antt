-- The columns so far have their marks.
use Rattle.std.proofs.Common.{slice_index}
use Rattle.torus_geom.specs.Range.{one_down}
use Rattle.front_data.proofs.FilledRows.{IsFilled}
use Rattle.grid_job.proofs.generator.grid_through.Given as goal

abbrev pub invariant-loop-c : goal.invariant-loop-c
invariant-loop-c l = record {
  o : IsFilled 10 (λ c. slice_index l.rows (one_down l.n (slice_index l.places c))) l.c l.o;
  x : IsFilled 10 (λ c. slice_index l.rows (slice_index l.places c)) l.c l.x;
}
