-- The rows before r have their weights.
use Rattle.std.proofs.Common.{◌≡◌, length, slice_index, ltb, pos, ◌+ℤ◌, ◌-ℤ◌}
use Rattle.state_rank.specs.declared.TheConstants.{MAX_SIZE}
use Rattle.torus_geom.specs.Counts.{count_below}
use Rattle.gradings.proofs.TableLemmas.{IsFilled}
use Rattle.gradings.proofs.tables.column_weights.Given as goal

abbrev pub invariant-loop-r : goal.invariant-loop-r
invariant-loop-r l =
    IsFilled MAX_SIZE l.weights l.r 0 (λ r v. pos v ≡ pos MAX_SIZE
    +ℤ (count_below (length l.x) (λ d. ltb (slice_index l.x d) r)
    -ℤ count_below (length l.o) (λ d. ltb (slice_index l.o d) r)))
