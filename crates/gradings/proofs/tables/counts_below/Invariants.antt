-- The rows before r have their counts.
use Rattle.std.proofs.Common.{◌≡◌, length, slice_index, ltb, pos}
use Rattle.state_rank.specs.declared.TheConstants.{MAX_SIZE}
use Rattle.torus_geom.specs.Counts.{count_below}
use Rattle.gradings.proofs.TableLemmas.{IsFilled}
use Rattle.gradings.proofs.tables.counts_below.Given as goal

abbrev pub invariant-loop-r : goal.invariant-loop-r
invariant-loop-r l =
    IsFilled MAX_SIZE l.counts l.r 0 (λ r v. pos v ≡ count_below (length l.rows) (λ d. ltb (slice_index l.rows d) r))
