-- The columns before c have their entries.
use Rattle.std.proofs.Common.{◌≡◌, ℕ, ◌<◌, [], length, slice_index, pos}
use Rattle.state_rank.specs.declared.TheConstants.{MAX_SIZE}
use Rattle.gradings.specs.Inner.Tables.{left_below}
use Rattle.gradings.proofs.TableLemmas.{IsFilled}
use Rattle.gradings.proofs.tables.o_table.Given as goal

abbrev pub invariant-loop-c : goal.invariant-loop-c
invariant-loop-c l =
    IsFilled MAX_SIZE l.table l.c []
    (λ c column. (r : ℕ) → r < MAX_SIZE → pos (slice_index column r) ≡ left_below (length l.o) l.o c r)
