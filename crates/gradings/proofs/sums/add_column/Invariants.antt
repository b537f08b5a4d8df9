-- The sets below `used` are made.
use Rattle.gradings.specs.Inner.Columns.{IsColumnDone}
use Rattle.gradings.proofs.sums.add_column.Given as goal

abbrev pub invariant-loop-used : goal.invariant-loop-used
invariant-loop-used l = IsColumnDone l.tables l.c l.used l.sets.items
