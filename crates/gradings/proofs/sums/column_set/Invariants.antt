-- The set has the sums of the states with one of the rows so far on the column.
use Rattle.gradings.specs.Inner.Columns.{HoldsSumsOf}
use Rattle.gradings.proofs.sums.column_set.Given as goal

abbrev pub invariant-loop-row : goal.invariant-loop-row
invariant-loop-row l = HoldsSumsOf l.tables l.c l.used l.row l.sums
