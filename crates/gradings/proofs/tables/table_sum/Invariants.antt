use Rattle.gradings.proofs.TableLemmas.{IsEntrySum}
use Rattle.gradings.proofs.tables.table_sum.Given as goal

abbrev pub invariant-loop-c : goal.invariant-loop-c
invariant-loop-c l = IsEntrySum l.table l.rows l.c l.sum
