-- One row more.
use Rattle.std.proofs.Common.{arith}
use Rattle.gradings.proofs.SetLemmas.{HoldsSumsOf-more}
use Rattle.gradings.proofs.sums.column_set.Goals as goal

pub loop-row-preserved : goal.loop-row-preserved
loop-row-preserved c =
    let s = c.requires.size in
    HoldsSumsOf-more c.args.tables.now (omega arith) c.args.c (omega arith) c.args.used c.loop-row.row c.loop-row.sums
    c.row_set-sums.result c.loop-row.invariant c.row_set-sums.ensures
