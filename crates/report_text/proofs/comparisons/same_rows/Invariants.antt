-- the rows so far are the same
use Rattle.report_text.proofs.ComparedLemmas.{AreSameBefore}
use Rattle.report_text.proofs.comparisons.same_rows.Given as goal

abbrev pub invariant-loop-k : goal.invariant-loop-k
invariant-loop-k l = AreSameBefore l.rows l.others l.k
