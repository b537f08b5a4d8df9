-- the cells so far pass
use Rattle.std.proofs.Common.{◌≡◌, ◌+◌, take, drop}
use Rattle.homology_cert.specs.Inner.CodeCertificates.{entry_count}
use Rattle.homology_cert.specs.Inner.Questions.{first_failing, all_questions}
use Rattle.homology_cert.proofs.checks.verdict_on.Given as goal

abbrev pub invariant-loop-cell : goal.invariant-loop-cell
invariant-loop-cell l = record {
  entry : l.entry ≡ entry_count (take l.cell-index l.cell-items) + 1;
  passed : first_failing (all_questions l.c 1 l.cell-items)
      ≡ first_failing (all_questions l.c l.entry (drop l.cell-index l.cell-items));
}
