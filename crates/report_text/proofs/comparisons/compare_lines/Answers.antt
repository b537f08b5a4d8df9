use Rattle.report_text.proofs.ComparedLemmas.{same_rows-is}
use Rattle.report_text.proofs.comparisons.compare_lines.Goals as goal

pub returns-clause-same : goal.returns-clause-same
returns-clause-same c = same_rows-is
