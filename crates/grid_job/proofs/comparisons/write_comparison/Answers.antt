-- Out of memory before anything was written.
use Rattle.grid_job.proofs.Compared.ComparisonLemmas.{HasWritten-no_comparison}
use Rattle.grid_job.proofs.comparisons.write_comparison.Goals as goal

pub returns-in_default-clause-written : goal.returns-in_default-clause-written
returns-in_default-clause-written g c =
    HasWritten-no_comparison c.args.g.now c.args.h.now _ _ c.size-of_first.ensures.grid c.size-of_second.ensures.grid
