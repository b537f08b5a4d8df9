-- The state of a class has the size of the grid.
use Rattle.std.proofs.Common.{length, ap, ◌∙◌}
use Rattle.grid_job.proofs.Reported.ClassLemmas.{class_state-state}
use Rattle.grid_job.proofs.classes.verdict_line.Goals as goal

pub degree-requires : goal.degree-requires
degree-requires c = record {
  one_size = ap length c.requires.state ∙ (class_state-state c.args.g.now c.size.ensures.grid c.args.sign).long;
}
