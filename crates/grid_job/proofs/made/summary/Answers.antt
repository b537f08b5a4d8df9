-- The numbers and the verdicts of the grid.
use Rattle.std.proofs.lemmas.Result.{IfOk-weaker}
use Rattle.grid_job.specs.Made.{IsSummary}
use Rattle.grid_job.proofs.Generated.MadeLemmas.{IsSummary-of}
use Rattle.grid_job.proofs.made.summary.Goals as goal

pub returns : goal.returns
returns c =
    IfOk-weaker c.summary_line.result _ (λ text. IsSummary c.args.g.now text.items) (λ text told.
    IsSummary-of c.args.g.now c.in_ok-table.table c.front.result.tb c.front.result.rot c.total.result c.in_ok-plus.plus
    c.in_ok-minus.minus text.items
    c.in_ok-table.ensures.table c.in_ok-plus.ensures c.in_ok-minus.ensures c.front.ensures.tb c.front.ensures.rot
    c.total.ensures told)
    c.summary_line.ensures
