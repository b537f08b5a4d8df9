-- The plain form, and the summary below it.
use Rattle.std.proofs.Common.{◌++◌, ap, ◌∙◌}
use Rattle.grid_job.proofs.Generated.MadeLemmas.{IsMade-of}
use Rattle.grid_job.proofs.made.made_text.Goals as goal

pub returns : goal.returns
returns c =
    IsMade-of c.args.n c.args.seed c.in_ok-script.script c.grid.result.now c.extend_from_slice.new.self.items
    c.in_ok-text.text.items c.in_ok-summary.summary.items
    c.in_ok-script.ensures c.grid.ensures.grid c.in_ok-summary.ensures c.in_ok-text.ensures.text
    (c.in_ok-extend_from_slice.ensures.items ∙ ap (λ t. c.in_ok-text.text.items ++ t) c.deref.ensures.value)
