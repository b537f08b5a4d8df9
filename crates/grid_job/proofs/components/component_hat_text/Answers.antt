-- The lines of the quotient of the table by component, or of none.
use Rattle.std.proofs.Common.{sym, ap₂, ◌∙◌}
use Rattle.std.proofs.lemmas.Result.{IfOk-weaker}
use Rattle.report_text.specs.Lines.{multi_hat_lines}
use Rattle.grid_job.specs.Hat.{IsComponentHatText}
use Rattle.grid_job.proofs.Reported.ComponentLemmas.{exponents-lengths, IsComponentHatText-quotient}
use Rattle.grid_job.proofs.components.component_hat_text.Goals as goal

pub divide_multi-requires-clause-lengths : goal.divide_multi-requires-clause-lengths
divide_multi-requires-clause-lengths c =
    exponents-lengths c.args.g.now c.deref.result.now c.args.table.now
    (c.deref.ensures.value ∙ c.in_ok-exponents.ensures) c.requires.lengths

pub returns : goal.returns
returns c =
    IfOk-weaker c.multi_hat_lines.result _ (λ text. IsComponentHatText c.args.g.now text.items) (λ lines same.
    IsComponentHatText-quotient c.args.g.now c.deref.result.now c.args.table.now c.in_ok-hat.hat lines.items
    (c.deref.ensures.value ∙ c.in_ok-exponents.ensures)
    c.requires.table c.in_ok-hat.ensures.quotient
    (same ∙ ap₂ multi_hat_lines (c.deref-2.ensures.value ∙ sym c.deref.ensures.value) c.as_ref.ensures.value))
    c.multi_hat_lines.ensures
