-- The lines of the quotient of the table, or of none.
use Rattle.std.proofs.Common.{ap, ◌∙◌, arith}
use Rattle.std.specs.Prelude.{◌-◌}
use Rattle.std.proofs.lemmas.Result.{IfOk-weaker}
use Rattle.report_text.specs.Lines.{hat_lines}
use Rattle.grid_job.specs.Hat.{IsHatText}
use Rattle.grid_job.proofs.Reported.HatLemmas.{components-le, IsHatText-quotient}
use Rattle.grid_job.proofs.hats.hat_text.Goals as goal

pub overflow_sub-exponent : goal.overflow_sub-exponent
overflow_sub-exponent c = omega (arith, components-le c.args.g.now, c.components.ensures.number, c.size.ensures.size)

pub returns : goal.returns
returns c =
    IfOk-weaker c.hat_lines.result _ (λ text. IsHatText c.args.g.now text.items) (λ lines same.
    IsHatText-quotient c.args.g.now
    (c.size.result - c.components.result) c.args.table.now c.in_ok-hat.hat lines.items
    (λ i. c.size.ensures.size i - c.components.ensures.number i)
    c.requires.table c.in_ok-hat.ensures.quotient
    (same ∙ ap (hat_lines (c.size.result - c.components.result)) c.as_ref.ensures.value))
    c.hat_lines.ensures
