-- Codes ascend.
use Rattle.std.proofs.Common.{ap, ◌∙◌}
use Rattle.std.specs.List.{slice_get}
use Rattle.legendrian_class.proofs.ChainLemmas.{first-least, first_code-none}
use Rattle.legendrian_class.proofs.parts.first_code.Goals as goal

pub returns-clause-least : goal.returns-clause-least
returns-clause-least c =
    first-least c.args.z.now c.copied.result
    (c.copied.ensures ∙ c.first.ensures.value ∙ ap (λ xs. slice_get xs 0) c.codes.ensures)

pub returns-clause-none : goal.returns-clause-none
returns-clause-none c =
    first_code-none c.args.z.now c.copied.result
    (c.copied.ensures ∙ c.first.ensures.value ∙ ap (λ xs. slice_get xs 0) c.codes.ensures)
