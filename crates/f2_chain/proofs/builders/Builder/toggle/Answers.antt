-- What was there is taken out, and else it is put in.
use Rattle.std.proofs.Common.{ap, ◌∙◌}
use Rattle.f2_algebra.specs.Chain.{single, ◌⊕◌}
use Rattle.f2_chain.proofs.SetLemmas.{toggled_in, toggled_out}
use Rattle.f2_chain.proofs.builders.Builder.toggle.Goals as goal

pub returns-in_ok-insert-clause-toggled : goal.returns-in_ok-insert-clause-toggled
returns-in_ok-insert-clause-toggled c =
    toggled_in _ _ _ c.args.code _ c.swap_remove.ensures.found c.if-not-swap_remove.true c.swap_remove.ensures.updates.0
    c.in_ok-insert.ensures.updates.0
    ∙ ap (λ z. z ⊕ single c.args.code) c.self.view_is

pub returns-else-not-swap_remove-clause-toggled : goal.returns-else-not-swap_remove-clause-toggled
returns-else-not-swap_remove-clause-toggled c =
    toggled_out _ _ c.args.code _ c.swap_remove.ensures.found c.if-not-swap_remove.false c.swap_remove.ensures.updates.0
    ∙ ap (λ z. z ⊕ single c.args.code) c.self.view_is
