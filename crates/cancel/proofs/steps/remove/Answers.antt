-- What is held is taken out by a toggle.
use Rattle.std.proofs.Common.{sym, ◌∙◌}
use Rattle.cancel.proofs.MapLemmas.{taken_out, not_there}
use Rattle.cancel.proofs.steps.remove.Goals as goal

pub returns-in_ok-toggle : goal.returns-in_ok-toggle
returns-in_ok-toggle c =
    c.in_ok-toggle.ensures.toggled ∙ taken_out c.args.chain.now c.args.code (sym c.holds.ensures ∙ c.if-holds.true)

pub returns-else-holds : goal.returns-else-holds
returns-else-holds c = not_there c.args.chain.now c.args.code (sym c.holds.ensures ∙ c.if-holds.false)
