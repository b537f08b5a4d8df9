-- If the chain meets the sources evenly it stays.
use Rattle.std.proofs.Common.{sym, ◌∙◌}
use Rattle.cancel.specs.Logs.{entry_of}
use Rattle.cancel.proofs.MapLemmas.{lift-odd, lift-even}
use Rattle.cancel.proofs.steps.lift_over.Goals as goal

pub returns-in_ok-toggle : goal.returns-in_ok-toggle
returns-in_ok-toggle c =
    lift-odd (entry_of c.args.entry.now) c.args.chain.now c.toggle.new.self
    (sym c.shares_oddly.ensures ∙ c.if-shares_oddly.true) c.in_ok-toggle.ensures.toggled

pub returns-else-shares_oddly : goal.returns-else-shares_oddly
returns-else-shares_oddly c =
    lift-even (entry_of c.args.entry.now) c.args.chain.now (sym c.shares_oddly.ensures ∙ c.if-shares_oddly.false)
