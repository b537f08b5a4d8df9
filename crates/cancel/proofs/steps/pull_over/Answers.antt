-- Source and target are taken out, and the target put in if the cochain meets the targets oddly.
use Rattle.std.proofs.Common.{sym, ◌∙◌}
use Rattle.cancel.specs.Logs.{entry_of}
use Rattle.cancel.proofs.MapLemmas.{pull-odd, pull-even}
use Rattle.cancel.proofs.steps.pull_over.Goals as goal

pub returns-in_ok-toggle : goal.returns-in_ok-toggle
returns-in_ok-toggle c =
    pull-odd (entry_of c.args.entry.now) c.args.cochain.now c.remove.new.chain c.remove-2.new.chain
    c.in_ok-remove.ensures c.in_ok-remove-2.ensures c.toggle.new.self
    (sym c.shares_oddly-odd.ensures ∙ c.if-odd.true) c.in_ok-toggle.ensures.toggled

pub returns-else-odd : goal.returns-else-odd
returns-else-odd c =
    pull-even
    (entry_of c.args.entry.now) c.args.cochain.now c.remove.new.chain c.remove-2.new.chain c.in_ok-remove.ensures
    c.in_ok-remove-2.ensures
    (sym c.shares_oddly-odd.ensures ∙ c.if-odd.false)
