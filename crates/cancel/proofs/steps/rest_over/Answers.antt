-- Source and target are taken out, and if the target was held its targets are toggled.
use Rattle.std.proofs.Common.{sym, ◌∙◌}
use Rattle.cancel.specs.Logs.{entry_of}
use Rattle.cancel.proofs.MapLemmas.{rest-held, rest-not_held}
use Rattle.cancel.proofs.steps.rest_over.Goals as goal

pub returns-in_ok-toggle_all-clause-rest : goal.returns-in_ok-toggle_all-clause-rest
returns-in_ok-toggle_all-clause-rest c =
    rest-held
    (entry_of c.args.entry.now) c.args.chain.now c.remove.new.chain c.remove-2.new.chain c.in_ok-remove.ensures
    c.in_ok-remove-2.ensures c.toggle_all.new.chain
    (sym c.holds-held.ensures ∙ c.if-held.true) c.in_ok-toggle_all.ensures

pub returns-else-held-clause-rest : goal.returns-else-held-clause-rest
returns-else-held-clause-rest c =
    rest-not_held
    (entry_of c.args.entry.now) c.args.chain.now c.remove.new.chain c.remove-2.new.chain c.in_ok-remove.ensures
    c.in_ok-remove-2.ensures
    (sym c.holds-held.ensures ∙ c.if-held.false)
