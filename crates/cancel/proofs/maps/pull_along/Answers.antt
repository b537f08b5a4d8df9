-- From the last entry to the first.
use Rattle.std.proofs.Common.{◌∙◌, sym, ap, refl, arith}
use Rattle.f2_algebra.specs.Chain.{single, ◌⊕◌}
use Rattle.f2_algebra.specs.Cancel.{pull}
use Rattle.f2_algebra.proofs.Chains.Sums.{nothing-add}
use Rattle.cancel.proofs.MapLemmas.{none_ahead, pull-back}
use Rattle.cancel.proofs.maps.pull_along.Goals as goal

pub loop-k-init : goal.loop-k-init
loop-k-init c =
    c.in_ok-toggle.ensures.toggled
    ∙ ap (λ z. z ⊕ single c.args.code) c.new-cochain.ensures
    ∙ nothing-add (single c.args.code)
    ∙ ap (λ log. pull log (single c.args.code)) (sym (none_ahead c.args.entries.now _ refl))

pub pull_over-requires : goal.pull_over-requires
pull_over-requires c = c.requires _ _ (omega arith)

pub loop-k-preserved : goal.loop-k-preserved
loop-k-preserved c =
    pull-back c.args.entries.now c.loop-k.k _
    (single c.args.code) c.loop-k.cochain c.pull_over.new.cochain c.loop-k-test.true
    (omega arith) c.loop-k.invariant c.in_ok-pull_over.ensures
