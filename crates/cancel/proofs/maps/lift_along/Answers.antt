-- From the last entry to the first.
use Rattle.std.proofs.Common.{◌-◌, ◌∙◌, sym, ap, refl, arith}
use Rattle.f2_algebra.specs.Chain.{single, ◌⊕◌}
use Rattle.f2_algebra.specs.Cancel.{lift}
use Rattle.f2_algebra.proofs.Chains.Sums.{nothing-add}
use Rattle.cancel.proofs.MapLemmas.{none_ahead, lift-back}
use Rattle.cancel.proofs.maps.lift_along.Goals as goal

pub loop-k-init : goal.loop-k-init
loop-k-init c =
    c.in_ok-toggle.ensures.toggled
    ∙ ap (λ z. z ⊕ single c.args.code) c.new-chain.ensures
    ∙ nothing-add (single c.args.code)
    ∙ ap (λ log. lift log (single c.args.code)) (sym (none_ahead c.args.entries.now _ refl))

pub lift_over-requires : goal.lift_over-requires
lift_over-requires c = c.requires (c.loop-k.k - 1) _ (omega arith)

pub loop-k-preserved : goal.loop-k-preserved
loop-k-preserved c =
    lift-back c.args.entries.now c.loop-k.k _
    (single c.args.code) c.loop-k.chain c.lift_over.new.chain c.loop-k-test.true
    (omega arith) c.loop-k.invariant c.in_ok-lift_over.ensures
