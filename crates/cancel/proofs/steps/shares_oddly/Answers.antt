-- Each code adds one to the parity if the chain holds it.
use Rattle.std.proofs.Common.{sym, ap, ◌∙◌, take_all, arith}
use Rattle.f2_algebra.specs.Chain.{holds}
use Rattle.f2_algebra.proofs.Chains.Sets.{parity, pairs_oddly-list}
use Rattle.f2_chain.proofs.SetLemmas.{parity-take, xor-beq}
use Rattle.cancel.proofs.MapLemmas.{IsApart-pairs}
use Rattle.cancel.proofs.steps.shares_oddly.Goals as goal

pub loop-code-preserved : goal.loop-code-preserved
loop-code-preserved c =
    xor-beq _ _ _ _ c.loop-code.invariant c.holds-odd.ensures ∙ sym (parity-take _ _ _ c.loop-code-test.true)

pub returns : goal.returns
returns c =
    c.loop-code.invariant
    ∙ ap (parity (holds c.args.chain.now)) (take_all _ _ (omega arith))
    ∙ sym (pairs_oddly-list c.args.chain.now c.args.codes.now (IsApart-pairs c.args.codes.now c.requires))
