-- Each code adds one to the parity if f holds it.
use Rattle.std.proofs.Common.{sym, ap, ◌∙◌, take_all, arith}
use Rattle.f2_algebra.specs.Chain.{holds}
use Rattle.f2_algebra.proofs.Chains.Sets.{parity, weight-list, pairs_oddly-weight}
use Rattle.f2_chain.proofs.SetLemmas.{parity-take, xor-beq}
use Rattle.f2_chain.proofs.code_sets.CodeSet.pair.Goals as goal

pub loop-code-preserved : goal.loop-code-preserved
loop-code-preserved c =
    xor-beq _ _ _ _ c.loop-code.invariant c.holds-odd.ensures ∙ sym (parity-take _ _ _ c.loop-code-test.true)

pub returns : goal.returns
returns c =
    c.loop-code.invariant
    ∙ ap (parity (holds c.args.f.now)) (take_all _ _ (omega arith) ∙ c.codes-code-items.ensures)
    ∙ sym (pairs_oddly-weight _ _ ∙ weight-list _ _)
