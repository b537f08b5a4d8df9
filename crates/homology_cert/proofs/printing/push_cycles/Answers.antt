use Rattle.std.proofs.Common.{sym, subst, ◌∙◌}
use Rattle.f2_algebra.specs.Certificate.{CyclePair}
use Rattle.homology_cert.specs.Inner.CodeCertificates.{AreStates}
use Rattle.homology_cert.proofs.printing.push_cycles.Goals as goal

pub push_set-requires : goal.push_set-requires
push_set-requires c =
    let states = c.requires c.loop-pair.pair-index c.pair-item.result c.loop-pair-test.true in
    subst (λ (p : CyclePair). AreStates c.args.g.now p.cycle) (sym c.pair-item.is ∙ sym c.pair.view_is) states.cycle

pub push_set-requires-in-loop-pair : goal.push_set-requires-in-loop-pair
push_set-requires-in-loop-pair c =
    let states = c.requires c.loop-pair.pair-index c.pair-item.result c.loop-pair-test.true in
    subst (λ (p : CyclePair). AreStates c.args.g.now p.cocycle) (sym c.pair-item.is ∙ sym c.pair.view_is) states.cocycle
