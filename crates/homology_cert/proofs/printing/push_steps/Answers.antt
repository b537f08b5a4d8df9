use Rattle.std.proofs.Common.{sym, subst, ◌∙◌}
use Rattle.f2_algebra.specs.Certificate.{StepPair}
use Rattle.homology_cert.specs.Inner.CodeCertificates.{AreStates}
use Rattle.homology_cert.proofs.printing.push_steps.Goals as goal

pub push_set-requires : goal.push_set-requires
push_set-requires c =
    let states = c.requires c.loop-pair.pair-index c.pair-item.result c.loop-pair-test.true in
    subst (λ (p : StepPair). AreStates c.args.g.now p.step) (sym c.pair-item.is ∙ sym c.pair.view_is) states.step

pub push_set-requires-in-loop-pair : goal.push_set-requires-in-loop-pair
push_set-requires-in-loop-pair c =
    let states = c.requires c.loop-pair.pair-index c.pair-item.result c.loop-pair-test.true in
    subst (λ (p : StepPair). AreStates c.args.g.now p.probe) (sym c.pair-item.is ∙ sym c.pair.view_is) states.probe
