-- One more border is that of the next step.
use Rattle.std.proofs.Common.{◌++◌, ◌∷◌, [], map, take, get_or, sym, ap, subst, ◌∙◌}
use Rattle.std.proofs.lemmas.List.{map-append, take_more}
use Rattle.f2_algebra.specs.Certificate.{StepPair}
use Rattle.f2_algebra.specs.Chain.{Chain}
use Rattle.torus_geom.specs.Inner.CodeBorder.{border}
use Rattle.rectangles.proofs.Homology.BorderLaws.{border_answer}
use Rattle.homology_cert.specs.Inner.CodeCertificates.{AreStates}
use Rattle.homology_cert.specs.Inner.Checks.{step_borders}
use Rattle.homology_cert.proofs.checks.borders_of_steps.Goals as goal

pub border-requires : goal.border-requires
border-requires c =
    let states = c.requires c.loop-pair.pair-index c.pair-item.result c.loop-pair-test.true in
    let same = sym c.pair-item.is ∙ sym c.pair.view_is in
    record { indices = subst (λ (p : StepPair). AreStates c.args.g.now p.step) same states.step }

pub loop-pair-preserved : goal.loop-pair-preserved
loop-pair-preserved c =
    let g = c.args.g.now in
    let pairs = c.args.pairs.now in
    let k = c.loop-pair.pair-index in
    let states = c.requires k c.pair-item.result c.loop-pair-test.true in
    let same = sym c.pair-item.is ∙ sym c.pair.view_is in
    let ranks = subst (λ (p : StepPair). AreStates g p.step) same states.step in
    let answer = border_answer g c.in_ok-border.field-0 c.pair.inside.step c.in_ok-border.ensures.indices_again ranks
    c.in_ok-border.ensures.border in
    let next : StepPair → Chain = λ p. border g p.step in
    c.in_ok-push.ensures.items
    ∙ (λ i. c.loop-pair.invariant i ++ answer i ∷ [])
    ∙ ap (λ (p : StepPair). step_borders g (take k pairs) ++ next p ∷ []) (sym same)
    ∙ sym (ap (map next) (take_more pairs k c.pair-item.result c.loop-pair-test.true)
    ∙ map-append next (take k pairs) (get_or pairs k c.pair-item.result ∷ []))
