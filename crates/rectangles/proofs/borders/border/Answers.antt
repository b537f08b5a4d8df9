-- The borders of the members add up to the border.
use Rattle.std.proofs.Common.{sym, ap, subst, ◌∙◌}
use Rattle.std.proofs.lemmas.List.{take_all}
use Rattle.std.proofs.lemmas.Result.{IfOk-weaker}
use Rattle.torus_geom.specs.Codes.{HasIndices, states_of}
use Rattle.torus_geom.specs.Inner.CodeBorder.{border as border_codes, border_of_state}
use Rattle.f2_algebra.specs.Chain.{◌⊕◌}
use Rattle.torus_geom.specs.Marks.{size}
use Rattle.torus_geom.proofs.Chains.CodesLemmas.{All_from_indices, indices_from_All}
use Rattle.torus_geom.proofs.Chains.ReachedLemmas.{AreIndices-border, states_of-border}
use Rattle.rectangles.proofs.Homology.BorderLaws.{border-border}
use Rattle.rectangles.proofs.Sweep.LoopLemmas.{sum_of_borders, added, all_added}
use Rattle.rectangles.proofs.borders.border.Goals as goal

pub returns-in_err-toggle_targets-clause-square : goal.returns-in_err-toggle_targets-clause-square
returns-in_err-toggle_targets-clause-square c = border-border c.args.g.now c.size-n.ensures.grid

pub loop-code-preserved : goal.loop-code-preserved
loop-code-preserved c =
    added _ _ _ _ _ _ _ c.loop-code-test.true c.size-n.ensures.size c.unrank.ensures.state c.loop-code.invariant
    (c.in_ok-toggle_targets.ensures
    ∙ ap (λ g. c.loop-code.sum ⊕ border_of_state g c.unrank.result) c.of-marks.ensures)

pub returns-clause-border : goal.returns-clause-border
returns-clause-border c =
    let g = c.args.g.now in
    let sum = c.loop-code.invariant
    ∙ ap (sum_of_borders g) (take_all c.loop-code.code-index c.codes-code-items.result.now c.loop-code-test.false)
    ∙ all_added g _ _ c.codes-code-items.ensures in
    IfOk-weaker c.finish.result _ _
    (λ z e. ap (states_of (size g)) (e ∙ sum)
    ∙ states_of-border g c.args.z.now (indices_from_All (size g) c.args.z.now c.requires.indices)) c.finish.ensures

pub returns-clause-indices_again : goal.returns-clause-indices_again
returns-clause-indices_again c =
    let g = c.args.g.now in
    let sum = c.loop-code.invariant
    ∙ ap (sum_of_borders g) (take_all c.loop-code.code-index c.codes-code-items.result.now c.loop-code-test.false)
    ∙ all_added g _ _ c.codes-code-items.ensures in
    let below = All_from_indices (size g) (border_codes g c.args.z.now) (AreIndices-border g c.args.z.now) in
    IfOk-weaker c.finish.result _ _ (λ z e. subst (HasIndices (size g)) (sym (e ∙ sum)) below) c.finish.ensures

pub returns-clause-square : goal.returns-clause-square
returns-clause-square c = border-border c.args.g.now c.size-n.ensures.grid
