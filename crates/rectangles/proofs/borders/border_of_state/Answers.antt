-- From nothing, the targets add up to the border.
use Rattle.std.proofs.Common.{sym, ap, subst, ◌∙◌}
use Rattle.std.proofs.lemmas.Result.{IfOk-weaker}
use Rattle.f2_algebra.specs.Chain.{◌⊕◌}
use Rattle.f2_algebra.proofs.Chains.Sums.{nothing-add}
use Rattle.state_rank.specs.Bijection.{IsBijection}
use Rattle.torus_geom.specs.Codes.{HasIndices, states_of}
use Rattle.torus_geom.specs.Inner.CodeBorder.{border_of_state}
use Rattle.torus_geom.specs.Marks.{size}
use Rattle.torus_geom.proofs.Chains.CodesLemmas.{All_from_indices}
use Rattle.torus_geom.proofs.Chains.ReachedLemmas.{AreIndices-border_of_state, states_of-border_of_state}
use Rattle.rectangles.proofs.Homology.BorderLaws.{alexander-in_border, maslov_o-in_border}
use Rattle.rectangles.proofs.borders.border_of_state.Goals as goal

pub returns-in_err-toggle_targets-clause-lowers_maslov : goal.returns-in_err-toggle_targets-clause-lowers_maslov
returns-in_err-toggle_targets-clause-lowers_maslov c y h =
    maslov_o-in_border c.args.g.now c.size.ensures.grid c.args.x.now y
    (subst (λ n. IsBijection n c.args.x.now) c.requires.size c.size-2.ensures.state.bijection) h

pub returns-in_err-toggle_targets-clause-keeps_alexander : goal.returns-in_err-toggle_targets-clause-keeps_alexander
returns-in_err-toggle_targets-clause-keeps_alexander c y h =
    alexander-in_border c.args.g.now c.size.ensures.grid c.args.x.now y
    (subst (λ n. IsBijection n c.args.x.now) c.requires.size c.size-2.ensures.state.bijection) h

pub returns : goal.returns
returns c =
    let g = c.args.g.now in
    let x = c.args.x.now in
    let sx = subst (λ n. IsBijection n x) c.requires.size c.size-2.ensures.state.bijection in
    let sum = c.in_ok-toggle_targets.ensures ∙ ap (λ h. c.new-sum.result ⊕ border_of_state h x) c.of-marks.ensures
    ∙ ap (λ z. z ⊕ border_of_state g x) c.new-sum.ensures ∙ nothing-add _ in
    let below = All_from_indices (size g) (border_of_state g x) (AreIndices-border_of_state g x) in
    record {
      border = IfOk-weaker c.finish.result _ _
          (λ z e. ap (states_of (size g)) (e ∙ sum) ∙ states_of-border_of_state g x sx) c.finish.ensures;
      lowers_maslov = λ y h. maslov_o-in_border g c.size.ensures.grid x y sx h;
      keeps_alexander = λ y h. alexander-in_border g c.size.ensures.grid x y sx h;
      indices =
          IfOk-weaker c.finish.result _ _ (λ z e. subst (HasIndices (size g)) (sym (e ∙ sum)) below) c.finish.ensures;
    }
