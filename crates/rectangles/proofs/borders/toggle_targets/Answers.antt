-- Each target is toggled once, so the border is added.
use Rattle.std.proofs.Common.{refl, sym, ap, subst, ◌∙◌}
use Rattle.std.proofs.lemmas.List.{take_all}
use Rattle.f2_algebra.specs.Chain.{◌⊕◌}
use Rattle.f2_algebra.proofs.Chains.Sums.{add-nothing}
use Rattle.state_rank.specs.Bijection.{IsBijection}
use Rattle.rectangles.proofs.Homology.BorderLaws.{targets_codes}
use Rattle.rectangles.proofs.Sweep.LoopLemmas.{sum_of_codes, one_more_code_toggled, all_codes_toggled}
use Rattle.rectangles.proofs.borders.toggle_targets.Goals as goal

pub loop-target-init : goal.loop-target-init
loop-target-init c = sym (add-nothing c.args.sum.now)

pub loop-target-preserved : goal.loop-target-preserved
loop-target-preserved c =
    one_more_code_toggled _ _ _ _ _ c.loop-target-test.true c.loop-target.invariant c.in_ok-toggle.ensures.toggled

pub returns : goal.returns
returns c =
    let g = c.args.marks.now in
    let x = c.args.x.now in
    let indices = c.as_slice-target-items.result.now in
    let sx = subst (λ n. IsBijection n x) c.requires.size c.size.ensures.state.bijection in
    let listed = targets_codes g x sx _ refl in
    c.loop-target.invariant
    ∙ ap (λ cs. c.args.sum.now ⊕ sum_of_codes cs)
    (take_all c.loop-target.target-index indices c.loop-target-test.false ∙ c.as_slice-target-items.ensures)
    ∙ ap (λ z. c.args.sum.now ⊕ z) (all_codes_toggled _ _ (c.target_indices-indices.ensures.indices ∙ listed))
