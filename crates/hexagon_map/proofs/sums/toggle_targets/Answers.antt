-- Each target is toggled once, so the image is added.
use Rattle.std.proofs.Common.{sym, ap, ◌∙◌}
use Rattle.std.proofs.lemmas.List.{take_all}
use Rattle.f2_algebra.specs.Chain.{◌⊕◌}
use Rattle.f2_algebra.proofs.Chains.Sums.{add-nothing}
use Rattle.rectangles.proofs.Sweep.LoopLemmas.{sum_of_ranks, one_more_toggled, all_toggled}
use Rattle.hexagon_map.proofs.sums.toggle_targets.Goals as goal

pub loop-y-init : goal.loop-y-init
loop-y-init c = sym (add-nothing c.args.sum.now)

pub loop-y-preserved : goal.loop-y-preserved
loop-y-preserved c =
    one_more_toggled _ _ _ _ _ _ _ c.loop-y-test.true c.y-item.is c.rank.ensures.rank c.loop-y.invariant
    c.in_ok-toggle.ensures.toggled

pub returns : goal.returns
returns c g corner sg is there back =
    let states = c.as_slice-y-items.result.now in
    c.loop-y.invariant
    ∙ ap (λ ys. c.args.sum.now ⊕ sum_of_ranks ys)
    (take_all c.loop-y.y-index states c.loop-y-test.false ∙ c.as_slice-y-items.ensures)
    ∙ ap (λ z. c.args.sum.now ⊕ z)
    (all_toggled _ _ (c.targets_across-states.ensures.homotopy g corner sg is there back))
