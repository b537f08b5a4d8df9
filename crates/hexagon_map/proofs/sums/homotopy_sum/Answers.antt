-- The homotopies of the members add up to the homotopy.
use Rattle.std.proofs.Common.{sym, ap, subst, ◌∙◌}
use Rattle.std.proofs.lemmas.List.{take_all}
use Rattle.std.proofs.lemmas.Result.{IfOk-weaker}
use Rattle.torus_geom.specs.Marks.{size}
use Rattle.torus_geom.specs.Codes.{HasIndices, states_of}
use Rattle.torus_geom.proofs.Chains.CodesLemmas.{All_from_indices, indices_from_All}
use Rattle.hexagon_map.specs.Inner.CodeHomotopies.{homotopy as homotopy_codes}
use Rattle.hexagon_map.proofs.States.StateHomotopies.{AreIndices-homotopy, states_of-homotopy}
use Rattle.hexagon_map.proofs.Targets.LoopSums.{sum_of_homotopies, homotopy_added, all_homotopies_added}
use Rattle.hexagon_map.proofs.sums.homotopy_sum.Goals as goal

pub loop-code-preserved : goal.loop-code-preserved
loop-code-preserved c =
    homotopy_added c.args.axis c.args.g.now c.args.c c.args.corner _ _ _ _ _ _ c.loop-code-test.true
    c.size-n.ensures.size c.unrank.ensures.state c.loop-code.invariant
    (c.in_ok-toggle_targets.ensures c.args.g.now c.args.corner c.size-n.ensures.grid c.across-t.ensures.grid
    c.crossing_row-w.ensures.row c.crossing_row_back-v.ensures.row)

pub returns-clause-homotopy : goal.returns-clause-homotopy
returns-clause-homotopy c =
    let g = c.args.g.now in
    let codes = c.codes-code-items.result.now in
    let sum = c.loop-code.invariant
    ∙ ap (sum_of_homotopies c.args.axis g c.args.c c.args.corner)
    (take_all c.loop-code.code-index codes c.loop-code-test.false)
    ∙ all_homotopies_added c.args.axis g c.args.c c.args.corner _ _ c.codes-code-items.ensures in
    IfOk-weaker c.finish.result _ _
    (λ z e. ap (states_of (size g)) (e ∙ sum)
    ∙ states_of-homotopy c.args.axis g c.size-n.ensures.grid c.args.c c.args.corner c.args.z.now
    (indices_from_All (size g) c.args.z.now c.requires.indices)) c.finish.ensures

pub returns-clause-indices_again : goal.returns-clause-indices_again
returns-clause-indices_again c =
    let g = c.args.g.now in
    let codes = c.codes-code-items.result.now in
    let sum = c.loop-code.invariant
    ∙ ap (sum_of_homotopies c.args.axis g c.args.c c.args.corner)
    (take_all c.loop-code.code-index codes c.loop-code-test.false)
    ∙ all_homotopies_added c.args.axis g c.args.c c.args.corner _ _ c.codes-code-items.ensures in
    let whole = homotopy_codes c.args.axis g c.args.c c.args.corner c.args.z.now in
    let below = All_from_indices (size g) whole
    (AreIndices-homotopy c.args.axis g c.size-n.ensures.grid c.args.c c.args.corner c.args.z.now) in
    IfOk-weaker c.finish.result _ _ (λ z e. subst (HasIndices (size g)) (sym (e ∙ sum)) below) c.finish.ensures
