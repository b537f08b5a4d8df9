-- The images of the members add up to the image.
use Rattle.std.proofs.Common.{sym, ap, subst, ◌∙◌}
use Rattle.std.proofs.lemmas.List.{take_all}
use Rattle.std.proofs.lemmas.Result.{IfOk-weaker}
use Rattle.torus_geom.specs.Marks.{size}
use Rattle.pentagon_map.specs.Inner.CodeImages.{image as image_codes}
use Rattle.torus_geom.specs.Codes.{HasIndices, states_of}
use Rattle.torus_geom.proofs.Chains.CodesLemmas.{All_from_indices, indices_from_All}
use Rattle.pentagon_map.proofs.States.StateImages.{AreIndices-image, states_of-image}
use Rattle.pentagon_map.proofs.Targets.LoopLemmas.{sum_of_images, image_added, all_images_added}
use Rattle.pentagon_map.proofs.images.image_sum.Goals as goal

pub loop-code-preserved : goal.loop-code-preserved
loop-code-preserved c =
    image_added c.args.axis c.args.g.now c.args.c c.args.corner _ _ _ _ _ _ c.loop-code-test.true c.size-n.ensures.size
    c.unrank.ensures.state c.loop-code.invariant
    (c.in_ok-toggle_targets.ensures c.args.g.now c.args.corner c.size-n.ensures.grid c.across-t.ensures.grid
    c.crossing_row-w.ensures.row)

pub returns-clause-image : goal.returns-clause-image
returns-clause-image c =
    let g = c.args.g.now in
    let codes = c.codes-code-items.result.now in
    let sum = c.loop-code.invariant
    ∙ ap (sum_of_images c.args.axis g c.args.c c.args.corner)
    (take_all c.loop-code.code-index codes c.loop-code-test.false)
    ∙ all_images_added c.args.axis g c.args.c c.args.corner _ _ c.codes-code-items.ensures in
    IfOk-weaker c.finish.result _ _
    (λ z e. ap (states_of (size g)) (e ∙ sum)
    ∙ states_of-image c.args.axis g c.size-n.ensures.grid c.args.c c.args.corner c.args.z.now
    (indices_from_All (size g) c.args.z.now c.requires.indices)) c.finish.ensures

pub returns-clause-indices_again : goal.returns-clause-indices_again
returns-clause-indices_again c =
    let g = c.args.g.now in
    let codes = c.codes-code-items.result.now in
    let sum = c.loop-code.invariant
    ∙ ap (sum_of_images c.args.axis g c.args.c c.args.corner)
    (take_all c.loop-code.code-index codes c.loop-code-test.false)
    ∙ all_images_added c.args.axis g c.args.c c.args.corner _ _ c.codes-code-items.ensures in
    let image = image_codes c.args.axis g c.args.c c.args.corner c.args.z.now in
    let below = All_from_indices (size g) image
    (AreIndices-image c.args.axis g c.size-n.ensures.grid c.args.c c.args.corner c.args.z.now
    (indices_from_All (size g) c.args.z.now c.requires.indices)) in
    IfOk-weaker c.finish.result _ _ (λ z e. subst (HasIndices (size g)) (sym (e ∙ sum)) below) c.finish.ensures
