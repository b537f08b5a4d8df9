-- The states that are listed are those of the image, in order.
use Rattle.std.proofs.Common.{◌≡◌, length, get_or, subst, ◌∙◌}
use Rattle.std.proofs.lemmas.List.Elements.{All-contains}
use Rattle.state_rank.specs.Bijection.{IsBijection}
use Rattle.state_rank.specs.States.{IsState}
use Rattle.torus_geom.specs.Marks.{size}
use Rattle.pentagon_map.specs.Inner.CodeImages.{image_of_state}
use Rattle.pentagon_map.proofs.Degrees.KeptDegrees.{maslov_o-image_of_state, alexander-image_of_state, listed_holds}
use Rattle.pentagon_map.proofs.States.StateImages.{image_in_order}
use Rattle.pentagon_map.proofs.images.pentagon_targets.Goals as goal

pub returns-clause-image : goal.returns-clause-image
returns-clause-image c =
    let g = c.args.g.now in
    let ys = c.targets_across.result.items in
    let s = c.size.ensures.grid in
    image_in_order c.args.axis g s c.args.c c.args.corner c.args.x.now
    (subst (λ n. IsBijection n c.args.x.now) c.requires.size c.size-2.ensures.state.bijection) ys
    (λ y m.
    let (sy, ey) =
    All-contains (λ y. IsState y × (length y ≡ size c.across-t.result)) ys y c.targets_across.ensures.states m in
    subst (λ n. IsBijection n y) (ey ∙ c.across-t.ensures.size) sy.bijection)
    (c.targets_across.ensures.image g c.args.corner s c.across-t.ensures.grid c.crossing_row-w.ensures.row)

pub returns-clause-keeps_maslov : goal.returns-clause-keeps_maslov
returns-clause-keeps_maslov c k d l =
    let g = c.args.g.now in
    let ys = c.targets_across.result.items in
    let s = c.size.ensures.grid in
    let (sy, ey) = c.targets_across.ensures.states k d l in
    maslov_o-image_of_state c.args.axis g s c.args.c c.requires.below c.requires.commutes c.args.corner c.args.x.now
    (get_or ys k d) c.size-2.ensures.state c.requires.size sy (ey ∙ c.across-t.ensures.size)
    (listed_holds (image_of_state c.args.axis g c.args.c c.args.corner c.args.x.now) ys
    (c.targets_across.ensures.image g c.args.corner s c.across-t.ensures.grid c.crossing_row-w.ensures.row) k d l)

pub returns-clause-keeps_alexander : goal.returns-clause-keeps_alexander
returns-clause-keeps_alexander c k d l =
    let g = c.args.g.now in
    let ys = c.targets_across.result.items in
    let s = c.size.ensures.grid in
    let (sy, ey) = c.targets_across.ensures.states k d l in
    alexander-image_of_state c.args.axis g s c.args.c c.requires.below c.requires.commutes c.args.corner c.args.x.now
    (get_or ys k d) c.size-2.ensures.state c.requires.size sy (ey ∙ c.across-t.ensures.size)
    (listed_holds (image_of_state c.args.axis g c.args.c c.args.corner c.args.x.now) ys
    (c.targets_across.ensures.image g c.args.corner s c.across-t.ensures.grid c.crossing_row-w.ensures.row) k d l)
