-- The exchanged grid has the same size, and is the one of the way back.
use Rattle.std.proofs.Common.{◌≡◌, ◌<◌, ℕ, ap, arith, subst, sym, ◌∙◌}
use Rattle.std.proofs.lemmas.Result.{IfOk-weaker}
use Rattle.f2_algebra.specs.Chain.{Chain as Codes}
use Rattle.torus_geom.specs.Codes.{HasIndices, states_of}
use Rattle.torus_geom.specs.Marks.{Marks, size}
use Rattle.grid_moves.proofs.Exchanged.SwappedTwice.{size-swapped}
use Rattle.grid_moves.specs.Moves.{swapped}
use Rattle.grid_moves.specs.declared.commutations.Axis.{Axis}
use Rattle.pentagon_map.specs.Pentagon.{image}
use Rattle.pentagon_map.specs.declared.Corner.{Corner}
use Rattle.hexagon_map.specs.Hexagon.{return_image}
use Rattle.grid_job.proofs.inversions.image_there_and_back.Goals as goal

there_and_back : (axis : Axis) (g r : Marks) (c : ℕ) (corner : Corner) (z there y : Codes) → r ≡ swapped axis g c
    → states_of (size g) there ≡ image axis g c corner (states_of (size g) z)
    → states_of (size r) y ≡ image axis r c corner (states_of (size r) there)
    → states_of (size g) y ≡ return_image axis g c corner (states_of (size g) z)
there_and_back axis g r c corner z there y grid first last =
    let same : size r ≡ size g = ap size grid ∙ size-swapped axis g c in
    ap (λ n. states_of n y) (sym same) ∙ last ∙ ap (λ n. image axis r c corner (states_of n there)) same
    ∙ ap (λ h. image axis h c corner (states_of (size g) there)) grid
    ∙ ap (image axis (swapped axis g c) c corner) first

pub image-requires-2-clause-below : goal.image-requires-2-clause-below
image-requires-2-clause-below c =
    let same = ap size c.swap.ensures.grid ∙ size-swapped c.args.axis c.args.g.now c.args.c in
    let below = c.requires.below in
    omega arith

pub image-requires-2-clause-indices : goal.image-requires-2-clause-indices
image-requires-2-clause-indices c =
    subst (λ n. HasIndices n c.in_ok-there.there)
    (sym (ap size c.swap.ensures.grid ∙ size-swapped c.args.axis c.args.g.now c.args.c))
    c.in_ok-there.ensures.indices_again

pub returns-clause-image : goal.returns-clause-image
returns-clause-image c =
    IfOk-weaker c.image-2.result _ _
    (λ y e. there_and_back c.args.axis c.args.g.now c.swap.result c.args.c c.args.corner c.args.z.now
    c.in_ok-there.there y c.swap.ensures.grid c.in_ok-there.ensures.image e) c.image-2.ensures.image

pub returns-clause-indices_again : goal.returns-clause-indices_again
returns-clause-indices_again c =
    let same = ap size c.swap.ensures.grid ∙ size-swapped c.args.axis c.args.g.now c.args.c in
    IfOk-weaker c.image-2.result _ _ (λ y ranks. subst (λ n. HasIndices n y) same ranks) c.image-2.ensures.indices_again
