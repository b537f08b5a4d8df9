-- The states that are listed are those of the homotopy, in order.
use Rattle.std.proofs.Common.{◌≡◌, length, subst, ◌∙◌}
use Rattle.std.proofs.lemmas.List.Elements.{All-contains}
use Rattle.std.specs.List.{All}
use Rattle.state_rank.specs.Bijection.{IsBijection}
use Rattle.state_rank.specs.States.{IsState}
use Rattle.torus_geom.specs.Marks.{size}
use Rattle.hexagon_map.proofs.States.RaisedDegrees.{alexander-listed, maslov_o-listed}
use Rattle.hexagon_map.proofs.States.StateHomotopies.{homotopy_in_order}
use Rattle.hexagon_map.proofs.homotopies.hexagon_targets.Goals as goal

pub returns-clause-homotopy : goal.returns-clause-homotopy
returns-clause-homotopy c =
    let g = c.args.g.now in
    let ys = c.targets_across.result.items in
    let s = c.size.ensures.grid in
    homotopy_in_order c.args.axis g s c.args.c c.args.corner c.args.x.now
    (subst (λ n. IsBijection n c.args.x.now) c.requires.size c.size-2.ensures.state.bijection) ys
    (λ y m.
    let (sy, ey) =
    All-contains (λ y. IsState y × (length y ≡ size c.across-t.result)) ys y c.targets_across.ensures.states m in
    subst (λ n. IsBijection n y) (ey ∙ c.across-t.ensures.size) sy.bijection)
    (c.targets_across.ensures.homotopy g c.args.corner s c.across-t.ensures.grid c.crossing_row-w.ensures.row
    c.crossing_row_back-v.ensures.row)

pub returns-clause-raises_maslov : goal.returns-clause-raises_maslov
returns-clause-raises_maslov c =
    let g = c.args.g.now in
    let s = c.size.ensures.grid in
    maslov_o-listed c.args.axis g s c.args.c c.requires.below c.requires.commutes c.args.corner c.args.x.now
    (subst (λ n. IsBijection n c.args.x.now) c.requires.size c.size-2.ensures.state.bijection)
    c.targets_across.result.items
    (c.targets_across.ensures.homotopy g c.args.corner s c.across-t.ensures.grid c.crossing_row-w.ensures.row
    c.crossing_row_back-v.ensures.row)
    (subst (λ n. All (λ y. IsState y × (length y ≡ n)) c.targets_across.result.items) c.across-t.ensures.size
    c.targets_across.ensures.states)

pub returns-clause-keeps_alexander : goal.returns-clause-keeps_alexander
returns-clause-keeps_alexander c =
    let g = c.args.g.now in
    let s = c.size.ensures.grid in
    alexander-listed c.args.axis g s c.args.c c.requires.below c.requires.commutes c.args.corner c.args.x.now
    (subst (λ n. IsBijection n c.args.x.now) c.requires.size c.size-2.ensures.state.bijection)
    c.targets_across.result.items
    (c.targets_across.ensures.homotopy g c.args.corner s c.across-t.ensures.grid c.crossing_row-w.ensures.row
    c.crossing_row_back-v.ensures.row)
    (subst (λ n. All (λ y. IsState y × (length y ≡ n)) c.targets_across.result.items) c.across-t.ensures.size
    c.targets_across.ensures.states)
