-- The laws hold of the grid as it was, whatever the call answers.
use Rattle.std.proofs.Common.{ap, subst, ◌∙◌}
use Rattle.torus_geom.specs.Chains.{single}
use Rattle.torus_geom.specs.Front.{minus_state, plus_state}
use Rattle.torus_geom.specs.Marks.{IsGrid, size}
use Rattle.pentagon_map.proofs.FrontStates.ByAxis.{plus_state-transposed}
use Rattle.pentagon_map.proofs.FrontStates.PlusState.{IsBijection-plus_state}
use Rattle.grid_symmetry.specs.declared.symmetries.Symmetry.TheVariants.{Flip, Half}
use Rattle.grid_symmetry.proofs.FrontStates.{minus_state-half_turned, plus_state-half_turned}
use Rattle.grid_symmetry.proofs.StateLaws.{border-symmetric, symmetric_chain-single}
use Rattle.legendrian_class.proofs.followers.Follower.symmetry.Goals as goal

pub returns-clause-carries_border : goal.returns-clause-carries_border
returns-clause-carries_border c =
    border-symmetric c.args.s c.args.self.now.grid (subst IsGrid (ap (λ p. p.grid) c.self.view_is) c.size.ensures.grid)

pub returns-clause-flip_plus : goal.returns-clause-flip_plus
returns-clause-flip_plus c =
    let g = c.args.self.now.grid in
    let grid : IsGrid g = subst IsGrid (ap (λ p. p.grid) c.self.view_is) c.size.ensures.grid in
    symmetric_chain-single Flip (size g) (plus_state g) (IsBijection-plus_state g grid)
    ∙ ap single (plus_state-transposed g grid)

pub returns-clause-flip_minus : goal.returns-clause-flip_minus
returns-clause-flip_minus c =
    let g = c.args.self.now.grid in
    let grid : IsGrid g = subst IsGrid (ap (λ p. p.grid) c.self.view_is) c.size.ensures.grid in
    symmetric_chain-single Flip (size g) (minus_state g) grid.x

pub returns-clause-half_plus : goal.returns-clause-half_plus
returns-clause-half_plus c =
    let g = c.args.self.now.grid in
    let grid : IsGrid g = subst IsGrid (ap (λ p. p.grid) c.self.view_is) c.size.ensures.grid in
    symmetric_chain-single Half (size g) (plus_state g) (IsBijection-plus_state g grid)
    ∙ ap single (plus_state-half_turned g grid)

pub returns-clause-half_minus : goal.returns-clause-half_minus
returns-clause-half_minus c =
    let g = c.args.self.now.grid in
    let grid : IsGrid g = subst IsGrid (ap (λ p. p.grid) c.self.view_is) c.size.ensures.grid in
    symmetric_chain-single Half (size g) (minus_state g) grid.x ∙ ap single (minus_state-half_turned g grid)
