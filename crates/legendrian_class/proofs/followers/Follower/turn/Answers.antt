-- The turned chain has states of the turned grid; the laws hold of the grid as it was.
use Rattle.std.proofs.Common.{ap, subst, ◌∙◌}
use Rattle.torus_geom.specs.Marks.{IsGrid, size}
use Rattle.torus_geom.proofs.Chains.CodesLemmas.{indices_from_All}
use Rattle.legendrian_class.specs.Followed.{after_turn}
use Rattle.legendrian_class.specs.FollowedCodes.{followed_of}
use Rattle.legendrian_class.proofs.FollowedLemmas.{HasIndices-after_turn}
use Rattle.legendrian_class.proofs.FollowedStates.{followed_of-turned}
use Rattle.legendrian_class.proofs.StateBounds.{minus_state_bounds_turned, plus_state_bounds_turned}
use Rattle.legendrian_class.proofs.followers.Follower.turn.Goals as goal

pub invariant_of-self : goal.invariant_of-self
invariant_of-self c =
    HasIndices-after_turn c.args.side c.self.inside.grid c.turn-self-inside.result c.size-n.result c.self.inside.chain
    c.in_ok-self-inside.field-0
    c.self.invariant c.size-n.ensures.size c.turn-self-inside.ensures.grid c.in_ok-self-inside.ensures

pub returns-clause-after : goal.returns-clause-after
returns-clause-after c =
    let g = c.self.inside.grid in
    followed_of-turned c.args.side c.size-n.result (record { grid = g; chain = c.self.inside.chain })
    (record { grid = c.turn-self-inside.result; chain = c.in_ok-self-inside.field-0 }) c.size-n.ensures.size
    (indices_from_All (size g) c.self.inside.chain c.self.invariant) c.turn-self-inside.ensures.grid
    c.in_ok-self-inside.ensures
    ∙ ap (λ p. after_turn c.args.side (followed_of p)) c.self.view_is

pub returns-in_err-self-inside-clause-plus_bounds : goal.returns-in_err-self-inside-clause-plus_bounds
returns-in_err-self-inside-clause-plus_bounds c =
    plus_state_bounds_turned c.args.side c.args.self.now.grid
    (subst IsGrid (ap (λ p. p.grid) c.self.view_is) c.size-n.ensures.grid)

pub returns-in_err-self-inside-clause-minus_bounds : goal.returns-in_err-self-inside-clause-minus_bounds
returns-in_err-self-inside-clause-minus_bounds c =
    minus_state_bounds_turned c.args.side c.args.self.now.grid
    (subst IsGrid (ap (λ p. p.grid) c.self.view_is) c.size-n.ensures.grid)

pub returns-clause-plus_bounds : goal.returns-clause-plus_bounds
returns-clause-plus_bounds c =
    plus_state_bounds_turned c.args.side c.args.self.now.grid
    (subst IsGrid (ap (λ p. p.grid) c.self.view_is) c.size-n.ensures.grid)

pub returns-clause-minus_bounds : goal.returns-clause-minus_bounds
returns-clause-minus_bounds c =
    minus_state_bounds_turned c.args.side c.args.self.now.grid
    (subst IsGrid (ap (λ p. p.grid) c.self.view_is) c.size-n.ensures.grid)
