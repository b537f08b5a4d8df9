-- The image has states of the exchanged grid; the laws hold of the grid as it was.
use Rattle.std.proofs.Common.{ap, subst, sym, ◌∙◌}
use Rattle.torus_geom.specs.Codes.{HasIndices}
use Rattle.torus_geom.specs.Marks.{IsGrid, size}
use Rattle.grid_moves.proofs.Exchanged.SwappedTwice.{size-swapped}
use Rattle.legendrian_class.specs.Followed.{after_commutation}
use Rattle.legendrian_class.specs.FollowedCodes.{followed_of}
use Rattle.legendrian_class.proofs.FollowedStates.{followed_of-exchanged}
use Rattle.legendrian_class.proofs.StateBounds.{followed_bounds_alike, minus_state_bounds_alike, plus_state_bounds_alike}
use Rattle.legendrian_class.proofs.followers.Follower.commute.Goals as goal

pub invariant_of-self : goal.invariant_of-self
invariant_of-self c =
    subst (λ n. HasIndices n c.in_ok-self-inside.field-0)
    (sym (ap size c.swap-self-inside.ensures.grid ∙ size-swapped c.args.axis c.self.inside.grid c.args.c))
    c.in_ok-self-inside.ensures.indices_again

pub returns-clause-after : goal.returns-clause-after
returns-clause-after c =
    followed_of-exchanged c.args.axis c.args.c c.args.corner
    (record { grid = c.self.inside.grid; chain = c.self.inside.chain })
    (record { grid = c.swap-self-inside.result; chain = c.in_ok-self-inside.field-0 }) c.swap-self-inside.ensures.grid
    c.in_ok-self-inside.ensures.image
    ∙ ap (λ p. after_commutation c.args.axis c.args.c c.args.corner (followed_of p)) c.self.view_is

pub returns-in_err-self-inside-clause-plus_bounds : goal.returns-in_err-self-inside-clause-plus_bounds
returns-in_err-self-inside-clause-plus_bounds c =
    plus_state_bounds_alike c.args.axis c.args.self.now.grid
    (subst IsGrid (ap (λ p. p.grid) c.self.view_is) c.size.ensures.grid) c.args.c c.requires.below c.requires.commutes

pub returns-in_err-self-inside-clause-minus_bounds : goal.returns-in_err-self-inside-clause-minus_bounds
returns-in_err-self-inside-clause-minus_bounds c =
    minus_state_bounds_alike c.args.axis c.args.self.now.grid
    (subst IsGrid (ap (λ p. p.grid) c.self.view_is) c.size.ensures.grid) c.args.c c.requires.below c.requires.commutes

pub returns-clause-plus_bounds : goal.returns-clause-plus_bounds
returns-clause-plus_bounds c =
    plus_state_bounds_alike c.args.axis c.args.self.now.grid
    (subst IsGrid (ap (λ p. p.grid) c.self.view_is) c.size.ensures.grid) c.args.c c.requires.below c.requires.commutes

pub returns-clause-minus_bounds : goal.returns-clause-minus_bounds
returns-clause-minus_bounds c =
    minus_state_bounds_alike c.args.axis c.args.self.now.grid
    (subst IsGrid (ap (λ p. p.grid) c.self.view_is) c.size.ensures.grid) c.args.c c.requires.below c.requires.commutes

pub returns-in_err-self-inside-clause-cycle_bounds : goal.returns-in_err-self-inside-clause-cycle_bounds
returns-in_err-self-inside-clause-cycle_bounds c =
    followed_bounds_alike c.args.axis c.args.self.now
    (subst IsGrid (ap (λ p. p.grid) c.self.view_is) c.size.ensures.grid) c.args.c c.requires.below c.requires.commutes
    c.args.corner

pub returns-clause-cycle_bounds : goal.returns-clause-cycle_bounds
returns-clause-cycle_bounds c =
    followed_bounds_alike c.args.axis c.args.self.now
    (subst IsGrid (ap (λ p. p.grid) c.self.view_is) c.size.ensures.grid) c.args.c c.requires.below c.requires.commutes
    c.args.corner
