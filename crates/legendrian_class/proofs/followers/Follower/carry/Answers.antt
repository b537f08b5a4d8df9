-- The chain after a symmetry has states of the grid after it.
use Rattle.std.proofs.Common.{ap, ◌∙◌}
use Rattle.torus_geom.specs.Marks.{size}
use Rattle.torus_geom.proofs.Chains.CodesLemmas.{indices_from_All}
use Rattle.legendrian_class.specs.Followed.{after_symmetry}
use Rattle.legendrian_class.specs.FollowedCodes.{followed_of}
use Rattle.legendrian_class.proofs.FollowedLemmas.{HasIndices-after_symmetry}
use Rattle.legendrian_class.proofs.FollowedStates.{followed_of-symmetry}
use Rattle.legendrian_class.proofs.followers.Follower.carry.Goals as goal

pub invariant_of-self : goal.invariant_of-self
invariant_of-self c =
    HasIndices-after_symmetry c.args.s c.self.inside.grid c.apply-self-inside.result c.size-n.result c.self.inside.chain
    c.in_ok-self-inside.field-0 c.size-n.ensures.grid c.self.invariant c.size-n.ensures.size
    c.apply-self-inside.ensures.grid c.in_ok-self-inside.ensures

pub returns-clause-after : goal.returns-clause-after
returns-clause-after c =
    let g = c.self.inside.grid in
    followed_of-symmetry c.args.s c.size-n.result (record { grid = g; chain = c.self.inside.chain })
    (record { grid = c.apply-self-inside.result; chain = c.in_ok-self-inside.field-0 }) c.size-n.ensures.grid
    c.size-n.ensures.size (indices_from_All (size g) c.self.inside.chain c.self.invariant)
    c.apply-self-inside.ensures.grid
    c.in_ok-self-inside.ensures
    ∙ ap (λ p. after_symmetry c.args.s (followed_of p)) c.self.view_is
