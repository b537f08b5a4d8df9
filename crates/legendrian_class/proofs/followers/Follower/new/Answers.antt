-- The empty chain has no states.
use Rattle.std.proofs.Common.{◌<◌, sym, ap, ◌∙◌}
use Rattle.std.proofs.lemmas.Bool.{false≢true}
use Rattle.f2_algebra.specs.Chain.{holds}
use Rattle.f2_algebra.proofs.Chains.Sets.{holds-nothing}
use Rattle.f2_algebra.proofs.Chains.Lists.{All-codes}
use Rattle.state_rank.specs.States.{factorial}
use Rattle.torus_geom.specs.Marks.{size}
use Rattle.legendrian_class.specs.FollowedCodes.{followed_of}
use Rattle.legendrian_class.proofs.FollowedStates.{followed_of-start}
use Rattle.legendrian_class.proofs.followers.Follower.new.Goals as goal

pub invariant_of-result : goal.invariant_of-result
invariant_of-result c =
    All-codes (λ code. code < factorial (size c.args.g.now)) c.empty.result
    (λ s h. absurd (false≢true (sym (ap (λ z. holds z s) c.empty.ensures ∙ holds-nothing s) ∙ h)))

pub returns : goal.returns
returns c =
    ap (λ z. followed_of (record { grid = c.args.g.now; chain = z })) c.empty.ensures
    ∙ followed_of-start c.args.g.now
