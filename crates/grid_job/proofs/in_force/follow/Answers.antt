-- The states of a command that is allowed are states of the grid.
use Rattle.grid_job.specs.InForce.{after_command}
use Rattle.legendrian_class.specs.FollowedCodes.{followed_of}
use Rattle.std.proofs.Common.{subst, sym, ap, ◌∙◌}
use Rattle.torus_geom.specs.Codes.{HasIndices}
use Rattle.torus_geom.specs.Marks.{size}
use Rattle.grid_text.specs.Commands.{IsAllowed}
use Rattle.grid_job.proofs.Reported.ChainLemmas.{ranks-below, followed_of-listed}
use Rattle.grid_job.proofs.in_force.follow.Goals as goal

pub set-requires : goal.set-requires
set-requires c =
    let g = c.args.p.now.grid in
    record {
      indices =
          subst (HasIndices (size g)) (sym c.in_ok-chain_of-in-Chain.ensures)
          (ranks-below g _ (subst (IsAllowed g) c.in-Chain.is c.requires).0);
    }

pub returns-in_ok-chain_of-in-Chain-clause-after : goal.returns-in_ok-chain_of-in-Chain-clause-after
returns-in_ok-chain_of-in-Chain-clause-after c =
    let g = c.args.p.now.grid in
    followed_of-listed g _ (subst (IsAllowed g) c.in-Chain.is c.requires).0 c.set.new.self c.set.ensures.grid
    (c.set.ensures.chain ∙ c.in_ok-chain_of-in-Chain.ensures)
    ∙ sym (ap (after_command (followed_of c.args.p.now)) c.in-Chain.is)
