-- Out of memory before anything was written.
use Rattle.std.proofs.Common.{◌≡◌, refl}
use Rattle.grid_job.specs.Made.{IsMade}
use Rattle.grid_job.specs.declared.statuses.Status.TheVariants.{Done}
use Rattle.grid_job.proofs.Generated.MadeLemmas.{exists_made}
use Rattle.grid_job.proofs.Outcomes.WrittenLemmas.{HasWritten-nothing}
use Rattle.grid_job.proofs.made.make.Goals as goal

pub returns-in_default-clause-written : goal.returns-in_default-clause-written
returns-in_default-clause-written g c =
    let made = exists_made c.args.n c.args.seed c.requires.size in
    HasWritten-nothing (λ status answer. (status ≡ Done) × IsMade c.args.n c.args.seed answer) _ _ Done made.0
    (refl, made.1)
