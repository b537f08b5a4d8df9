use Rattle.homology_cert.specs.CertificateCodes.{certificate_of}
use Rattle.std.proofs.Common.{ap, Err}
use Rattle.grid_job.specs.Outcome.{IsOutcome}
use Rattle.grid_job.specs.declared.modes.Mode.TheVariants.{Check}
use Rattle.grid_job.proofs.Certified.CheckLemmas.{HasWritten-verdict, HasWritten-bad_line}
use Rattle.grid_job.proofs.Outcomes.OutcomeLemmas.{some_checked}
use Rattle.grid_job.proofs.Outcomes.WrittenLemmas.{HasWritten-nothing}
use Rattle.grid_job.proofs.checks.answer_certificate.Goals as goal

pub returns-in-Ok-clause-written : goal.returns-in-Ok-clause-written
returns-in-Ok-clause-written g c =
    HasWritten-verdict c.args.text.now (certificate_of c.in-Ok.certificate) _ _ _ _ _
    c.requires.within c.grid.ensures.certificate
    c.in-Ok.ensures.read c.tell_verdict.ensures.written

pub returns-in-Err-BadLine-clause-written : goal.returns-in-Err-BadLine-clause-written
returns-in-Err-BadLine-clause-written g c =
    let first = c.in-Err-BadLine.ensures.refused c.in-Err-BadLine.line (ap Err c.in-Err-BadLine.field-0-is) in
    HasWritten-bad_line c.args.text.now c.in-Err-BadLine.line _ _ _ _ _ c.requires.within first c.refuse.ensures.written

pub returns-in-Err-NoMemory-clause-written : goal.returns-in-Err-NoMemory-clause-written
returns-in-Err-NoMemory-clause-written g c =
    let outcome = some_checked c.args.text.now in
    HasWritten-nothing (IsOutcome Check c.args.text.now) _ _ outcome.0 outcome.1 outcome.2
