use Rattle.std.proofs.Common.{inl}
use Rattle.grid_job.specs.Outcome.{IsOutcome}
use Rattle.grid_job.specs.declared.modes.Mode.TheVariants.{Cert}
use Rattle.grid_job.proofs.Certified.CertificateLemmas.{HasWritten-certified}
use Rattle.grid_job.proofs.Outcomes.OutcomeLemmas.{some_certified}
use Rattle.grid_job.proofs.Outcomes.WrittenLemmas.{HasWritten-fault, HasWritten-nothing}
use Rattle.grid_job.proofs.certificates.certify_text.Goals as goal

pub returns-in-Ok-clause-written : goal.returns-in-Ok-clause-written
returns-in-Ok-clause-written g c =
    HasWritten-certified c.args.text.now c.in-Ok.judged.script c.in-Ok.judged.grid_line _ _ _ _ _ c.requires.within
    c.in-Ok.ensures.document c.in-Ok.ensures.head c.certify_script.ensures.written

pub returns-in-Err-Refused-clause-written : goal.returns-in-Err-Refused-clause-written
returns-in-Err-Refused-clause-written g c =
    let first = rw c.in-Err-Refused.field-0-is at c.in-Err-Refused.ensures.refused in
    HasWritten-fault (IsOutcome Cert c.args.text.now) c.args.text.now c.fault_word.result.now _ _ _ _ _ _ _
    (λ answer refusal. inl refusal)
    c.requires.within first c.fault_word.ensures c.refuse.ensures.written

pub returns-in-Err-NoMemory-clause-written : goal.returns-in-Err-NoMemory-clause-written
returns-in-Err-NoMemory-clause-written g c =
    let outcome = some_certified c.args.text.now in
    HasWritten-nothing (IsOutcome Cert c.args.text.now) _ _ outcome.0 outcome.1 outcome.2
