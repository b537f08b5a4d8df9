use Rattle.std.proofs.Common.{◌≤◌, length, ap, Err, arith, inl}
use Rattle.homology_cert.specs.CertificateLimits.{max_certificate}
use Rattle.grid_job.specs.Outcome.{IsOutcome}
use Rattle.grid_job.specs.declared.modes.Mode.TheVariants.{Check}
use Rattle.grid_job.proofs.Outcomes.OutcomeLemmas.{some_checked}
use Rattle.grid_job.proofs.Outcomes.WrittenLemmas.{read_to_the_end, TakesAtMost-read, read_past_the_limit, HasWritten-long, HasWritten-read, HasWritten-unread, not_usage}
use Rattle.grid_job.proofs.checks.check.Goals as goal

pub returns-in-Ok-clause-read : goal.returns-in-Ok-clause-read
returns-in-Ok-clause-read g c _ =
    let within : length c.in-Ok.text.items ≤ max_certificate = omega
    (arith, c.in-Ok.ensures.within, c.deref.ensures.len) in
    read_to_the_end max_certificate _ _ c.in-Ok.text.items c.in-Ok.ensures.bytes c.in-Ok.ensures.to_the_end within

pub returns-in-Ok-clause-written : goal.returns-in-Ok-clause-written
returns-in-Ok-clause-written g c _ =
    HasWritten-read (IsOutcome Check) _ _ c.in-Ok.text.items c.deref.result.now _ _ _ _ _ c.in-Ok.ensures.bytes
    c.in-Ok.ensures.to_the_end
    c.deref.ensures.value c.answer_certificate.ensures.written

pub returns-in-Ok-clause-not_usage : goal.returns-in-Ok-clause-not_usage
returns-in-Ok-clause-not_usage g c = not_usage (IsOutcome Check c.deref.result.now) _ _ _ _ _
    c.answer_certificate.ensures.written

pub returns-in-Err-TooLong-clause-read : goal.returns-in-Err-TooLong-clause-read
returns-in-Err-TooLong-clause-read g c _ =
    read_past_the_limit max_certificate _ _ (c.in-Err-TooLong.ensures.too_long (ap Err c.in-Err-TooLong.field-0-is))

pub returns-in-Err-TooLong-clause-written : goal.returns-in-Err-TooLong-clause-written
returns-in-Err-TooLong-clause-written g c _ =
    HasWritten-long (IsOutcome Check) max_certificate _ _ _ _ _ _ _ (λ text answer long. inl long)
    (c.in-Err-TooLong.ensures.too_long (ap Err c.in-Err-TooLong.field-0-is)) c.refuse.ensures.written

pub returns-in-Err-NoMemory-clause-written : goal.returns-in-Err-NoMemory-clause-written
returns-in-Err-NoMemory-clause-written g c _ = HasWritten-unread (IsOutcome Check) _ _ _ some_checked

pub returns-in-Ok-clause-taken : goal.returns-in-Ok-clause-taken
returns-in-Ok-clause-taken g c =
    let within : length c.in-Ok.text.items ≤ max_certificate = omega
    (arith, c.in-Ok.ensures.within, c.deref.ensures.len) in
    TakesAtMost-read max_certificate _ _ c.in-Ok.text.items c.in-Ok.ensures.bytes within
