use Rattle.std.proofs.Common.{◌≤◌, length, ap, Err, arith, inl}
use Rattle.grid_text.specs.Limits.{max_text}
use Rattle.grid_job.specs.Outcome.{IsOutcome}
use Rattle.grid_job.specs.declared.modes.Mode.TheVariants.{Cert}
use Rattle.grid_job.proofs.Outcomes.OutcomeLemmas.{some_certified}
use Rattle.grid_job.proofs.Outcomes.WrittenLemmas.{read_to_the_end, read_past_the_limit, HasWritten-long, HasWritten-read, HasWritten-unread, not_others}
use Rattle.grid_job.proofs.certificates.cert.Goals as goal

pub returns-in-Ok-clause-read : goal.returns-in-Ok-clause-read
returns-in-Ok-clause-read g c _ =
    let within : length c.in-Ok.text.items ≤ max_text = omega (arith, c.in-Ok.ensures.within, c.deref.ensures.len) in
    read_to_the_end max_text _ _ c.in-Ok.text.items c.in-Ok.ensures.bytes c.in-Ok.ensures.to_the_end within

pub returns-in-Ok-clause-written : goal.returns-in-Ok-clause-written
returns-in-Ok-clause-written g c _ =
    HasWritten-read (IsOutcome Cert) _ _ c.in-Ok.text.items c.deref.result.now _ _ _ _ _ c.in-Ok.ensures.bytes
    c.in-Ok.ensures.to_the_end
    c.deref.ensures.value c.certify_text.ensures.written

pub returns-in-Ok-clause-not_others : goal.returns-in-Ok-clause-not_others
returns-in-Ok-clause-not_others g c = not_others (IsOutcome Cert c.deref.result.now) _ _ _ _ _ (λ answer never. never)
    c.certify_text.ensures.written

pub returns-in-Err-TooLong-clause-read : goal.returns-in-Err-TooLong-clause-read
returns-in-Err-TooLong-clause-read g c _ =
    read_past_the_limit max_text _ _ (c.in-Err-TooLong.ensures.too_long (ap Err c.in-Err-TooLong.field-0-is))

pub returns-in-Err-TooLong-clause-written : goal.returns-in-Err-TooLong-clause-written
returns-in-Err-TooLong-clause-written g c _ =
    HasWritten-long (IsOutcome Cert) max_text _ _ _ _ _ _ _ (λ text answer long. inl (inl long))
    (c.in-Err-TooLong.ensures.too_long (ap Err c.in-Err-TooLong.field-0-is)) c.refuse.ensures.written

pub returns-in-Err-NoMemory-clause-written : goal.returns-in-Err-NoMemory-clause-written
returns-in-Err-NoMemory-clause-written g c _ = HasWritten-unread (IsOutcome Cert) _ _ _ some_certified
