use Rattle.std.proofs.Common.{◌≤◌, length, ap, Err, arith, inl}
use Rattle.grid_text.specs.Limits.{max_text}
use Rattle.grid_job.specs.Outcome.{IsOutcome}
use Rattle.grid_job.specs.declared.modes.Mode.TheVariants.{Compare}
use Rattle.grid_job.proofs.Outcomes.OutcomeLemmas.{some_compared}
use Rattle.grid_job.proofs.Outcomes.WrittenLemmas.{read_to_the_end, TakesAtMost-read, read_past_the_limit, HasWritten-long, HasWritten-read, HasWritten-unread, not_others}
use Rattle.grid_job.proofs.comparisons.compare.Goals as goal

pub returns-in-Ok-clause-read : goal.returns-in-Ok-clause-read
returns-in-Ok-clause-read g c _ =
    let within : length c.in-Ok.text.items ≤ max_text = omega (arith, c.in-Ok.ensures.within, c.deref.ensures.len) in
    read_to_the_end max_text _ _ c.in-Ok.text.items c.in-Ok.ensures.bytes c.in-Ok.ensures.to_the_end within

pub returns-in-Ok-clause-written : goal.returns-in-Ok-clause-written
returns-in-Ok-clause-written g c _ =
    HasWritten-read (IsOutcome Compare) _ _ c.in-Ok.text.items c.deref.result.now _ _ _ _ _ c.in-Ok.ensures.bytes
    c.in-Ok.ensures.to_the_end
    c.deref.ensures.value c.compare_text.ensures.written

pub returns-in-Ok-clause-not_others : goal.returns-in-Ok-clause-not_others
returns-in-Ok-clause-not_others g c =
    not_others (IsOutcome Compare c.deref.result.now) _ _ _ _ _ (λ answer never. never)
    c.compare_text.ensures.written

pub returns-in-Err-TooLong-clause-read : goal.returns-in-Err-TooLong-clause-read
returns-in-Err-TooLong-clause-read g c _ =
    read_past_the_limit max_text _ _ (c.in-Err-TooLong.ensures.too_long (ap Err c.in-Err-TooLong.field-0-is))

pub returns-in-Err-TooLong-clause-written : goal.returns-in-Err-TooLong-clause-written
returns-in-Err-TooLong-clause-written g c _ =
    HasWritten-long (IsOutcome Compare) max_text _ _ _ _ _ _ _ (λ text answer long. inl long)
    (c.in-Err-TooLong.ensures.too_long (ap Err c.in-Err-TooLong.field-0-is)) c.refuse.ensures.written

pub returns-in-Err-NoMemory-clause-written : goal.returns-in-Err-NoMemory-clause-written
returns-in-Err-NoMemory-clause-written g c _ = HasWritten-unread (IsOutcome Compare) _ _ _ some_compared

pub returns-in-Ok-clause-taken : goal.returns-in-Ok-clause-taken
returns-in-Ok-clause-taken g c =
    let within : length c.in-Ok.text.items ≤ max_text = omega (arith, c.in-Ok.ensures.within, c.deref.ensures.len) in
    TakesAtMost-read max_text _ _ c.in-Ok.text.items c.in-Ok.ensures.bytes within
