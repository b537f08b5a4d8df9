use Rattle.std.proofs.Common.{◌≡◌, ◌≤◌, ℕ, List, length, ap, subst, sym, Err, arith, inl}
use Rattle.grid_text.specs.Limits.{max_text}
use Rattle.grid_job.specs.Outcome.{IsRefusal, IsOutcome}
use Rattle.grid_job.specs.declared.modes.Mode.TheVariants.{Run}
use Rattle.grid_text.specs.Faults.{IsFirstFault}
use Rattle.grid_job.proofs.Outcomes.OutcomeLemmas.{some_report, fault_of_refusal}
use Rattle.grid_job.proofs.Outcomes.WrittenLemmas.{IfSome-read, read_to_the_end, read_past_the_limit, HasWritten-long, HasWritten-read, HasWritten-unread, not_others}
use Rattle.grid_job.proofs.runs.run.Goals as goal

pub returns-in-Ok-clause-read : goal.returns-in-Ok-clause-read
returns-in-Ok-clause-read g c _ =
    let within : length c.in-Ok.text.items ≤ max_text = omega (arith, c.in-Ok.ensures.within, c.deref.ensures.len) in
    read_to_the_end max_text _ _ c.in-Ok.text.items c.in-Ok.ensures.bytes c.in-Ok.ensures.to_the_end within

pub returns-in-Ok-clause-written : goal.returns-in-Ok-clause-written
returns-in-Ok-clause-written g c _ =
    HasWritten-read (IsOutcome Run) _ _ c.in-Ok.text.items c.deref.result.now _ _ _ _ _ c.in-Ok.ensures.bytes
    c.in-Ok.ensures.to_the_end
    c.deref.ensures.value c.answer_text.ensures.written

pub returns-in-Ok-clause-not_others : goal.returns-in-Ok-clause-not_others
returns-in-Ok-clause-not_others g c = not_others (IsOutcome Run c.deref.result.now) _ _ _ _ _ (λ answer never. never)
    c.answer_text.ensures.written

pub returns-in-Err-TooLong-clause-read : goal.returns-in-Err-TooLong-clause-read
returns-in-Err-TooLong-clause-read g c _ =
    read_past_the_limit max_text _ _ (c.in-Err-TooLong.ensures.too_long (ap Err c.in-Err-TooLong.field-0-is))

pub returns-in-Err-TooLong-clause-written : goal.returns-in-Err-TooLong-clause-written
returns-in-Err-TooLong-clause-written g c _ =
    HasWritten-long (IsOutcome Run) max_text _ _ _ _ _ _ _ (λ text answer long. inl long)
    (c.in-Err-TooLong.ensures.too_long (ap Err c.in-Err-TooLong.field-0-is)) c.refuse.ensures.written

pub returns-in-Err-NoMemory-clause-written : goal.returns-in-Err-NoMemory-clause-written
returns-in-Err-NoMemory-clause-written g c _ = HasWritten-unread (IsOutcome Run) _ _ _ some_report

pub returns-in-Ok-clause-memory : goal.returns-in-Ok-clause-memory
returns-in-Ok-clause-memory g c is_memory =
    let within : length c.in-Ok.text.items ≤ max_text = omega (arith, c.in-Ok.ensures.within, c.deref.ensures.len) in
    IfSome-read _ _ c.in-Ok.text.items (λ text. (answer : List ℕ) → IsRefusal text answer
    → c.answer_text.new.out ≡ c.args.out.now) c.in-Ok.ensures.bytes c.in-Ok.ensures.to_the_end
    (λ answer refusal. let faulty = fault_of_refusal c.in-Ok.text.items answer within refusal in
    c.answer_text.ensures.memory is_memory faulty.fault faulty.number
    (subst (λ text. IsFirstFault text faulty.fault faulty.number) (sym c.deref.ensures.value) faulty.first))
