use Rattle.grid_text.proofs.Paths.JudgementLemmas.{no_document}
use Rattle.grid_job.specs.Outcome.{IsOutcome}
use Rattle.grid_job.specs.declared.modes.Mode.TheVariants.{Run}
use Rattle.grid_job.proofs.Outcomes.OutcomeLemmas.{some_report}
use Rattle.grid_job.proofs.Outcomes.WrittenLemmas.{HasWritten-script, HasWritten-fault, HasWritten-nothing}
use Rattle.grid_job.proofs.runs.answer_text.Goals as goal

pub returns-in-Ok-clause-written : goal.returns-in-Ok-clause-written
returns-in-Ok-clause-written g c =
    HasWritten-script c.args.text.now _ _ _ _ _ _ c.requires.within c.in-Ok.ensures.document c.answer_script.ensures

-- a document has no first fault
pub returns-in-Ok-clause-memory : goal.returns-in-Ok-clause-memory
returns-in-Ok-clause-memory g c _ fault line first =
    absurd (no_document c.args.text.now fault line _ first c.in-Ok.ensures.document)

pub returns-in-Err-Refused-clause-written : goal.returns-in-Err-Refused-clause-written
returns-in-Err-Refused-clause-written g c =
    let first = rw c.in-Err-Refused.field-0-is at c.in-Err-Refused.ensures.refused in
    HasWritten-fault (IsOutcome Run c.args.text.now) c.args.text.now c.fault_word.result.now _ _ _ _ _ _ _
    (λ answer refusal. refusal) c.requires.within first c.fault_word.ensures c.refuse.ensures.written

pub returns-in-Err-NoMemory-clause-written : goal.returns-in-Err-NoMemory-clause-written
returns-in-Err-NoMemory-clause-written g c =
    let outcome = some_report c.args.text.now in
    HasWritten-nothing (IsOutcome Run c.args.text.now) _ _ outcome.0 outcome.1 outcome.2
