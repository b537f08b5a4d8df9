use Rattle.std.proofs.Common.{refl}
use Rattle.grid_text.specs.Pairs.{in_part, no_next}
use Rattle.grid_job.specs.Outcome.{IsOutcome}
use Rattle.grid_job.specs.declared.modes.Mode.TheVariants.{Compare}
use Rattle.grid_job.proofs.Compared.ComparisonLemmas.{HasWritten-compared, HasWritten-pair_fault}
use Rattle.grid_job.proofs.Outcomes.OutcomeLemmas.{some_compared}
use Rattle.grid_job.proofs.Outcomes.WrittenLemmas.{HasWritten-nothing}
use Rattle.grid_job.proofs.comparisons.compare_text.Goals as goal

pub returns-in-Ok-clause-written : goal.returns-in-Ok-clause-written
returns-in-Ok-clause-written g c =
    HasWritten-compared c.args.text.now c.in-Ok.pair.first c.in-Ok.pair.second _ _ _ _ _ c.requires.within
    c.in-Ok.ensures.pair c.compare_pair.ensures.written

pub returns-in-Err-Refused-clause-written : goal.returns-in-Err-Refused-clause-written
returns-in-Err-Refused-clause-written g c =
    let first = rw c.in-Err-Refused.field-0-is at c.in-Err-Refused.ensures.refused in
    HasWritten-pair_fault c.args.text.now c.fault_word.result.now (in_part c.in-Err-Refused.fault) _ _ _ _ _ _
    c.requires.within first c.fault_word.ensures c.refuse.ensures.written

pub returns-in-Err-NoNext-clause-written : goal.returns-in-Err-NoNext-clause-written
returns-in-Err-NoNext-clause-written g c =
    let first = rw c.in-Err-NoNext.field-0-is at c.in-Err-NoNext.ensures.refused in
    HasWritten-pair_fault c.args.text.now _ no_next _ _ _ _ _ _ c.requires.within first refl
    c.refuse-in-Err-NoNext.ensures.written

pub returns-in-Err-NoMemory-clause-written : goal.returns-in-Err-NoMemory-clause-written
returns-in-Err-NoMemory-clause-written g c =
    let outcome = some_compared c.args.text.now in
    HasWritten-nothing (IsOutcome Compare c.args.text.now) _ _ outcome.0 outcome.1 outcome.2
