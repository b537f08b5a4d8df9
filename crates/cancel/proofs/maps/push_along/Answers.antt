-- The marks give the correction.
use Rattle.std.proofs.Common.{length, ap, ◌∙◌}
use Rattle.std.proofs.lemmas.List.{length-map}
use Rattle.cancel.specs.Logs.{log_of, entry_of}
use Rattle.cancel.specs.Inner.Passes.{held, correction_by_marks}
use Rattle.cancel.proofs.MapLemmas.{length-held, correction-marks}
use Rattle.cancel.proofs.maps.push_along.Goals as goal

pub correct_along-requires-clause-long : goal.correct_along-requires-clause-long
correct_along-requires-clause-long c =
    ap length (c.deref.ensures.value ∙ c.in_ok-rest_along.ensures.marks)
    ∙ length-held (log_of c.args.entries.now) _
    ∙ length-map c.args.entries.now entry_of

pub returns-clause-correction : goal.returns-clause-correction
returns-clause-correction c =
    c.in_ok-correction.ensures
    ∙ ap (correction_by_marks (log_of c.args.entries.now))
    (c.deref.ensures.value ∙ c.in_ok-rest_along.ensures.marks
    ∙ ap (held (log_of c.args.entries.now)) c.in_ok-chain.ensures)
    ∙ correction-marks (log_of c.args.entries.now) c.args.z.now
