use Rattle.std.proofs.Common.{map, string_bytes, Global, refl, subst}
use Rattle.grid_job.specs.Outcome.{IsForm, IsOutcome}
use Rattle.grid_job.specs.declared.statuses.Status.TheVariants.{NoMemory}
use Rattle.grid_job.proofs.Generated.MadeLemmas.{exists_made}
use Rattle.grid_job.proofs.Outcomes.OutcomeLemmas.{some_outcome}
use Rattle.grid_job.specs.declared.modes.Mode.TheVariants.{Run, Cert, Check, Compare, Make}
use Rattle.grid_job.proofs.Outcomes.ModeLemmas.{told_apart}
use Rattle.grid_job.proofs.Outcomes.OptionLemmas.{IsMake-one, IsMake-size, IsMake-seed}
use Rattle.grid_job.proofs.Outcomes.WrittenLemmas.{HasEnded-written, HasBegun-written, HasWritten-made, HasWritten-unread, nothing_of, IsMade-same, left_alone, ended_not_read_fault, begun_not_read_fault, status_of_reading, status_of_mode}
use Rattle.grid_job.proofs.answers.answer_words.Goals as goal

-- ---- a run
pub returns-in-Some-Run-clause-ended : goal.returns-in-Some-Run-clause-ended
returns-in-Some-Run-clause-ended g c is_end =
    let ws = map (string_bytes {Z = Global}) c.args.words.now in
    HasEnded-written ws Run c.run.result _ _ _ _ _ _
    (subst (IsForm ws) c.in-Some-Run.field-0-is c.in-Some-Run.ensures.some) is_end (c.run.ensures.read is_end)
    (c.run.ensures.written (ended_not_read_fault c.run.result is_end))

pub returns-in-Some-Run-clause-begun : goal.returns-in-Some-Run-clause-begun
returns-in-Some-Run-clause-begun g c _ _ begun =
    let ws = map (string_bytes {Z = Global}) c.args.words.now in
    HasBegun-written ws Run c.run.result _ _ _ _ _ (subst (IsForm ws) c.in-Some-Run.field-0-is
    c.in-Some-Run.ensures.some)
    (c.run.ensures.written (begun_not_read_fault c.run.result begun))

pub returns-in-Some-Run-clause-answer : goal.returns-in-Some-Run-clause-answer
returns-in-Some-Run-clause-answer g c mode form source_kept sink_kept =
    let ws = map (string_bytes {Z = Global}) c.args.words.now in
    status_of_reading ws mode Run c.run.result _ _ _ _ _ _ _ form
    (subst (IsForm ws) c.in-Some-Run.field-0-is c.in-Some-Run.ensures.some)
    c.requires.source_count c.requires.sink_count source_kept sink_kept (λ e. (c.run.ensures.read_fault e).0)
    c.run.ensures.written

pub returns-in-Some-Run-clause-make_reads_nothing : goal.returns-in-Some-Run-clause-make_reads_nothing
returns-in-Some-Run-clause-make_reads_nothing g c n s make =
    let ws = map (string_bytes {Z = Global}) c.args.words.now in
    absurd (told_apart ws Run (Make n s) refl (subst (IsForm ws) c.in-Some-Run.field-0-is c.in-Some-Run.ensures.some)
    make)

pub returns-in-Some-Run-clause-no : goal.returns-in-Some-Run-clause-no
returns-in-Some-Run-clause-no g c is_no = absurd (c.run.ensures.not_others.1 is_no)

-- ---- a certificate is asked for
pub returns-in-Some-Cert-clause-ended : goal.returns-in-Some-Cert-clause-ended
returns-in-Some-Cert-clause-ended g c is_end =
    let ws = map (string_bytes {Z = Global}) c.args.words.now in
    HasEnded-written ws Cert c.cert.result _ _ _ _ _ _
    (subst (IsForm ws) c.in-Some-Cert.field-0-is c.in-Some-Cert.ensures.some) is_end (c.cert.ensures.read is_end)
    (c.cert.ensures.written (ended_not_read_fault c.cert.result is_end))

pub returns-in-Some-Cert-clause-begun : goal.returns-in-Some-Cert-clause-begun
returns-in-Some-Cert-clause-begun g c _ _ begun =
    let ws = map (string_bytes {Z = Global}) c.args.words.now in
    HasBegun-written ws Cert c.cert.result _ _ _ _ _
    (subst (IsForm ws) c.in-Some-Cert.field-0-is c.in-Some-Cert.ensures.some)
    (c.cert.ensures.written (begun_not_read_fault c.cert.result begun))

pub returns-in-Some-Cert-clause-answer : goal.returns-in-Some-Cert-clause-answer
returns-in-Some-Cert-clause-answer g c mode form source_kept sink_kept =
    let ws = map (string_bytes {Z = Global}) c.args.words.now in
    status_of_reading ws mode Cert c.cert.result _ _ _ _ _ _ _ form
    (subst (IsForm ws) c.in-Some-Cert.field-0-is c.in-Some-Cert.ensures.some)
    c.requires.source_count c.requires.sink_count source_kept sink_kept (λ e. (c.cert.ensures.read_fault e).0)
    c.cert.ensures.written

pub returns-in-Some-Cert-clause-make_reads_nothing : goal.returns-in-Some-Cert-clause-make_reads_nothing
returns-in-Some-Cert-clause-make_reads_nothing g c n s make =
    let ws = map (string_bytes {Z = Global}) c.args.words.now in
    absurd (told_apart ws Cert (Make n s) refl (subst (IsForm ws) c.in-Some-Cert.field-0-is c.in-Some-Cert.ensures.some)
    make)

pub returns-in-Some-Cert-clause-no : goal.returns-in-Some-Cert-clause-no
returns-in-Some-Cert-clause-no g c is_no = absurd (c.cert.ensures.not_others.1 is_no)

-- ---- a certificate is checked
pub returns-in-Some-Check-clause-ended : goal.returns-in-Some-Check-clause-ended
returns-in-Some-Check-clause-ended g c is_end =
    let ws = map (string_bytes {Z = Global}) c.args.words.now in
    HasEnded-written ws Check c.check.result _ _ _ _ _ _
    (subst (IsForm ws) c.in-Some-Check.field-0-is c.in-Some-Check.ensures.some) is_end (c.check.ensures.read is_end)
    (c.check.ensures.written (ended_not_read_fault c.check.result is_end))

pub returns-in-Some-Check-clause-begun : goal.returns-in-Some-Check-clause-begun
returns-in-Some-Check-clause-begun g c _ _ begun =
    let ws = map (string_bytes {Z = Global}) c.args.words.now in
    HasBegun-written ws Check c.check.result _ _ _ _ _
    (subst (IsForm ws) c.in-Some-Check.field-0-is c.in-Some-Check.ensures.some)
    (c.check.ensures.written (begun_not_read_fault c.check.result begun))

pub returns-in-Some-Check-clause-answer : goal.returns-in-Some-Check-clause-answer
returns-in-Some-Check-clause-answer g c mode form source_kept sink_kept =
    let ws = map (string_bytes {Z = Global}) c.args.words.now in
    status_of_reading ws mode Check c.check.result _ _ _ _ _ _ _ form
    (subst (IsForm ws) c.in-Some-Check.field-0-is c.in-Some-Check.ensures.some)
    c.requires.source_count c.requires.sink_count source_kept sink_kept (λ e. (c.check.ensures.read_fault e).0)
    c.check.ensures.written

pub returns-in-Some-Check-clause-make_reads_nothing : goal.returns-in-Some-Check-clause-make_reads_nothing
returns-in-Some-Check-clause-make_reads_nothing g c n s make =
    let ws = map (string_bytes {Z = Global}) c.args.words.now in
    absurd (told_apart ws Check (Make n s) refl (subst (IsForm ws) c.in-Some-Check.field-0-is
    c.in-Some-Check.ensures.some) make)

pub returns-in-Some-Check-clause-no : goal.returns-in-Some-Check-clause-no
returns-in-Some-Check-clause-no g c _ =
    let ws = map (string_bytes {Z = Global}) c.args.words.now in
    subst (IsForm ws) c.in-Some-Check.field-0-is c.in-Some-Check.ensures.some

-- ---- two documents are compared
pub returns-in-Some-Compare-clause-ended : goal.returns-in-Some-Compare-clause-ended
returns-in-Some-Compare-clause-ended g c is_end =
    let ws = map (string_bytes {Z = Global}) c.args.words.now in
    HasEnded-written ws Compare c.compare.result _ _ _ _ _ _
    (subst (IsForm ws) c.in-Some-Compare.field-0-is c.in-Some-Compare.ensures.some) is_end
    (c.compare.ensures.read is_end)
    (c.compare.ensures.written (ended_not_read_fault c.compare.result is_end))

pub returns-in-Some-Compare-clause-begun : goal.returns-in-Some-Compare-clause-begun
returns-in-Some-Compare-clause-begun g c _ _ begun =
    let ws = map (string_bytes {Z = Global}) c.args.words.now in
    HasBegun-written ws Compare c.compare.result _ _ _ _ _
    (subst (IsForm ws) c.in-Some-Compare.field-0-is c.in-Some-Compare.ensures.some)
    (c.compare.ensures.written (begun_not_read_fault c.compare.result begun))

pub returns-in-Some-Compare-clause-answer : goal.returns-in-Some-Compare-clause-answer
returns-in-Some-Compare-clause-answer g c mode form source_kept sink_kept =
    let ws = map (string_bytes {Z = Global}) c.args.words.now in
    status_of_reading ws mode Compare c.compare.result _ _ _ _ _ _ _ form
    (subst (IsForm ws) c.in-Some-Compare.field-0-is c.in-Some-Compare.ensures.some)
    c.requires.source_count c.requires.sink_count source_kept sink_kept (λ e. (c.compare.ensures.read_fault e).0)
    c.compare.ensures.written

pub returns-in-Some-Compare-clause-make_reads_nothing : goal.returns-in-Some-Compare-clause-make_reads_nothing
returns-in-Some-Compare-clause-make_reads_nothing g c n s make =
    let ws = map (string_bytes {Z = Global}) c.args.words.now in
    absurd (told_apart ws Compare (Make n s) refl
    (subst (IsForm ws) c.in-Some-Compare.field-0-is c.in-Some-Compare.ensures.some)
    make)

pub returns-in-Some-Compare-clause-no : goal.returns-in-Some-Compare-clause-no
returns-in-Some-Compare-clause-no g c is_no = absurd (c.compare.ensures.not_others.1 is_no)

-- ---- a made script
pub make-requires-clause-size : goal.make-requires-clause-size
make-requires-clause-size g c =
    let ws = map (string_bytes {Z = Global}) c.args.words.now in
    IsMake-size ws c.in-Some-Make.size c.in-Some-Make.seed
    (subst (IsForm ws) c.in-Some-Make.field-0-is c.in-Some-Make.ensures.some)

pub make-requires-clause-seed : goal.make-requires-clause-seed
make-requires-clause-seed g c =
    let ws = map (string_bytes {Z = Global}) c.args.words.now in
    IsMake-seed ws c.in-Some-Make.size c.in-Some-Make.seed
    (subst (IsForm ws) c.in-Some-Make.field-0-is c.in-Some-Make.ensures.some)

pub returns-in-Some-Make-clause-ended : goal.returns-in-Some-Make-clause-ended
returns-in-Some-Make-clause-ended g c is_end =
    let ws = map (string_bytes {Z = Global}) c.args.words.now in
    let n = c.in-Some-Make.size in
    let seed = c.in-Some-Make.seed in
    HasEnded-written ws (Make n seed) c.make.result _ _ _ _ _ _
    (subst (IsForm ws) c.in-Some-Make.field-0-is c.in-Some-Make.ensures.some) is_end
    (left_alone n seed _ _ refl) (HasWritten-made n seed _ c.make.result _ _ _ _ c.make.ensures.written)

pub returns-in-Some-Make-clause-begun : goal.returns-in-Some-Make-clause-begun
returns-in-Some-Make-clause-begun g c _ _ begun =
    let ws = map (string_bytes {Z = Global}) c.args.words.now in
    let n = c.in-Some-Make.size in
    let seed = c.in-Some-Make.seed in
    HasBegun-written ws (Make n seed) c.make.result _ _ _ _ _
    (subst (IsForm ws) c.in-Some-Make.field-0-is c.in-Some-Make.ensures.some)
    (HasWritten-made n seed _ c.make.result _ _ _ _ c.make.ensures.written)

pub returns-in-Some-Make-clause-answer : goal.returns-in-Some-Make-clause-answer
returns-in-Some-Make-clause-answer g c mode form source_kept sink_kept =
    let ws = map (string_bytes {Z = Global}) c.args.words.now in
    let n = c.in-Some-Make.size in
    let seed = c.in-Some-Make.seed in
    status_of_mode ws mode (Make n seed) c.make.result _ _ _ _ _ form
    (subst (IsForm ws) c.in-Some-Make.field-0-is c.in-Some-Make.ensures.some)
    c.requires.sink_count sink_kept (HasWritten-made n seed _ c.make.result _ _ _ _ c.make.ensures.written)

pub returns-in-Some-Make-clause-no : goal.returns-in-Some-Make-clause-no
returns-in-Some-Make-clause-no g c is_no = absurd (c.make.ensures.not_no is_no)

-- what is said of `make` without the text of a source
pub returns-in-Some-Make-clause-make_ended : goal.returns-in-Some-Make-clause-make_ended
returns-in-Some-Make-clause-make_ended g c size seed make is_end =
    let ws = map (string_bytes {Z = Global}) c.args.words.now in
    let same = IsMake-one ws _ _ _ _ (subst (IsForm ws) c.in-Some-Make.field-0-is c.in-Some-Make.ensures.some) make in
    let whole = c.make.ensures.written.whole is_end in
    (whole.1.0, (whole.0, IsMade-same _ _ _ _ _ same.0 same.1 whole.1.1, whole.2))

pub returns-in-Some-Make-clause-make_begun : goal.returns-in-Some-Make-clause-make_begun
returns-in-Some-Make-clause-make_begun g c size seed make _ =
    let ws = map (string_bytes {Z = Global}) c.args.words.now in
    let same = IsMake-one ws _ _ _ _ (subst (IsForm ws) c.in-Some-Make.field-0-is c.in-Some-Make.ensures.some) make in
    let part = c.make.ensures.written.part in
    (part.1, IsMade-same _ _ _ _ _ same.0 same.1 part.2.1, part.3)

pub returns-in-None-clause-make_answer : goal.returns-in-None-clause-make_answer
returns-in-None-clause-make_answer g c size seed make _ =
    let ws = map (string_bytes {Z = Global}) c.args.words.now in
    absurd (c.in-None.ensures.none (Make size seed) make)

-- ---- memory ran out before anything was done
pub returns-in_default-clause-begun : goal.returns-in_default-clause-begun
returns-in_default-clause-begun g c mode form _ =
    let ws = map (string_bytes {Z = Global}) c.args.words.now in
    HasBegun-written ws mode NoMemory _ 0 0 _ _ form
    (HasWritten-unread (IsOutcome mode) _ 0 _ (λ text. some_outcome ws mode text form))

pub returns-in_default-clause-make_begun : goal.returns-in_default-clause-make_begun
returns-in_default-clause-make_begun g c size seed make _ =
    let ws = map (string_bytes {Z = Global}) c.args.words.now in
    let made = exists_made size seed (IsMake-size ws size seed make) in
    (made.0, made.1, nothing_of _ made.0)
