-- The words are those of no mode.
use Rattle.std.proofs.Common.{map, string_bytes, Global, sym, ◌∙◌}
use Rattle.std.proofs.lemmas.Bool.{false≢true}
use Rattle.grid_job.specs.Words.{IsMake}
use Rattle.grid_job.proofs.Outcomes.ModeLemmas.{no_mode, not_made}
use Rattle.grid_job.proofs.modes.mode_of.Goals as goal

pub returns-in_default-clause-none : goal.returns-in_default-clause-none
returns-in_default-clause-none c =
    no_mode (map (string_bytes {Z = Global}) c.args.words.now)
    (λ run. false≢true (sym c.if-is_alone.false ∙ c.is_alone.ensures.1 run))
    (λ cert. false≢true (sym c.if-is_alone-2.false ∙ c.is_alone-2.ensures.1 cert))
    (λ check. false≢true (sym c.if-is_alone-3.false ∙ c.is_alone-3.ensures.1 check))
    (λ compare. false≢true (sym c.if-is_alone-4.false ∙ c.is_alone-4.ensures.1 compare))
    (not_made (IsMake (map (string_bytes {Z = Global}) c.args.words.now)) c.args.made c.in_default.is c.requires.none)
