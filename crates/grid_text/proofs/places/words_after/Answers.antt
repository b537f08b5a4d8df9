use Rattle.std.proofs.Common.{sym, ◌∙◌}
use Rattle.grid_text.proofs.Lines.SeenLemmas.{seen-first, seen-other}
use Rattle.grid_text.proofs.places.words_after.Goals as goal

pub returns-then-not-is_word-clause-none : goal.returns-then-not-is_word-clause-none
returns-then-not-is_word-clause-none c =
    seen-other c.args.words.now c.args.expected.now _ c.in-len1-up.len_at_least
    (sym c.is_word.ensures ∙ c.if-not-is_word.true)

pub returns-clause-some : goal.returns-clause-some
returns-clause-some c =
    seen-first c.args.words.now c.args.expected.now _ c.in-len1-up.len_at_least
    (sym c.is_word.ensures ∙ c.if-not-is_word.false)
