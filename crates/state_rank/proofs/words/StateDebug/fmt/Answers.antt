use Rattle.std.proofs.Common.{length, take, sym, ap, subst, ◌∙◌}
use Rattle.std.specs.Str.{IsUtf8}
use Rattle.std.proofs.lemmas.Str.{IsUtf8-from_ascii}
use Rattle.state_rank.specs.States.{state_word}
use Rattle.state_rank.proofs.WordLemmas.{IsAscii-state_word}
use Rattle.state_rank.proofs.words.StateDebug.fmt.Goals as goal

-- the word of a state is text
pub unreachable-requires : goal.unreachable-requires
unreachable-requires g c =
    let x = c.args.self.now in
    let same = ap (λ n. take n c.digits-digits.result) (ap length c.rows.ensures.rows) ∙ c.digits-digits.ensures in
    c.in-Err.ensures.cases.0
    (subst IsUtf8 (sym same) (IsUtf8-from_ascii (state_word x) (IsAscii-state_word x c.rows.ensures.state)))
