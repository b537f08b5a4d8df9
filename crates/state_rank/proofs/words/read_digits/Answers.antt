use Rattle.std.proofs.Common.{◌∙◌, arith, length-set}
use Rattle.state_rank.proofs.WordLemmas.{state_word-none, state_word-more}
use Rattle.state_rank.proofs.words.read_digits.Goals as goal

pub returns-in_default-clause-none : goal.returns-in_default-clause-none
returns-in_default-clause-none c =
    state_word-none c.args.word.now c.loop-c.c (omega arith) (omega (arith, c.in_default.ensures))

pub loop-c-preserved : goal.loop-c-preserved
loop-c-preserved c =
    let room = c.loop-c.invariant.0 in (
      length-set c.loop-c.rows c.loop-c.c c.in-Some.row ∙ room,
      state_word-more c.args.word.now c.loop-c.rows c.loop-c.c c.in-Some.row (omega arith) (omega arith)
          (omega (arith, c.in-Some.ensures)) c.loop-c.invariant.1,
    )
