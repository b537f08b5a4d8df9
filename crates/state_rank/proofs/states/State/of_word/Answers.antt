use Rattle.std.proofs.Common.{arith}
use Rattle.state_rank.proofs.WordLemmas.{state_word_injective, state_word-too_long, made-word, made-none, read_back-of}
use Rattle.state_rank.proofs.states.State.of_word.Goals as goal

pub returns-then-word-gt-ROOM-clause-none : goal.returns-then-word-gt-ROOM-clause-none
returns-then-word-gt-ROOM-clause-none c x is =
    state_word-too_long c.args.word.now x (omega (arith, c.if-word-gt-ROOM.true)) is

pub returns-then-word-gt-ROOM-clause-read_back : goal.returns-then-word-gt-ROOM-clause-read_back
returns-then-word-gt-ROOM-clause-read_back c x is e =
    absurd (state_word-too_long c.args.word.now x (omega (arith, c.if-word-gt-ROOM.true)) is e)

pub returns-then-word-gt-ROOM-clause-one_state : goal.returns-then-word-gt-ROOM-clause-one_state
returns-then-word-gt-ROOM-clause-one_state c = state_word_injective

pub returns-in_default-clause-none : goal.returns-in_default-clause-none
returns-in_default-clause-none c x is = c.in_default.ensures.none x

pub returns-in_default-clause-read_back : goal.returns-in_default-clause-read_back
returns-in_default-clause-read_back c x is e = absurd (c.in_default.ensures.none x e)

pub returns-in_default-clause-one_state : goal.returns-in_default-clause-one_state
returns-in_default-clause-one_state c = state_word_injective

pub returns-clause-word : goal.returns-clause-word
returns-clause-word c = made-word c.args.word.now _ c.of.result c.in-Some.ensures.some.1 c.of.ensures.rows

pub returns-clause-none : goal.returns-clause-none
returns-clause-none c = made-none c.args.word.now _ c.of.result c.in-Some.ensures.some.1 c.of.ensures.none

pub returns-clause-read_back : goal.returns-clause-read_back
returns-clause-read_back c =
    read_back-of c.args.word.now c.of.result (returns-clause-word c) (returns-clause-none c)

pub returns-clause-one_state : goal.returns-clause-one_state
returns-clause-one_state c = state_word_injective
