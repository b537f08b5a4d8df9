-- the bytes so far are the word of the numbers so far
use Rattle.std.proofs.Common.{◌≡◌, take, length}
use Rattle.state_rank.specs.States.{state_word}
use Rattle.state_rank.specs.declared.TheConstants.{ROOM}
use Rattle.state_rank.proofs.words.read_digits.Given as goal

abbrev pub invariant-loop-c : goal.invariant-loop-c
invariant-loop-c l = (length l.rows ≡ ROOM) × (take l.c l.word ≡ state_word (take l.c l.rows))
