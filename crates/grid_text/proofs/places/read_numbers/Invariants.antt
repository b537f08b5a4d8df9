-- the words so far are the decimal forms of the numbers so far
use Rattle.std.proofs.Common.{◌≡◌, length, take}
use Rattle.grid_text.specs.Inner.Reading.{AreNumerals}
use Rattle.state_rank.specs.declared.TheConstants.{ROOM}
use Rattle.grid_text.proofs.Lines.SeenLemmas.{seen}
use Rattle.grid_text.proofs.places.read_numbers.Given as goal

abbrev pub invariant-loop-c : goal.invariant-loop-c
invariant-loop-c l = (length l.rows ≡ ROOM) × AreNumerals l.n (take l.c l.rows) (seen (take l.c l.words))
