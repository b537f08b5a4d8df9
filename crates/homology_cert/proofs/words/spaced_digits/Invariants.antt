-- the bytes so far are the digits of the numbers so far
use Rattle.std.proofs.Common.{◌≡◌, ◌*◌, take, length}
use Rattle.state_rank.specs.declared.TheConstants.{ROOM}
use Rattle.homology_cert.specs.Inner.Reading.{spaced}
use Rattle.homology_cert.proofs.words.spaced_digits.Given as goal

abbrev pub invariant-loop-c : goal.invariant-loop-c
invariant-loop-c l = (length l.rows ≡ ROOM) × (take (2 * l.c) l.bytes ≡ spaced (take l.c l.rows))
