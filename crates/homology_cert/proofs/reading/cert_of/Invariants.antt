-- what was read of the text leads to the place
use Rattle.std.proofs.Common.{length}
use Rattle.homology_cert.specs.Inner.Reading.{IsRead}
use Rattle.homology_cert.proofs.reading.cert_of.Given as goal

abbrev pub invariant-loop-line : goal.invariant-loop-line
invariant-loop-line l = IsRead l.text l.place l.cells.items l.rest l.number

abbrev pub decreases-loop-line : goal.decreases-loop-line
decreases-loop-line l = length l.rest
