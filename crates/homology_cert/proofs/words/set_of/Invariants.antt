-- what was read of the line
use Rattle.std.proofs.Common.{length}
use Rattle.homology_cert.proofs.Texts.SetLemmas.{IsReadSet}
use Rattle.homology_cert.proofs.words.set_of.Given as goal

abbrev pub invariant-loop-rest : goal.invariant-loop-rest
invariant-loop-rest l = IsReadSet l.n l.word l.line l.rest l.set l.least

abbrev pub decreases-loop-rest : goal.decreases-loop-rest
decreases-loop-rest l = length l.rest
