-- The bits so far are carried.
use Rattle.pentagon_map.proofs.Targets.OddSums.{AreCarried}
use Rattle.pentagon_map.proofs.images.carried_bits.Given as goal

abbrev pub invariant-loop-d : goal.invariant-loop-d
invariant-loop-d l = AreCarried l.columns l.odd l.d l.bits
