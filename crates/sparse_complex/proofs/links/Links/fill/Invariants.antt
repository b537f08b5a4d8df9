-- The sources that were passed have been gone through.
use Rattle.std.proofs.Common.{length}
use Rattle.sparse_complex.specs.Inner.Lists.{ins_from}
use Rattle.sparse_complex.proofs.FillSourceLemmas.{FillPlace}
use Rattle.sparse_complex.proofs.links.Links.fill.Given as goal

abbrev pub invariant-loop-at : goal.invariant-loop-at
invariant-loop-at l = FillPlace l.x l.y l.initial.self l.self l.at

abbrev pub decreases-loop-at : goal.decreases-loop-at
decreases-loop-at l = length (ins_from l.self.pool.nodes l.at)
