-- The targets that were passed are toggled.
use Rattle.std.proofs.Common.{length}
use Rattle.sparse_complex.specs.Inner.Lists.{outs_from}
use Rattle.sparse_complex.proofs.FillLemmas.{FromPlace}
use Rattle.sparse_complex.proofs.links.Links.toggle_from.Given as goal

abbrev pub invariant-loop-at : goal.invariant-loop-at
invariant-loop-at l = FromPlace l.from l.x l.y l.initial.self l.self l.at

abbrev pub decreases-loop-at : goal.decreases-loop-at
decreases-loop-at l = length (outs_from l.self.pool.nodes l.at)
