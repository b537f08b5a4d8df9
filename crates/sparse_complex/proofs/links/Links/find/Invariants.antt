-- The arrow is not among those that were passed.
use Rattle.std.proofs.Common.{◌≡◌, length}
use Rattle.sparse_complex.specs.Inner.Lists.{among, outs_from}
use Rattle.sparse_complex.specs.Inner.Graph.{tos, outs_of, has_arrow}
use Rattle.sparse_complex.proofs.WalkLemmas.{IsOn}
use Rattle.sparse_complex.proofs.links.Links.find.Given as goal

abbrev pub invariant-loop-at : goal.invariant-loop-at
invariant-loop-at l = record {
  on : IsOn (outs_from l.self.pool.nodes) (outs_of l.self l.from) l.at;
  ahead : among l.to (tos l.self (outs_from l.self.pool.nodes l.at)) ≡ has_arrow l.self l.from l.to;
}

abbrev pub decreases-loop-at : goal.decreases-loop-at
decreases-loop-at l = length (outs_from l.self.pool.nodes l.at)
