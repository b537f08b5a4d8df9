-- Those that were passed are counted, but for the one that is left out.
use Rattle.std.proofs.Common.{◌≡◌, ◌+◌, length}
use Rattle.sparse_complex.specs.Inner.Lists.{outs_from}
use Rattle.sparse_complex.specs.Inner.Graph.{outs_of, tos, others}
use Rattle.sparse_complex.proofs.WalkLemmas.{IsOn}
use Rattle.sparse_complex.proofs.links.Links.count_out.Given as goal

abbrev pub invariant-loop-at : goal.invariant-loop-at
invariant-loop-at l = record {
  on : IsOn (outs_from l.self.pool.nodes) (outs_of l.self l.key) l.at;
  ahead : l.count + length (others l.target (tos l.self (outs_from l.self.pool.nodes l.at)))
      ≡ length (others l.target (tos l.self (outs_of l.self l.key)));
}

abbrev pub decreases-loop-at : goal.decreases-loop-at
decreases-loop-at l = length (outs_from l.self.pool.nodes l.at)
