-- Those that were passed are counted, but for the one that is left out.
use Rattle.std.proofs.Common.{◌≡◌, ◌+◌, length}
use Rattle.sparse_complex.specs.Inner.Lists.{ins_from}
use Rattle.sparse_complex.specs.Inner.Graph.{ins_of, froms, others}
use Rattle.sparse_complex.proofs.WalkLemmas.{IsOn}
use Rattle.sparse_complex.proofs.links.Links.count_in.Given as goal

abbrev pub invariant-loop-at : goal.invariant-loop-at
invariant-loop-at l = record {
  on : IsOn (ins_from l.self.pool.nodes) (ins_of l.self l.key) l.at;
  ahead : l.count + length (others l.source (froms l.self (ins_from l.self.pool.nodes l.at)))
      ≡ length (others l.source (froms l.self (ins_of l.self l.key)));
}

abbrev pub decreases-loop-at : goal.decreases-loop-at
decreases-loop-at l = length (ins_from l.self.pool.nodes l.at)
