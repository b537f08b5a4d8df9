-- Those that were passed are in the list.
use Rattle.std.proofs.Common.{◌≡◌, ◌++◌, map, length}
use Rattle.sparse_complex.specs.Inner.Lists.{outs_from}
use Rattle.sparse_complex.specs.Inner.Graph.{tos, outs_of, targets, code_at}
use Rattle.sparse_complex.proofs.WalkLemmas.{IsOn}
use Rattle.sparse_complex.proofs.links.Links.push_targets.Given as goal

abbrev pub invariant-loop-at : goal.invariant-loop-at
invariant-loop-at l = record {
  on : IsOn (outs_from l.self.pool.nodes) (outs_of l.self l.key) l.at;
  ahead : l.into.items ++ map (code_at l.cells) (tos l.self (outs_from l.self.pool.nodes l.at))
      ≡ l.initial.into.items ++ map (code_at l.cells) (targets l.self l.key);
}

abbrev pub decreases-loop-at : goal.decreases-loop-at
decreases-loop-at l = length (outs_from l.self.pool.nodes l.at)
