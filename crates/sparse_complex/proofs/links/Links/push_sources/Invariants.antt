-- Those that were passed are in the list.
use Rattle.std.proofs.Common.{◌≡◌, ◌++◌, map, length}
use Rattle.sparse_complex.specs.Inner.Lists.{ins_from}
use Rattle.sparse_complex.specs.Inner.Graph.{froms, ins_of, sources, code_at}
use Rattle.sparse_complex.proofs.WalkLemmas.{IsOn}
use Rattle.sparse_complex.proofs.links.Links.push_sources.Given as goal

abbrev pub invariant-loop-at : goal.invariant-loop-at
invariant-loop-at l = record {
  on : IsOn (ins_from l.self.pool.nodes) (ins_of l.self l.key) l.at;
  ahead : l.into.items ++ map (code_at l.cells) (froms l.self (ins_from l.self.pool.nodes l.at))
      ≡ l.initial.into.items ++ map (code_at l.cells) (sources l.self l.key);
}

abbrev pub decreases-loop-at : goal.decreases-loop-at
decreases-loop-at l = length (ins_from l.self.pool.nodes l.at)
