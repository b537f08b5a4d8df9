-- One of the targets.
use Rattle.std.proofs.Common.{◌≡◌, true, length}
use Rattle.sparse_complex.specs.Inner.Lists.{outs_from}
use Rattle.sparse_complex.specs.Inner.Graph.{outs_of, has_arrow}
use Rattle.sparse_complex.proofs.WalkLemmas.{IsOn}
use Rattle.sparse_complex.proofs.links.Links.last_target.Given as goal

abbrev pub invariant-loop-at : goal.invariant-loop-at
invariant-loop-at l = record {
  on : IsOn (outs_from l.self.pool.nodes) (outs_of l.self l.key) l.at;
  one : has_arrow l.self l.key l.last ≡ true;
}

abbrev pub decreases-loop-at : goal.decreases-loop-at
decreases-loop-at l = length (outs_from l.self.pool.nodes l.at)
