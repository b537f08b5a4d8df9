-- No key that was passed has an arrow out.
use Rattle.std.proofs.Common.{◌≡◌, ◌≤◌, ◌<◌, ◌-◌, ℕ}
use Rattle.sparse_complex.specs.Inner.Lists.{no_id, head_at}
use Rattle.sparse_complex.specs.Inner.Graph.{width}
use Rattle.sparse_complex.proofs.slices.first_with_arrow.Given as goal

abbrev pub invariant-loop-key : goal.invariant-loop-key
invariant-loop-key l = record {
  begun : l.from ≤ l.key;
  within : l.key ≤ width l.links;
  none_before : (k : ℕ) → l.from ≤ k → k < l.key → (head_at l.links.heads.items k).first_out ≡ no_id;
}

abbrev pub decreases-loop-key : goal.decreases-loop-key
decreases-loop-key l = width l.links - l.key
