-- The others stay.
use Rattle.std.proofs.Common.{◌≡◌, eqb, length}
use Rattle.sparse_complex.specs.Inner.Lists.{head_at}
use Rattle.sparse_complex.specs.Inner.Graph.{ins_of}
use Rattle.sparse_complex.proofs.ClearLemmas.{ClearPlace}
use Rattle.sparse_complex.proofs.links.Links.clear_in.Given as goal

abbrev pub invariant-loop-at : goal.invariant-loop-at
invariant-loop-at l = record {
  place : ClearPlace (λ s t. eqb t l.key) l.initial.self l.self;
  first : (head_at l.self.heads.items l.key).first_in ≡ l.at;
}

abbrev pub decreases-loop-at : goal.decreases-loop-at
decreases-loop-at l = length (ins_of l.self l.key)
