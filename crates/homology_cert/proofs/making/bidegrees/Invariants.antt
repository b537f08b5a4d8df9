-- The states so far, and the state whose turn it is.
use Rattle.torus_geom.specs.Marks.{size}
use Rattle.state_rank.proofs.VisitLemmas.{IsVisited}
use Rattle.homology_cert.specs.Inner.Making.{HasBidegrees}
use Rattle.homology_cert.proofs.making.bidegrees.Given as goal

abbrev pub invariant-loop-code : goal.invariant-loop-code
invariant-loop-code l = record {
  degrees : HasBidegrees l.g l._code l.degrees;
  visited : IsVisited (size l.g) l._code l.x;
}
