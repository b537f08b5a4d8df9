-- The states so far are counted, and the state whose turn it is.
use Rattle.torus_geom.specs.Marks.{size}
use Rattle.grid_euler.specs.Inner.Sums.{AreSums, AreBounded}
use Rattle.state_rank.proofs.VisitLemmas.{IsVisited}
use Rattle.grid_euler.proofs.SumLemmas.{AreSmallBefore, euler_before}
use Rattle.grid_euler.proofs.sums.euler_of_states.Given as goal

abbrev pub invariant-loop-code : goal.invariant-loop-code
invariant-loop-code l = record {
  running : AreSums (euler_before l.g l._code) l.sums.items;
  bounded : AreBounded l._code l.sums.items;
  small : AreSmallBefore l.g l._code;
  visited : IsVisited (size l.g) l._code l.x;
}
