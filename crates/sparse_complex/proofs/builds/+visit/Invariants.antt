-- Each branch has a column less ahead; the parts before `next` are gone through.
use Rattle.std.proofs.Common.{◌-◌}
use Rattle.torus_geom.specs.Marks.{size}
use Rattle.sparse_complex.proofs.BranchPartLemmas.{IsGoneThrough}
use Rattle.sparse_complex.proofs.builds.+visit.Given as goal

abbrev pub decreases-visit : goal.decreases-visit
decreases-visit l = size l.sums.now - l.branch.now.column

abbrev pub invariant-loop-next : goal.invariant-loop-next
invariant-loop-next l = IsGoneThrough l.sums l.fn.a l.branch l.count l.next l.base l.first l.cells.items
