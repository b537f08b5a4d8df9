use Rattle.std.proofs.Common.{◌≡◌, ◌-◌}
use Rattle.torus_geom.specs.Marks.{size}
use Rattle.rectangles.proofs.Sweep.SweepLemmas.{turned, IsSwept}
use Rattle.rectangles.proofs.target_states.open_rights.Given as goal

abbrev pub invariant-loop-width : goal.invariant-loop-width
invariant-loop-width l =
    IsSwept l.marks l.x l.a (l.width - 1) l.width l.limit l.rights × (l.c ≡ turned (size l.marks) l.a (l.width - 1))
