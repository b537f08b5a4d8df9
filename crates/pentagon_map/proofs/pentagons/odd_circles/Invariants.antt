-- The circles so far are looked at.
use Rattle.pentagon_map.proofs.Targets.PushLemmas.{IsOddBefore}
use Rattle.pentagon_map.proofs.pentagons.odd_circles.Given as goal

abbrev pub invariant-loop-b : goal.invariant-loop-b
invariant-loop-b l = IsOddBefore l.g l.c l.w l.x l.b l.odd
