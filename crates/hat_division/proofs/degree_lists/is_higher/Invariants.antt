-- The numbers before i are the same.
use Rattle.std.proofs.Common.{◌≡◌, ◌≤◌, drop, length}
use Rattle.hat_division.specs.DegreeLists.{is_higher}
use Rattle.hat_division.proofs.degree_lists.is_higher.Given as goal

abbrev pub invariant-loop-i : goal.invariant-loop-i
invariant-loop-i l = (is_higher l.p l.q ≡ is_higher (drop l.i l.p) (drop l.i l.q)) × (l.i ≤ length l.q)
