-- What has been read of the two lists adds up to the new list.
use Rattle.std.proofs.Common.{◌+◌, ◌-◌, ◌≤◌, length}
use Rattle.f2_chain.proofs.MergeLemmas.{IsMerged}
use Rattle.f2_chain.proofs.code_sets.merged.Given as goal

abbrev pub invariant-loop-i : goal.invariant-loop-i
invariant-loop-i l =
    record { merged : IsMerged l.a l.b l.list.items l.i l.j; a_in : l.i ≤ length l.a; b_in : l.j ≤ length l.b }

abbrev pub decreases-loop-i : goal.decreases-loop-i
decreases-loop-i l = (length l.a - l.i) + (length l.b - l.j)
