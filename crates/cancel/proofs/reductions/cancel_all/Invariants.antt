-- The entries so far lead to the slice as it stands; two live codes leave each time.
use Rattle.cancel.proofs.ReductionLemmas.{LeadsTo, live_count}
use Rattle.cancel.proofs.reductions.cancel_all.Given as goal

abbrev pub invariant-loop-arrow : goal.invariant-loop-arrow
invariant-loop-arrow l = LeadsTo l.initial.slice.slice l.slice.slice l.entries.items

abbrev pub decreases-loop-arrow : goal.decreases-loop-arrow
decreases-loop-arrow l = live_count l.slice.slice
