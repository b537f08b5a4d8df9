-- The live cells among those that were looked at.
use Rattle.sparse_complex.specs.Inner.Stored.{ListsLive}
use Rattle.sparse_complex.proofs.slices.live_among.Given as goal

abbrev pub invariant-loop-key : goal.invariant-loop-key
invariant-loop-key l = ListsLive l.keys l.cells l.key l.live.items
