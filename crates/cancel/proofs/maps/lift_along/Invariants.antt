-- The lift over the entries from k on.
use Rattle.std.proofs.Common.{◌≡◌, drop}
use Rattle.f2_algebra.specs.Chain.{single}
use Rattle.f2_algebra.specs.Cancel.{lift}
use Rattle.cancel.specs.Logs.{log_of}
use Rattle.cancel.proofs.maps.lift_along.Given as goal

abbrev pub invariant-loop-k : goal.invariant-loop-k
invariant-loop-k l = l.chain ≡ lift (log_of (drop l.k l.entries)) (single l.code)
