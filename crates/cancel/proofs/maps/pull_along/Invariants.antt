-- The pull over the entries from k on.
use Rattle.std.proofs.Common.{◌≡◌, drop}
use Rattle.f2_algebra.specs.Chain.{single}
use Rattle.f2_algebra.specs.Cancel.{pull}
use Rattle.cancel.specs.Logs.{log_of}
use Rattle.cancel.proofs.maps.pull_along.Given as goal

abbrev pub invariant-loop-k : goal.invariant-loop-k
invariant-loop-k l = l.cochain ≡ pull (log_of (drop l.k l.entries)) (single l.code)
