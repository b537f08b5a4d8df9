-- The correction over the entries from k on.
use Rattle.std.proofs.Common.{◌≡◌, drop}
use Rattle.cancel.specs.Logs.{log_of}
use Rattle.cancel.specs.Inner.Passes.{correction_by_marks}
use Rattle.cancel.proofs.maps.correct_along.Given as goal

abbrev pub invariant-loop-k : goal.invariant-loop-k
invariant-loop-k l = l.chain ≡ correction_by_marks (log_of (drop l.k l.entries)) (drop l.k l.marks)
