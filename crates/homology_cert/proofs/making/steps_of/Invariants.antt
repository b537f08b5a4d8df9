-- The pairs of the entries so far, and those of the entries ahead, are all.
use Rattle.std.proofs.Common.{◌≡◌, ◌++◌, [], take, drop}
use Rattle.cancel.specs.Logs.{log_of}
use Rattle.homology_cert.specs.Inner.CodeTests.{has_bidegree}
use Rattle.homology_cert.specs.Inner.Making.{steps_after}
use Rattle.homology_cert.proofs.making.steps_of.Given as goal

abbrev pub invariant-loop-k : goal.invariant-loop-k
invariant-loop-k l =
    l.pairs.items ++ steps_after (has_bidegree l.g (l.m, l.a)) (take l.k (log_of l.entries))
    (drop l.k (log_of l.entries)) ≡ steps_after (has_bidegree l.g (l.m, l.a)) [] (log_of l.entries)
