-- the states with an index below `code` that have the bidegree
use Rattle.std.proofs.Common.{◌≡◌, length}
use Rattle.std.specs.List.{filter}
use Rattle.state_rank.specs.Bijection.{ascending}
use Rattle.homology_cert.specs.Inner.CodeTests.{has_bidegree}
use Rattle.homology_cert.proofs.checks.state_count_at.Given as goal

abbrev pub invariant-loop-code : goal.invariant-loop-code
invariant-loop-code l = l.count ≡ length (filter (has_bidegree l.g (l.d.m, l.d.a)) (ascending l.code))
