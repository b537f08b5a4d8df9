-- the cycle pairs so far pass
use Rattle.std.proofs.Common.{◌≡◌, ◌+◌, [], take, drop}
use Rattle.homology_cert.specs.Inner.Questions.{first_failing, cycle_questions}
use Rattle.homology_cert.proofs.checks.cycles_failure.Given as goal

abbrev pub invariant-loop-k : goal.invariant-loop-k
invariant-loop-k l =
    first_failing (cycle_questions l.g (l.d.m, l.d.a) l.entry [] l.pairs)
    ≡ first_failing (cycle_questions l.g (l.d.m, l.d.a) (l.entry + l.k) (take l.k l.pairs) (drop l.k l.pairs))
