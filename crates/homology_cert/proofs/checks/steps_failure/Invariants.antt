-- the step pairs so far pass
use Rattle.std.proofs.Common.{◌≡◌, ◌+◌, drop}
use Rattle.homology_cert.specs.Inner.Questions.{first_failing, step_questions}
use Rattle.homology_cert.proofs.checks.steps_failure.Given as goal

abbrev pub invariant-loop-k : goal.invariant-loop-k
invariant-loop-k l =
    first_failing (step_questions l.g (l.d.m, l.d.a) l.entry l.pairs)
    ≡ first_failing (step_questions l.g (l.d.m, l.d.a) (l.entry + l.k) (drop l.k l.pairs))
