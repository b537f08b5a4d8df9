-- The verdict that the code answers, in states.
--     verdict_of n v           the verdict v with the states that its codes stand for
--     HasVerdictIndices n v    the codes of its evidence are indices of states of size n
use Rattle.std.specs.Prelude.{ℕ, ◌<◌}
use Rattle.legendrian_class.specs.declared.verdicts.ClassVerdict.{ClassVerdict}
use Rattle.legendrian_class.specs.declared.verdicts.ClassVerdict.TheVariants as answers
use Rattle.state_rank.specs.States.{factorial, unrank}
use Rattle.torus_geom.specs.Codes.{HasIndices, states_of}
use Rattle.legendrian_class.specs.Verdicts.{Verdict}
use Rattle.legendrian_class.specs.Verdicts.Verdict.{NotCycle, Null, Alive}

abbrev pub verdict_of : ℕ → ClassVerdict → Verdict
verdict_of n (answers.NotCycle s) = NotCycle (unrank n s)
verdict_of n (answers.Null b) = Null (states_of n b)
verdict_of n (answers.Alive f) = Alive (states_of n f)

abbrev pub HasVerdictIndices : ℕ → ClassVerdict → Type 0
HasVerdictIndices n (answers.NotCycle s) = s < factorial n
HasVerdictIndices n (answers.Null b) = HasIndices n b
HasVerdictIndices n (answers.Alive f) = HasIndices n f
