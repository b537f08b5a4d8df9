-- The exchanges that are left complete the shuffle.
use Rattle.std.proofs.Common.{◌-◌}
use Rattle.grid_job.proofs.Generated.GeneratorLemmas.{IsShuffling}
use Rattle.grid_job.proofs.generator.shuffle.Given as goal

abbrev pub invariant-loop-done : goal.invariant-loop-done
invariant-loop-done l = IsShuffling l.n l.fn.number (l.n - l.done) l.current l.state
