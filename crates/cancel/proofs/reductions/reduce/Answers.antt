-- The laws of a log.
use Rattle.f2_algebra.proofs.Cancelling.Laws.{log_laws}
use Rattle.cancel.proofs.reductions.reduce.Goals as goal

pub returns-clause-laws : goal.returns-clause-laws
returns-clause-laws c = λ C log rules stands. log_laws C rules log stands
