-- The laws of a log.
use Rattle.f2_algebra.proofs.Cancelling.Laws.{log_laws}
use Rattle.cancel.proofs.maps.lift.Goals as goal

pub returns-clause-borders : goal.returns-clause-borders
returns-clause-borders c = λ C entries rules stands. (log_laws C rules entries stands).border_lift

pub returns-clause-rests : goal.returns-clause-rests
returns-clause-rests c = λ C entries rules stands. (log_laws C rules entries stands).rest_lift

pub returns-clause-degrees : goal.returns-clause-degrees
returns-clause-degrees c = λ C entries rules stands. (log_laws C rules entries stands).lift_degree
