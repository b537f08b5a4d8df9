-- The laws of a log.
use Rattle.f2_algebra.proofs.Cancelling.Laws.{log_laws}
use Rattle.cancel.proofs.maps.push.Goals as goal

pub returns-clause-borders : goal.returns-clause-borders
returns-clause-borders c = λ C entries rules stands. (log_laws C rules entries stands).rest_border

pub returns-clause-lifts : goal.returns-clause-lifts
returns-clause-lifts c = λ C entries rules stands. (log_laws C rules entries stands).rest_lift

pub returns-clause-cycles : goal.returns-clause-cycles
returns-clause-cycles c = λ C entries rules stands. (log_laws C rules entries stands).cycle

pub returns-clause-rest_degrees : goal.returns-clause-rest_degrees
returns-clause-rest_degrees c = λ C entries rules stands. (log_laws C rules entries stands).rest_degree

pub returns-clause-correction_degrees : goal.returns-clause-correction_degrees
returns-clause-correction_degrees c = λ C entries rules stands. (log_laws C rules entries stands).correction_degree
