-- A table has at most one quotient.
use Rattle.hat_division.proofs.Factors.BigradedTables.{one_bigraded_quotient}
use Rattle.hat_division.proofs.quotients.divide.Goals as goal

pub returns-clause-one_quotient : goal.returns-clause-one_quotient
returns-clause-one_quotient c p q = one_bigraded_quotient c.args.k c.args.t.now p q
