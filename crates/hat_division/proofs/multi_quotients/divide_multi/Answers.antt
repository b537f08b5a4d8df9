-- A table has at most one quotient.
use Rattle.hat_division.proofs.Multi.MultiTableLemmas.{one_multi_quotient}
use Rattle.hat_division.proofs.multi_quotients.divide_multi.Goals as goal

pub returns-clause-one_quotient : goal.returns-clause-one_quotient
returns-clause-one_quotient c p q = one_multi_quotient c.args.exps.now c.args.t.now p q
