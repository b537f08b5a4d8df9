-- The quotient of the table, or none.
use Rattle.std.proofs.Common.{arith}
use Rattle.std.specs.Prelude.{◌-◌}
use Rattle.std.proofs.lemmas.Result.{IfOk-weaker}
use Rattle.grid_job.specs.Hat.{HasHat}
use Rattle.grid_job.proofs.Reported.HatLemmas.{components-le, HasHat-quotient}
use Rattle.grid_job.proofs.hats.find_hat.Goals as goal

pub overflow_sub-exponent : goal.overflow_sub-exponent
overflow_sub-exponent c = omega (arith, components-le c.args.g.now, c.components.ensures.number, c.size.ensures.size)

pub returns : goal.returns
returns c =
    IfOk-weaker c.divide.result _ (HasHat c.args.g.now) (λ found told.
    HasHat-quotient c.args.g.now (c.size.result - c.components.result) c.args.table.now found
    (λ i. c.size.ensures.size i - c.components.ensures.number i) c.requires.table told)
    c.divide.ensures.quotient
