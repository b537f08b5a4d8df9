-- All neighbours were looked at.
use Rattle.std.proofs.Common.{arith, refl}
use Rattle.hat_division.proofs.OrderLemmas.{ordered_by_neighbours}
use Rattle.hat_division.proofs.tables.are_ordered.Goals as goal

pub returns : goal.returns
returns c =
    ((λ yes. ordered_by_neighbours c.args.rows.now (λ k d l. c.loop-i.invariant k d (omega arith))), (λ all. refl))
