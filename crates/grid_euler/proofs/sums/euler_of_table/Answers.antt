-- The law holds of any grid.
use Rattle.std.proofs.Common.{map}
use Rattle.std.proofs.lemmas.Result.{IfOk-weaker}
use Rattle.hat_division.specs.Table.{homology_row}
use Rattle.grid_euler.specs.Euler.{alternating_sum, euler_number}
use Rattle.grid_euler.proofs.EulerLemmas.{IsTableOf-same, euler_of_rows}
use Rattle.grid_euler.proofs.sums.euler_of_table.Goals as goal

pub returns-clause-euler : goal.returns-clause-euler
returns-clause-euler c g rows grid table a = euler_of_rows g grid rows table a

pub returns-clause-numbers : goal.returns-clause-numbers
returns-clause-numbers c =
    let rows = map homology_row c.args.t.now in
    IfOk-weaker c.alternating_sums.result _ _
    (λ sums told g grid table. IsTableOf-same (alternating_sum rows) (euler_number g) sums
    (λ a. euler_of_rows g grid rows table a) told) c.alternating_sums.ensures
