-- The table of the ranks is that of the coranks.
use Rattle.std.proofs.Common.{map}
use Rattle.std.proofs.lemmas.Result.{IfOk-weaker}
use Rattle.hat_division.specs.Table.{homology_row}
use Rattle.rectangles.proofs.Homology.CorankLemmas.{corank-rank, corank_table-table}
use Rattle.homology_cert.proofs.tables.corank_table.Goals as goal

pub returns-clause-table : goal.returns-clause-table
returns-clause-table c =
    IfOk-weaker c.rank_table.result _ _
    (λ t e. (corank_table-table c.args.g.now c.size-size.ensures.grid (map homology_row t)).1 e)
    c.rank_table.ensures.table

pub returns-clause-coranks : goal.returns-clause-coranks
returns-clause-coranks c = corank-rank c.args.g.now c.size-size.ensures.grid
