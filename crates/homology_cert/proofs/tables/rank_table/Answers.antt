-- The table over codes is that over states; the laws of ranks and tables.
use Rattle.std.proofs.Common.{map}
use Rattle.std.proofs.lemmas.Result.{IfOk-weaker}
use Rattle.rectangles.proofs.Homology.HomologyLemmas.{homology_table-states}
use Rattle.hat_division.specs.Table.{homology_row}
use Rattle.homology_cert.proofs.Homology.StateTables.{one_homology_rank, one_homology_table, some_homology_rank}
use Rattle.homology_cert.proofs.tables.rank_table.Goals as goal

pub returns-clause-table : goal.returns-clause-table
returns-clause-table c =
    IfOk-weaker c.table_of.result _ _ (λ t e. (homology_table-states c.args.g.now (map homology_row t)).0 e)
    c.table_of.ensures.table

pub returns-clause-some_rank : goal.returns-clause-some_rank
returns-clause-some_rank c = some_homology_rank c.args.g.now c.size-size.ensures.grid

pub returns-clause-one_rank : goal.returns-clause-one_rank
returns-clause-one_rank c = one_homology_rank c.args.g.now

pub returns-clause-one_table : goal.returns-clause-one_table
returns-clause-one_table c = one_homology_table c.args.g.now
