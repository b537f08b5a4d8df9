-- The table over codes is that over states; the laws of ranks and tables.
use Rattle.std.proofs.Common.{map}
use Rattle.std.proofs.lemmas.Result.{IfOk-weaker}
use Rattle.homology_cert.specs.ComponentRows.{component_row}
use Rattle.homology_cert.proofs.Components.StateTables.{component_table-states, some_component_rank, one_component_rank, some_component_table, one_component_table, ranks_add_up}
use Rattle.homology_cert.proofs.component_tables.rank_table_multi.Goals as goal

pub returns-clause-table : goal.returns-clause-table
returns-clause-table c =
    IfOk-weaker c.table_of.result _ _ (λ t e. (component_table-states c.args.g.now (map component_row t)).0 e)
    c.table_of.ensures.table

pub returns-clause-some_rank : goal.returns-clause-some_rank
returns-clause-some_rank c = some_component_rank c.args.g.now c.size-size.ensures.grid

pub returns-clause-one_rank : goal.returns-clause-one_rank
returns-clause-one_rank c = one_component_rank c.args.g.now c.size-size.ensures.grid

pub returns-clause-some_table : goal.returns-clause-some_table
returns-clause-some_table c = some_component_table c.args.g.now c.size-size.ensures.grid

pub returns-clause-one_table : goal.returns-clause-one_table
returns-clause-one_table c = one_component_table c.args.g.now

pub returns-clause-sums : goal.returns-clause-sums
returns-clause-sums c = ranks_add_up c.args.g.now c.size-size.ensures.grid
