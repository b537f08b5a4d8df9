-- The tables that a report keeps while its grid stands.
--     IsTableOf g rows    the rows are the table of the grid, and small enough to be divided
--     IsComponentTableOf g rows
--                         the rows are the table of the grid by component, and small enough to be divided
--     AreTablesOf g tables
--                         each of the two that is kept is that of the grid
use Rattle.std.specs.Prelude.{List, map, IfSome}
use Rattle.std.specs.List.{All}
use Rattle.hat_division.specs.MultiTable.{HasLength}
use Rattle.hat_division.specs.MultiTable as multi
use Rattle.hat_division.specs.Product.{IsSmall}
use Rattle.hat_division.specs.declared.multi_tables.MultiRow.{MultiRow}
use Rattle.hat_division.specs.declared.tables.TableRow.{TableRow}
use Rattle.hat_division.specs.Table.{homology_row}
use Rattle.homology_cert.specs.ComponentHomology.{IsComponentTable}
use Rattle.homology_cert.specs.ComponentRows.{component_row}
use Rattle.torus_geom.specs.Components.{components}
use Rattle.torus_geom.specs.Homology.{IsHomologyTable}
use Rattle.torus_geom.specs.Marks.{Marks}
use Rattle.grid_job.specs.declared.tables.Tables.{Tables}

pub record IsTableOf (g : Marks) (rows : List TableRow) : Type 0 where
  pub table : IsHomologyTable g (map homology_row rows)
  pub small : All IsSmall rows

pub record IsComponentTableOf (g : Marks) (rows : List MultiRow) : Type 0 where
  pub table : IsComponentTable g (map component_row rows)
  pub lengths : All (HasLength (components g)) rows
  pub small : All multi.IsSmallByComponent rows

abbrev pub AreTablesOf : Marks → Tables → Type 0
AreTablesOf g tables = IfSome tables.whole (IsTableOf g) × IfSome tables.by_component (IsComponentTableOf g)
