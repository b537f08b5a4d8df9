-- The hat of a grid: the quotient of its table by one factor 1 + q^-1 t^-1 for each column beyond one per component,
-- where a row (m, a, d) is the term d q^m t^a. A grid has at most one.
--     hat_exponent g     the number of these factors
--     IsHat g hat        the rows are of positive ranks, in the order of tables, and their product with the factors
--                        is the table of the grid
--     HasHat g hat       this is the hat of the grid; or the grid has none
--     IsHatText g text   the text states the exponent and the rows of the hat; or that there is none, exactly if there
--                        is none
-- The hat by component is the quotient of the table by component by as many factors 1 + q^-1 t_i^-1 as component i has
-- columns beyond one, where q^-1 t_i^-1 lowers the doubled degree of component i by two. A grid has at most one.
--     IsComponentHat g hat       the rows are of positive ranks, in the order of tables, and their product with the
--                                factors is the table of the grid by component
--     HasComponentHat g hat      this is the hat of the grid by component; or the grid has none
--     IsComponentHatText g text  the text states the exponents, in the order of the components, and the rows of this
--                                hat; or that there is none, exactly if there is none
use Rattle.std.specs.Prelude.{◌≡◌, ℕ, ◌-◌, List, map, Option, MatchOption}
use Rattle.hat_division.specs.MultiTable.{IsMultiQuotient}
use Rattle.hat_division.specs.Product.{IsQuotient}
use Rattle.hat_division.specs.declared.tables.TableRow.{TableRow}
use Rattle.hat_division.specs.declared.multi_tables.MultiRow.{MultiRow}
use Rattle.hat_division.specs.Table.{homology_row}
use Rattle.homology_cert.specs.ComponentHomology.{IsComponentTable}
use Rattle.homology_cert.specs.ComponentRows.{component_row}
use Rattle.multi_degree.specs.ComponentDegrees.{component_exponents}
use Rattle.report_text.specs.Lines.{hat_lines, multi_hat_lines}
use Rattle.torus_geom.specs.Components.{components}
use Rattle.torus_geom.specs.Homology.{IsHomologyTable}
use Rattle.torus_geom.specs.Marks.{Marks, size}

abbrev pub hat_exponent : Marks → ℕ
hat_exponent g = size g - components g

pub record IsHat (g : Marks) (hat : List TableRow) : Type 0 where
  pub rows : List TableRow
  pub table : IsHomologyTable g (map homology_row rows)
  pub quotient : IsQuotient (hat_exponent g) rows hat

abbrev pub HasHat : Marks → Option (List TableRow) → Type 0
HasHat g hat = MatchOption hat ((q : List TableRow) → ¬ IsHat g q) (λ q. IsHat g q)

pub record IsHatText (g : Marks) (text : List ℕ) : Type 0 where
  pub hat : Option (List TableRow)
  pub told : HasHat g hat
  pub lines : text ≡ hat_lines (hat_exponent g) hat

pub record IsComponentHat (g : Marks) (hat : List MultiRow) : Type 0 where
  pub rows : List MultiRow
  pub table : IsComponentTable g (map component_row rows)
  pub quotient : IsMultiQuotient (component_exponents g) rows hat

abbrev pub HasComponentHat : Marks → Option (List MultiRow) → Type 0
HasComponentHat g hat = MatchOption hat ((q : List MultiRow) → ¬ IsComponentHat g q) (λ q. IsComponentHat g q)

pub record IsComponentHatText (g : Marks) (text : List ℕ) : Type 0 where
  pub hat : Option (List MultiRow)
  pub told : HasComponentHat g hat
  pub lines : text ≡ multi_hat_lines (component_exponents g) hat
