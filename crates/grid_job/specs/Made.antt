-- What `make` writes: the script of its size and its seed, and below it a line that sums up its grid.
--     HasClassVerdict g sign alive   the class of x+ or x- is alive, or it is null
--     summary_line tb rot total plus minus
--                                the numbers of the front, the sum of the ranks of the table, and the verdicts of x+
--                                and x-
--     IsSummary g text           the line of the grid g
--     IsMade n seed answer       the plain form of the script of this size and seed, and the summary of its grid
use Rattle.std.specs.Prelude.{◌≡◌, ℕ, ℤ, Bool, true, false, List, map, ◌++◌, codes}
use Rattle.std.specs.List.{sum_by}
use Rattle.std.specs.Fmt.{decimal, signed_decimal}
use Rattle.torus_geom.specs.Chains.{Chain, single}
use Rattle.torus_geom.specs.Front.{thurston_bennequin, rotation}
use Rattle.torus_geom.specs.Homology.{IsHomologyTable}
use Rattle.torus_geom.specs.Marks.{Marks}
use Rattle.hat_division.specs.declared.tables.TableRow.{TableRow}
use Rattle.hat_division.specs.Table.{homology_row}
use Rattle.legendrian_class.specs.Verdicts.{IsNull, IsAlive}
use Rattle.text_lines.specs.Lines.{line}
use Rattle.report_text.specs.Lines.{verdict_word}
use Rattle.grid_text.specs.declared.commands.Sign.{Sign}
use Rattle.grid_text.specs.declared.commands.Sign.TheVariants.{Plus, Minus}
use Rattle.grid_text.specs.PlainForm.{plain_form}
use Rattle.grid_text.specs.Script.{GridScript}
use Rattle.grid_job.specs.Generator.{IsMadeScript}
use Rattle.grid_job.specs.VerdictTexts.{class_state}

abbrev pub HasClassVerdict : Marks → Sign → Bool → Type 0
HasClassVerdict g sign true = (f : Chain) × IsAlive g (single (class_state g sign)) f
HasClassVerdict g sign false = (b : Chain) × IsNull g (single (class_state g sign)) b

abbrev pub summary_line : ℤ → ℤ → ℕ → Bool → Bool → List ℕ
summary_line tb rot total plus minus = line
    (codes "# tb " ++ signed_decimal tb ++ codes " rot " ++ signed_decimal rot ++ codes " rank " ++ decimal total
    ++ codes " plus " ++ verdict_word plus ++ codes " minus " ++ verdict_word minus)

pub record IsSummary (g : Marks) (text : List ℕ) : Type 0 where
  pub rows : List TableRow
  pub table : IsHomologyTable g (map homology_row rows)
  pub alive_plus : Bool
  pub plus : HasClassVerdict g Plus alive_plus
  pub alive_minus : Bool
  pub minus : HasClassVerdict g Minus alive_minus
  pub told : text
      ≡ summary_line (thurston_bennequin g) (rotation g) (sum_by (λ row. row.rank) rows) alive_plus alive_minus

pub record IsMade (n seed : ℕ) (answer : List ℕ) : Type 0 where
  pub script : GridScript
  pub made : IsMadeScript n seed script
  pub summary : List ℕ
  pub sums_up : IsSummary script.grid summary
  pub told : answer ≡ plain_form script ++ summary
