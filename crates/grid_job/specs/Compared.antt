-- What `compare` answers to a text of two documents.
--     IsFacts g f                 f has what the grid g is compared by: its tb and rot, its table, its hat or that it
--                                 has none, and whether the classes of x+ and x- are alive
--     IsComparison g h text       the text has the lines that compare these facts of the two grids
--     IsCompared text answer      the text is a pair of documents, and the answer compares the grids in force at the
--                                 ends of the two
--     IsPairFaulty text answer    the text is no pair of documents, and the answer states what it is refused for
use Rattle.std.specs.Prelude.{◌≡◌, ℕ, ◌≤◌, List, length, map}
use Rattle.torus_geom.specs.Front.{thurston_bennequin, rotation}
use Rattle.torus_geom.specs.Homology.{IsHomologyTable}
use Rattle.torus_geom.specs.Marks.{Marks}
use Rattle.hat_division.specs.Table.{homology_row}
use Rattle.grid_text.specs.Limits.{max_text}
use Rattle.grid_text.specs.Pairs.{IsPair, PairFault, pair_fault_word, IsFirstPairFault}
use Rattle.grid_text.specs.Script.{GridScript, grid_in_force}
use Rattle.grid_text.specs.declared.commands.Sign.TheVariants.{Plus, Minus}
use Rattle.report_text.specs.Compared.{compare_lines}
use Rattle.report_text.specs.Lines.{refused_line}
use Rattle.report_text.specs.declared.comparisons.Facts.{Facts}
use Rattle.grid_job.specs.Hat.{HasHat}
use Rattle.grid_job.specs.Made.{HasClassVerdict}

pub record IsFacts (g : Marks) (f : Facts) : Type 0 where
  pub tb : f.front.tb ≡ thurston_bennequin g
  pub rot : f.front.rot ≡ rotation g
  pub table : IsHomologyTable g (map homology_row f.table)
  pub hat : HasHat g f.hat
  pub plus : HasClassVerdict g Plus f.plus_alive
  pub minus : HasClassVerdict g Minus f.minus_alive

pub record IsComparison (g h : Marks) (text : List ℕ) : Type 0 where
  pub first : Facts
  pub second : Facts
  pub of_first : IsFacts g first
  pub of_second : IsFacts h second
  pub lines : text ≡ compare_lines first second

pub record IsCompared (text answer : List ℕ) : Type 0 where
  pub within : length text ≤ max_text
  pub first : GridScript
  pub second : GridScript
  pub pair : IsPair text first second
  pub compared : IsComparison (grid_in_force first) (grid_in_force second) answer

pub record IsPairFaulty (text answer : List ℕ) : Type 0 where
  pub within : length text ≤ max_text
  pub fault : PairFault
  pub number : ℕ
  pub first : IsFirstPairFault text fault number
  pub told : answer ≡ refused_line (pair_fault_word fault) number
