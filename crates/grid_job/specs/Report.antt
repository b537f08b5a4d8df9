-- Reports: the bytes that a run writes for a script. The table of a grid is given by what holds of it, so
-- a text is a report by what holds of it too.
--     IsTableText g text       the text has the lines of the table of the grid
--     IsComponentTableText g text
--                              the text has the lines of the table of the grid by component
--     IsRanksText v g text     the first of these in version 1, the second in version 2
--     IsHatTextIn v g text     the text is that of the hat in version 1, and that of the hat by component in version 2
--     IsCorankText g text      the text has the lines of the table of coranks of the grid
--     IsEulerText g text       the text has the lines of the Euler numbers of the grid
--     IsAnswer v p c text      the text may be the answer, in this version, to the command c where p is in force
--     AreAnswers v p cs text   the text is the concatenation, in order, of one answer to each command, where p is
--                              in force before the first
--     IsReport s text          the same for the version, the grid and the commands of a script, and the empty chain
use Rattle.std.specs.Prelude.{◌≡◌, ◌⊎◌, List, ℕ, [], ◌∷◌, ◌++◌, map, codes}
use Rattle.hat_division.specs.declared.tables.TableRow.{TableRow}
use Rattle.hat_division.specs.declared.multi_tables.MultiRow.{MultiRow}
use Rattle.hat_division.specs.Table.{homology_row}
use Rattle.homology_cert.specs.ComponentHomology.{IsComponentTable}
use Rattle.homology_cert.specs.ComponentRows.{component_row}
use Rattle.grid_euler.specs.Euler.{IsEulerTable}
use Rattle.grid_euler.specs.declared.tables.EulerRow.{EulerRow}
use Rattle.report_text.specs.Lines.{corank_lines, front_line, table_lines, euler_lines, multi_lines}
use Rattle.rectangles.specs.Coranks.{IsCorankTable}
use Rattle.text_lines.specs.Lines.{line, chain_line}
use Rattle.torus_geom.specs.Border.{border}
use Rattle.torus_geom.specs.Chains.{single}
use Rattle.torus_geom.specs.Components.{components}
use Rattle.torus_geom.specs.Front.{thurston_bennequin, rotation}
use Rattle.torus_geom.specs.Homology.{IsHomologyTable}
use Rattle.torus_geom.specs.Marks.{Marks, size}
use Rattle.grid_text.specs.Script.{GridScript}
use Rattle.grid_text.specs.declared.commands.Command.{Command}
use Rattle.grid_text.specs.declared.commands.Command.TheVariants as command
use Rattle.hexagon_map.specs.Hexagon.{homotopy, return_image}
use Rattle.grid_job.specs.InForce.{InForce, at_start, after_command}
use Rattle.grid_job.specs.Hat.{IsHatText, IsComponentHatText}
use Rattle.grid_job.specs.VerdictTexts.{IsClassText, IsBoundsText}

-- the lines of rows that are the table of the ranks of the homology of the grid
pub record IsTableText (g : Marks) (text : List ℕ) : Type 0 where
  pub rows : List TableRow
  pub table : IsHomologyTable g (map homology_row rows)
  pub lines : text ≡ table_lines rows

-- the lines of rows that are the table by the degrees at the components of its link
pub record IsComponentTableText (g : Marks) (text : List ℕ) : Type 0 where
  pub rows : List MultiRow
  pub table : IsComponentTable g (map component_row rows)
  pub lines : text ≡ multi_lines rows

abbrev pub IsRanksText : ℕ → Marks → List ℕ → Type 0
IsRanksText v g text = ((v ≡ 1) × IsTableText g text) ⊎ ((v ≡ 2) × IsComponentTableText g text)

abbrev pub IsHatTextIn : ℕ → Marks → List ℕ → Type 0
IsHatTextIn v g text = ((v ≡ 1) × IsHatText g text) ⊎ ((v ≡ 2) × IsComponentHatText g text)

-- the lines of rows that are the table of the coranks of the grid
pub record IsCorankText (g : Marks) (text : List ℕ) : Type 0 where
  pub rows : List TableRow
  pub table : IsCorankTable g (map homology_row rows)
  pub lines : text ≡ corank_lines rows

-- the lines of the Euler numbers that are not 0
pub record IsEulerText (g : Marks) (text : List ℕ) : Type 0 where
  pub rows : List EulerRow
  pub numbers : IsEulerTable g rows
  pub lines : text ≡ euler_lines rows

-- the answer to each command: the classical invariants of the front; the table of ranks; the hat, or that there is
-- none (in version 2 the table and the hat have one degree for each component); the verdict of the class of x+ or x-,
-- and of the chain in force, each with its evidence; the states of the border, those of the chain in force, and those
-- of its image there and back across a commutation and of its homotopy, in ascending order; the table of coranks; the
-- Euler numbers; nothing if the command makes what is in force
abbrev pub IsAnswer : ℕ → InForce → Command → List ℕ → Type 0
IsAnswer v p command.Front text = text ≡ front_line (thurston_bennequin p.grid) (rotation p.grid) (components p.grid)
IsAnswer v p command.Ranks text = IsRanksText v p.grid text
IsAnswer v p command.Hat text = IsHatTextIn v p.grid text
IsAnswer v p (command.Class sign) text = IsClassText p.grid sign text
IsAnswer v p (command.Border x) text =
    text ≡ line (chain_line (codes "border") (size p.grid) (border p.grid (single x)))
IsAnswer v p command.Show text = text ≡ line (chain_line (codes "chain") (size p.grid) p.chain)
IsAnswer v p command.Bounds text = IsBoundsText p.grid p.chain text
IsAnswer v p (command.Invert axis c corner) text = text
    ≡ line (chain_line (codes "return") (size p.grid) (return_image axis p.grid c corner p.chain))
    ++ line (chain_line (codes "homotopy") (size p.grid) (homotopy axis p.grid c corner p.chain))
IsAnswer v p command.Coranks text = IsCorankText p.grid text
IsAnswer v p command.Euler text = IsEulerText p.grid text
IsAnswer v p other text = text ≡ []

-- one answer to each command, in order, and nothing else
abbrev pub AreAnswers : ℕ → InForce → List Command → List ℕ → Type 0
AreAnswers v p [] text = text ≡ []
AreAnswers v p (c ∷ cs) text =
    (first later : List ℕ) × IsAnswer v p c first × AreAnswers v (after_command p c) cs later × (text ≡ first ++ later)

abbrev pub IsReport : GridScript → List ℕ → Type 0
IsReport s text = AreAnswers s.version (at_start s.grid) s.commands text
