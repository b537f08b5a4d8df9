-- What `make` writes.
use Rattle.std.proofs.Common.{◌≡◌, ℕ, ℤ, Bool, true, false, List, ◌++◌, map, refl, sym, ap, subst, ◌∙◌}
use Rattle.std.specs.List.{sum_by}
use Rattle.state_rank.specs.Bijection.{IsSize}
use Rattle.torus_geom.specs.Front.{thurston_bennequin, rotation}
use Rattle.torus_geom.specs.Homology.{IsHomologyTable}
use Rattle.torus_geom.specs.Marks.{Marks, IsGrid}
use Rattle.hat_division.specs.declared.tables.TableRow.{TableRow}
use Rattle.hat_division.specs.Table.{homology_row}
use Rattle.torus_geom.specs.Chains.{Chain}
use Rattle.legendrian_class.specs.Verdicts.{Verdict, IsVerdict}
use Rattle.legendrian_class.specs.Verdicts.Verdict.{NotCycle, Null, Alive}
use Rattle.legendrian_class.proofs.StateVerdicts.{HasVerdict-states}
use Rattle.grid_text.specs.Script.{GridScript}
use Rattle.grid_text.specs.PlainForm.{plain_form}
use Rattle.grid_text.specs.declared.commands.Sign.{Sign}
use Rattle.grid_text.specs.declared.commands.Sign.TheVariants.{Plus, Minus}
use Rattle.grid_job.specs.Generator.{IsMadeScript}
use Rattle.grid_job.specs.Made.{HasClassVerdict, summary_line, IsSummary, IsMade}
use Rattle.grid_job.proofs.Reported.ClassLemmas.{class_chain, class_is_cycle, IsChain-class_chain}
use Rattle.grid_job.proofs.Reported.HatLemmas.{exists_rows}
use Rattle.grid_job.proofs.Generated.GeneratorLemmas.{exists_script}

-- the verdict of a cycle is alive, or it is null
abbrev TellsAlive : Verdict → Bool → Type 0
TellsAlive (NotCycle s) alive = ⊥
TellsAlive (Null b) alive = alive ≡ false
TellsAlive (Alive f) alive = alive ≡ true

HasClassVerdict-told : (g : Marks) (sign : Sign) (v : Verdict) (alive : Bool) → IsVerdict g (class_chain g sign) v
    → TellsAlive v alive → HasClassVerdict g sign alive
HasClassVerdict-told g sign (NotCycle s) alive stands told = absurd told
HasClassVerdict-told g sign (Null b) alive stands told = subst (HasClassVerdict g sign) (sym told) (b, stands)
HasClassVerdict-told g sign (Alive f) alive stands told = subst (HasClassVerdict g sign) (sym told) (f, stands)

-- a verdict of a class, told otherwise
pub HasClassVerdict-of : (g : Marks) (sign : Sign) (z : Chain) (v w : Verdict) (alive : Bool)
    → z ≡ class_chain g sign → v ≡ w → IsVerdict g z v → TellsAlive w alive → HasClassVerdict g sign alive
HasClassVerdict-of g sign z v w alive is_class is stands told =
    HasClassVerdict-told g sign w alive (subst (λ y. IsVerdict g y w) is_class (subst (IsVerdict g z) is stands)) told

-- each class has one
exists_alive : (g : Marks) → IsGrid g → (sign : Sign) (v : Verdict) → IsVerdict g (class_chain g sign) v
    → (alive : Bool) × HasClassVerdict g sign alive
exists_alive g grid sign (NotCycle s) stands = absurd (class_is_cycle g grid sign s stands)
exists_alive g grid sign (Null b) stands = (false, (b, stands))
exists_alive g grid sign (Alive f) stands = (true, (f, stands))

pub exists_class_verdict : (g : Marks) → IsGrid g → (sign : Sign) → (alive : Bool) × HasClassVerdict g sign alive
exists_class_verdict g grid sign =
    let found = HasVerdict-states g grid (class_chain g sign) (IsChain-class_chain g grid sign) in
    exists_alive g grid sign found.0 found.1

-- ---- summaries
pub IsSummary-of : (g : Marks) (rows : List TableRow) (tb rot : ℤ) (total : ℕ) (plus minus : Bool) (text : List ℕ)
    → IsHomologyTable g (map homology_row rows)
    → HasClassVerdict g Plus plus → HasClassVerdict g Minus minus → tb ≡ thurston_bennequin g → rot ≡ rotation g
    → total ≡ sum_by (λ row. row.rank) rows
    → text ≡ summary_line tb rot total plus minus → IsSummary g text
IsSummary-of g rows tb rot total plus minus text table is_plus is_minus is_tb is_rot is_total told = record {
  rows = rows;
  table = table;
  alive_plus = plus;
  plus = is_plus;
  alive_minus = minus;
  minus = is_minus;
  told = told ∙ (λ i. summary_line (is_tb i) (is_rot i) (is_total i) plus minus);
}

exists_summary : (g : Marks) → IsGrid g → (text : List ℕ) × IsSummary g text
exists_summary g grid =
    let table = exists_rows g grid in
    let plus = exists_class_verdict g grid Plus in
    let minus = exists_class_verdict g grid Minus in (
      _,
      IsSummary-of g table.0 (thurston_bennequin g) (rotation g)
          (sum_by (λ row. row.rank) table.0) plus.0 minus.0 _ table.1 plus.1 minus.1 refl refl refl refl,
    )

pub IsMade-of : (n seed : ℕ) (script : GridScript) (g : Marks) (text plain summary : List ℕ)
    → IsMadeScript n seed script → g ≡ script.grid → IsSummary g summary → plain ≡ plain_form script
    → text ≡ plain ++ summary → IsMade n seed text
IsMade-of n seed script g text plain summary made is_grid sums_up is_plain told = record {
  script = script;
  made = made;
  summary = summary;
  sums_up = subst (λ h. IsSummary h summary) is_grid sums_up;
  told = told ∙ ap (λ t. t ++ summary) is_plain;
}

-- each size and seed has a text
pub exists_made : (n seed : ℕ) → IsSize n → (answer : List ℕ) × IsMade n seed answer
exists_made n seed size =
    let script = exists_script n seed size in
    let summary = exists_summary script.0.grid script.2 in (
      plain_form script.0 ++ summary.0,
      IsMade-of n seed script.0 script.0.grid (plain_form script.0 ++ summary.0)
          (plain_form script.0) summary.0 script.1 refl summary.1 refl refl,
    )
