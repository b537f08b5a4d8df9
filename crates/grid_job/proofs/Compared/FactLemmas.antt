-- What two grids are compared by: each grid has it.
use Rattle.std.proofs.Common.{List, ℕ, refl}
use Rattle.torus_geom.specs.Components.{components}
use Rattle.torus_geom.specs.Front.{thurston_bennequin, rotation}
use Rattle.torus_geom.specs.Marks.{Marks, IsGrid}
use Rattle.grid_text.specs.declared.commands.Sign.TheVariants.{Plus, Minus}
use Rattle.report_text.specs.Compared.{compare_lines}
use Rattle.report_text.specs.declared.comparisons.Facts.{Facts}
use Rattle.grid_job.specs.Compared.{IsFacts, IsComparison}
use Rattle.grid_job.proofs.Generated.MadeLemmas.{exists_class_verdict}
use Rattle.grid_job.proofs.Reported.HatLemmas.{exists_rows, exists_hat}

exists_facts : (g : Marks) → IsGrid g → (f : Facts) × IsFacts g f
exists_facts g grid =
    let (rows, table) = exists_rows g grid in
    let (hat, told) = exists_hat g grid in
    let (plus, is_plus) = exists_class_verdict g grid Plus in
    let (minus, is_minus) = exists_class_verdict g grid Minus in (
      record {
        front = record { tb = thurston_bennequin g; rot = rotation g; components = components g };
        table = rows;
        hat = hat;
        plus_alive = plus;
        minus_alive = minus;
      },
      record { tb = refl; rot = refl; table = table; hat = told; plus = is_plus; minus = is_minus },
    )

-- so two grids have a comparison
pub exists_comparison : (g h : Marks) → IsGrid g → IsGrid h → (text : List ℕ) × IsComparison g h text
exists_comparison g h of_g of_h =
    let (a, is_a) = exists_facts g of_g in
    let (b, is_b) = exists_facts h of_h in (
      compare_lines a b,
      record { first = a; second = b; of_first = is_a; of_second = is_b; lines = refl },
    )
