-- Each grid has a table by component, and a hat by component or none.
use Rattle.std.proofs.Common.{◌≡◌, ℕ, ◌+◌, ◌-◌, ◌<◌, ◌≤◌, ℤ, List, [], ◌∷◌, ◌++◌, map, length, get_or, slice_index, take, All, Contains, Option, Some, None, inl, inr, IsTrue, refl, sym, ap, subst, ◌∙◌, arith}
use Rattle.std.specs.Prelude.{MatchOption}
use Rattle.std.proofs.lemmas.List.{get_or-map, length-map, take_more}
use Rattle.std.proofs.lemmas.List.Elements.{Contains-get_or}
use Rattle.f2_algebra.proofs.Chains.Lists.{below-map}
use Rattle.hat_division.specs.DegreeLists.{stands_before_by_component}
use Rattle.hat_division.specs.MultiTable.{AreInComponentOrder, HasLength, IsMultiQuotient}
use Rattle.hat_division.specs.declared.multi_tables.MultiRow.{MultiRow}
use Rattle.hat_division.proofs.Multi.MultiTableLemmas.{decide_multi_quotient}
use Rattle.homology_cert.specs.ComponentHomology.{ComponentRow, IsComponentTable}
use Rattle.homology_cert.specs.ComponentRows.{component_row}
use Rattle.homology_cert.proofs.Components.StateTables.{some_component_table, one_component_table}
use Rattle.multi_degree.specs.ComponentDegrees.{component_exponents, component_size, first_columns}
use Rattle.report_text.specs.Lines.{multi_lines, multi_hat_lines}
use Rattle.torus_geom.specs.Components.{components}
use Rattle.torus_geom.specs.Marks.{Marks, IsGrid}
use Rattle.grid_job.specs.Hat.{IsComponentHat, HasComponentHat, IsComponentHatText}
use Rattle.grid_job.specs.Report.{IsComponentTableText}

-- ---- each grid has a table by component
multi_row : ComponentRow → MultiRow
multi_row row = record { m = row.0; d = row.1; rank = row.2 }

component_rows : (rows : List ComponentRow) → map component_row (map multi_row rows) ≡ rows
unfolding multi_row
component_rows [] = refl
component_rows (row ∷ rows) = ap (λ rs. row ∷ rs) (component_rows rows)

multi_rows : (rows : List MultiRow) → map multi_row (map component_row rows) ≡ rows
unfolding multi_row
multi_rows [] = refl
multi_rows (row ∷ rows) = ap (λ rs. row ∷ rs) (multi_rows rows)

exists_component_rows : (g : Marks) → IsGrid g → (rows : List MultiRow) × IsComponentTable g (map component_row rows)
exists_component_rows g grid =
    let (rows, table) = some_component_table g grid in
    (map multi_row rows, subst (IsComponentTable g) (sym (component_rows rows)) table)

pub exists_component_table : (g : Marks) → IsGrid g → (text : List ℕ) × IsComponentTableText g text
exists_component_table g grid =
    let (rows, table) = exists_component_rows g grid in
    (multi_lines rows, record { rows = rows; table = table; lines = refl })

-- and no other
one_table : (g : Marks) (rows others : List MultiRow) → IsComponentTable g (map component_row rows)
    → IsComponentTable g (map component_row others) → rows ≡ others
one_table g rows others table other =
    sym (multi_rows rows)
    ∙ ap (map multi_row) (one_component_table g (map component_row rows) (map component_row others) table other)
    ∙ multi_rows others

-- ---- its rows are in order, with ranks above 0
module _ (g : Marks) (rows : List MultiRow) (table : IsComponentTable g (map component_row rows)) where
  at_row : (k : ℕ) (d : MultiRow) → k < length rows
      → get_or (map component_row rows) k (component_row d) ≡ component_row (get_or rows k d)
  at_row k d l = get_or-map component_row rows k d (component_row d) l

  in_order : AreInComponentOrder rows
  in_order i j d l within =
      let pair = table.ordered i j (component_row d) l (below-map component_row rows j within) in
      subst (λ (t : ComponentRow × ComponentRow). IsTrue (stands_before_by_component (t.0.0, t.0.1) (t.1.0, t.1.1)))
      (λ k. (at_row i d (omega (arith, l, within)) k, at_row j d within k)) pair

  above_zero : All (λ (row : MultiRow). 1 ≤ row.rank) rows
  above_zero k d l =
      let row = get_or rows k d in
      let inside : Contains (map component_row rows) (component_row row) =
      subst (Contains (map component_row rows)) (at_row k d l)
      (Contains-get_or (map component_row rows) k (component_row d) (below-map component_row rows k l)) in
      omega (arith, ((table.complete row.m row.d row.rank).0 inside).0)

-- ---- the exponents
pub length-component_exponents : (g : Marks) → length (component_exponents g) ≡ components g
unfolding components
length-component_exponents g = length-map (first_columns g) (λ f. component_size g f - 1)

-- one exponent for each component
pub exponents-lengths : (g : Marks) (es : List ℕ) (rows : List MultiRow) → es ≡ component_exponents g
    → All (HasLength (components g)) rows → All (HasLength (length es)) rows
exponents-lengths g es rows same lengths =
    subst (λ n. All (HasLength n) rows) (sym (ap length same ∙ length-component_exponents g)) lengths

-- the exponent of the next component
pub exponents-next : (g : Marks) (es new : List ℕ) (i e : ℕ) → i < components g → es ≡ take i (component_exponents g)
    → e ≡ slice_index (component_exponents g) i → new ≡ es ++ e ∷ [] → new ≡ take (i + 1) (component_exponents g)
exponents-next g es new i e within before is more =
    let below : i < length (component_exponents g) = omega (arith, length-component_exponents g, within) in
    more
    ∙ ap (λ l. l ++ e ∷ []) before
    ∙ ap (λ x. take i (component_exponents g) ++ x ∷ []) is
    ∙ sym (take_more (component_exponents g) i 0 below)

-- ---- each grid has a hat by component or has none
IsComponentHat-quotient : (g : Marks) (rows q : List MultiRow) → IsComponentTable g (map component_row rows)
    → IsMultiQuotient (component_exponents g) rows q → IsComponentHat g q
IsComponentHat-quotient g rows q table quotient = record { rows = rows; table = table; quotient = quotient }

quotient-IsComponentHat : (g : Marks) (rows q : List MultiRow) → IsComponentTable g (map component_row rows)
    → IsComponentHat g q → IsMultiQuotient (component_exponents g) rows q
quotient-IsComponentHat g rows q table hat =
    subst (λ r. IsMultiQuotient (component_exponents g) r q) (one_table g hat.rows rows hat.table table) hat.quotient

exists_component_hat : (g : Marks) → IsGrid g → (hat : Option (List MultiRow)) × HasComponentHat g hat
exists_component_hat g grid =
    let (rows, table) = exists_component_rows g grid in
    elim (decide_multi_quotient (component_exponents g) rows (in_order g rows table) (above_zero g rows table)) [
      | inl q ↦ (Some q.0, IsComponentHat-quotient g rows q.0 table q.1)
      | inr none ↦ (None, λ q hat. none q (quotient-IsComponentHat g rows q table hat))
    ]

pub exists_component_hat_text : (g : Marks) → IsGrid g → (text : List ℕ) × IsComponentHatText g text
exists_component_hat_text g grid =
    let (hat, told) = exists_component_hat g grid in
    (multi_hat_lines (component_exponents g) hat, record { hat = hat; told = told; lines = refl })

-- the quotient by the exponents of the components, or none, is the hat by component
HasComponentHat-quotient : (g : Marks) (es : List ℕ) (rows : List MultiRow) (found : Option (List MultiRow))
    → es ≡ component_exponents g → IsComponentTable g (map component_row rows)
    → MatchOption found ((q : List MultiRow) → IsMultiQuotient es rows q → ⊥) (λ q. IsMultiQuotient es rows q)
    → HasComponentHat g found
HasComponentHat-quotient g es rows None same table told =
    λ q hat. told q (subst (λ l. IsMultiQuotient l rows q) (sym same) (quotient-IsComponentHat g rows q table hat))
HasComponentHat-quotient g es rows (Some q) same table told =
    IsComponentHat-quotient g rows q table (subst (λ l. IsMultiQuotient l rows q) same told)

-- and the lines of it are those of the hat by component
pub IsComponentHatText-quotient : (g : Marks) (es : List ℕ) (rows : List MultiRow) (found : Option (List MultiRow))
    (text : List ℕ) → es ≡ component_exponents g → IsComponentTable g (map component_row rows)
    → MatchOption found ((q : List MultiRow) → IsMultiQuotient es rows q → ⊥) (λ q. IsMultiQuotient es rows q)
    → text ≡ multi_hat_lines es found → IsComponentHatText g text
IsComponentHatText-quotient g es rows found text same table told lines = record {
  hat = found;
  told = HasComponentHat-quotient g es rows found same table told;
  lines = lines ∙ ap (λ l. multi_hat_lines l found) same;
}
