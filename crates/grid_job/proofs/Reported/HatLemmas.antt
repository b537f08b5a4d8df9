-- Each grid has a table, and a hat or none.
use Rattle.std.proofs.Common.{◌≡◌, ℕ, ◌<◌, ◌≤◌, List, [], ◌∷◌, map, length, get_or, All, Contains, Option, Some, None, inl, inr, refl, sym, ap, subst, ◌∙◌, arith}
use Rattle.std.specs.Prelude.{MatchOption}
use Rattle.std.proofs.lemmas.List.{get_or-map}
use Rattle.std.proofs.lemmas.List.Elements.{Contains-get_or}
use Rattle.std.proofs.lemmas.List.Sums.{length-filter, count_by-le-length}
use Rattle.f2_algebra.specs.Bigraded.{StandsBefore}
use Rattle.f2_algebra.proofs.Ranks.OrderLemmas.{Decides-stands_before}
use Rattle.state_rank.specs.Bijection.{ascending}
use Rattle.state_rank.proofs.OrderLemmas.{length-tabulate}
use Rattle.hat_division.specs.Table.{bidegree_of, homology_row, AreOrdered}
use Rattle.hat_division.specs.Product.{IsQuotient}
use Rattle.hat_division.specs.Inner.Products.{ArePositive}
use Rattle.hat_division.specs.declared.tables.TableRow.{TableRow}
use Rattle.hat_division.proofs.Factors.BigradedTables.{has_quotient}
use Rattle.homology_cert.proofs.Homology.StateTables.{exists_homology_table, one_homology_table}
use Rattle.rectangles.proofs.Homology.CorankLemmas.{corank_table-table}
use Rattle.report_text.specs.Lines.{corank_lines, table_lines, hat_lines}
use Rattle.torus_geom.specs.Components.{is_first, components}
use Rattle.torus_geom.specs.Homology.{IsHomologyTable}
use Rattle.torus_geom.specs.Homology.{Row}
use Rattle.torus_geom.specs.Marks.{Marks, size, IsGrid}
use Rattle.grid_job.specs.Hat.{hat_exponent, IsHat, IsHatText, HasHat}
use Rattle.grid_job.specs.Report.{IsCorankText, IsTableText}
use Rattle.f2_algebra.proofs.Chains.Lists.{below-map}

-- ---- each grid has a table
table_row : Row → TableRow
table_row row = record { m = row.0; a = row.1; rank = row.2 }

homology_rows : (rows : List Row) → map homology_row (map table_row rows) ≡ rows
unfolding table_row
homology_rows [] = refl
homology_rows (row ∷ rows) = ap (λ rs. row ∷ rs) (homology_rows rows)

table_rows : (rows : List TableRow) → map table_row (map homology_row rows) ≡ rows
unfolding table_row
table_rows [] = refl
table_rows (row ∷ rows) = ap (λ rs. row ∷ rs) (table_rows rows)

pub exists_rows : (g : Marks) → IsGrid g → (rows : List TableRow) × IsHomologyTable g (map homology_row rows)
exists_rows g grid =
    let found = exists_homology_table g grid in
    (map table_row found.0, subst (IsHomologyTable g) (sym (homology_rows found.0)) found.1)

pub exists_table : (g : Marks) → IsGrid g → (text : List ℕ) × IsTableText g text
exists_table g grid =
    let found = exists_rows g grid in
    (table_lines found.0, record { rows = found.0; table = found.1; lines = refl })

-- they are a table of coranks too
pub exists_corank_text : (g : Marks) → IsGrid g → (text : List ℕ) × IsCorankText g text
exists_corank_text g grid =
    let found = exists_rows g grid in (
      corank_lines found.0,
      record {
        rows = found.0;
        table = (corank_table-table g grid (map homology_row found.0)).1 found.1;
        lines = refl;
      },
    )

-- and no other
one_table : (g : Marks) (rows others : List TableRow) → IsHomologyTable g (map homology_row rows)
    → IsHomologyTable g (map homology_row others) → rows ≡ others
one_table g rows others table other =
    sym (table_rows rows)
    ∙ ap (map table_row) (one_homology_table g (map homology_row rows) (map homology_row others) table other)
    ∙ table_rows others

-- ---- its rows are in order, with ranks above 0
module _ (g : Marks) (rows : List TableRow) (table : IsHomologyTable g (map homology_row rows)) where
  at_row : (k : ℕ) (d : TableRow) → k < length rows
      → get_or (map homology_row rows) k (homology_row d) ≡ homology_row (get_or rows k d)
  at_row k d l = get_or-map homology_row rows k d (homology_row d) l

  in_order : AreOrdered rows
  in_order i j d l within =
      let pair = table.ordered i j (homology_row d) l (below-map homology_row rows j within) in
      let first =
      subst (λ (t : Row × Row). StandsBefore (t.0.0, t.0.1) (t.1.0, t.1.1))
      (λ k. (at_row i d (omega (arith, l, within)) k, at_row j d within k)) pair in
      (Decides-stands_before (bidegree_of (get_or rows i d)) (bidegree_of (get_or rows j d))).1 first

  above_zero : All (λ (row : TableRow). 1 ≤ row.rank) rows
  above_zero k d l =
      let row = get_or rows k d in
      let inside : Contains (map homology_row rows) (homology_row row) =
      subst (Contains (map homology_row rows)) (at_row k d l)
      (Contains-get_or (map homology_row rows) k (homology_row d) (below-map homology_row rows k l)) in
      omega (arith, ((table.complete row.m row.a row.rank).0 inside).0)

  ArePositive-homology : ArePositive rows
  ArePositive-homology = record { ordered = in_order; positive = above_zero }

-- ---- the exponent
-- there are at most as many components as columns
pub components-le : (g : Marks) → components g ≤ size g
unfolding components
components-le g =
    omega (
      arith,
      length-filter (is_first g) (ascending (size g)),
      count_by-le-length (is_first g) (ascending (size g)),
      length-tabulate (size g) (λ (c : ℕ). c),
    )

-- ---- each grid has a hat or has none
IsHat-quotient : (g : Marks) (rows q : List TableRow) → IsHomologyTable g (map homology_row rows)
    → IsQuotient (hat_exponent g) rows q → IsHat g q
IsHat-quotient g rows q table quotient = record { rows = rows; table = table; quotient = quotient }

quotient-IsHat : (g : Marks) (rows q : List TableRow) → IsHomologyTable g (map homology_row rows) → IsHat g q
    → IsQuotient (hat_exponent g) rows q
quotient-IsHat g rows q table hat =
    subst (λ r. IsQuotient (hat_exponent g) r q) (one_table g hat.rows rows hat.table table) hat.quotient

pub exists_hat : (g : Marks) → IsGrid g → (hat : Option (List TableRow)) × HasHat g hat
exists_hat g grid =
    let found = exists_rows g grid in
    elim (has_quotient (hat_exponent g) found.0 (ArePositive-homology g found.0 found.1)) [
      | inl q ↦ (Some q.0, IsHat-quotient g found.0 q.0 found.1 q.1)
      | inr none ↦ (None, λ q hat. none q (quotient-IsHat g found.0 q found.1 hat))
    ]

pub exists_hat_text : (g : Marks) → IsGrid g → (text : List ℕ) × IsHatText g text
exists_hat_text g grid =
    let (hat, told) = exists_hat g grid in
    (hat_lines (hat_exponent g) hat, record { hat = hat; told = told; lines = refl })

-- the quotient by the exponent of the grid, or none, is the hat
pub HasHat-quotient : (g : Marks) (k : ℕ) (rows : List TableRow) (found : Option (List TableRow)) → k ≡ hat_exponent g
    → IsHomologyTable g (map homology_row rows)
    → MatchOption found ((q : List TableRow) → IsQuotient k rows q → ⊥) (λ q. IsQuotient k rows q) → HasHat g found
HasHat-quotient g k rows None exponent table told =
    λ q hat. told q (subst (λ n. IsQuotient n rows q) (sym exponent) (quotient-IsHat g rows q table hat))
HasHat-quotient g k rows (Some q) exponent table told =
    IsHat-quotient g rows q table (subst (λ n. IsQuotient n rows q) exponent told)

-- the lines of the quotient by the exponent of the grid, or of none, are those of the hat
pub IsHatText-quotient : (g : Marks) (k : ℕ) (rows : List TableRow) (found : Option (List TableRow)) (text : List ℕ)
    → k ≡ hat_exponent g → IsHomologyTable g (map homology_row rows)
    → MatchOption found ((q : List TableRow) → IsQuotient k rows q → ⊥) (λ q. IsQuotient k rows q)
    → text ≡ hat_lines k found → IsHatText g text
IsHatText-quotient g k rows found text exponent table told lines = record {
  hat = found;
  told = HasHat-quotient g k rows found exponent table told;
  lines = lines ∙ ap (λ n. hat_lines n found) exponent;
}
