-- A grid has one table of ranks by component, and no more.
use Rattle.std.proofs.Common.{◌≡◌, ℕ, ℤ, List, Contains, IsTrue, refl, sym, ap, subst, ◌∙◌, arith}
use Rattle.std.proofs.lemmas.Bool.{false≢true}
use Rattle.state_rank.specs.States.{factorial, unrank}
use Rattle.torus_geom.specs.Marks.{Marks, size, IsGrid}
use Rattle.hat_division.specs.DegreeLists.{stands_before_by_component}
use Rattle.homology_cert.specs.ComponentHomology.{ComponentRow}
use Rattle.homology_cert.specs.Inner.CodeComponents.{multidegree, IsComponentRank, IsComponentTable}
use Rattle.homology_cert.proofs.Homology.LawLemmas.{ordered_lists-same}
use Rattle.hat_division.proofs.Multi.DegreeListLemmas.{same_multidegree, same_multidegree-is, multidegree_before-itself, multidegree_before-transitive, multidegree_before-or}
use Rattle.homology_cert.proofs.Components.ComponentRanks.{some_component_rank, one_component_rank, component_rank_none}
use Rattle.hat_division.proofs.Factors.TableShapes.{TableShape, ranks_of, ArePositive, ranks_of-member, row_found}
use Rattle.hat_division.proofs.Factors.QuotientSteps.{ranks_of-row}
use Rattle.hat_division.proofs.Factors.TableExistence.{some_table}

abbrev pub RowStandsBefore : ComponentRow → ComponentRow → Type 0
RowStandsBefore p q = IsTrue (stands_before_by_component (p.0, p.1) (q.0, q.1))

one_way : (p q : ComponentRow) → RowStandsBefore p q → RowStandsBefore q p → ⊥
one_way p q a b =
    false≢true (sym (multidegree_before-itself (p.0, p.1))
    ∙ multidegree_before-transitive (p.0, p.1) (q.0, q.1) (p.0, p.1) a b)

pub one_component_table : (g : Marks) (s t : List ComponentRow) → IsComponentTable g s → IsComponentTable g t → s ≡ t
one_component_table g s t p q =
    ordered_lists-same RowStandsBefore one_way s t p.ordered q.ordered (λ z. (
      λ inside. (q.complete z.0 z.1 z.2).1 ((p.complete z.0 z.1 z.2).0 inside),
      λ inside. (p.complete z.0 z.1 z.2).1 ((q.complete z.0 z.1 z.2).0 inside),
    ))

-- ---- and it has one
abbrev pub component_row_shape : TableShape ComponentRow (ℤ × List ℤ)
component_row_shape = record {
  key = λ row. (row.0, row.1);
  rank = λ row. row.2;
  make = λ k n. (k.0, k.1, n);
  key_made = λ k n. refl;
  rank_made = λ k n. refl;
  made = λ row. refl;
  same = same_multidegree;
  same_is = same_multidegree-is;
  before = stands_before_by_component;
  before_itself = multidegree_before-itself;
  before_later = multidegree_before-transitive;
  before_or = multidegree_before-or;
  height = λ k. k.0;
}

module _ (g : Marks) (grid : IsGrid g) where
  -- rows in order are the table if they have the ranks
  pub table_of_ranks : (rows : List ComponentRow) → ArePositive component_row_shape rows
      → ((m : ℤ) (ds : List ℤ) → IsComponentRank g m ds (ranks_of component_row_shape rows (m, ds)))
      → IsComponentTable g rows
  table_of_ranks rows positive told = record {
    ordered = positive.ordered;
    complete = λ m ds d. (
      λ inside.
          let own : ranks_of component_row_shape rows (m, ds) ≡ d =
          ranks_of-row component_row_shape rows (m, ds, d) positive.ordered inside in
          let some = ranks_of-member component_row_shape rows (m, ds, d) positive inside in
          (omega arith, subst (IsComponentRank g m ds) own (told m ds)),
      λ held.
          let same = one_component_rank g grid m ds (ranks_of component_row_shape rows (m, ds)) d (told m ds) held.1 in
          let some = held.0 in
          let found = row_found component_row_shape rows (m, ds) (omega arith) in
          let own = ranks_of-row component_row_shape rows found.0 positive.ordered found.1 in
          let at = ap (ranks_of component_row_shape rows) found.2 in
          let rank : found.0.2 ≡ d = sym own ∙ at ∙ same in
          subst (Contains rows) (λ i. ((found.2 i).0, (found.2 i).1, rank i)) found.1,
    );
  }

  rank_of : ℤ × List ℤ → ℕ
  rank_of k = (some_component_rank g grid k.0 k.1).0

  rank_of-is : (k : ℤ × List ℤ) (d : ℕ) → IsComponentRank g k.0 k.1 d → rank_of k ≡ d
  unfolding rank_of
  rank_of-is k d held =
      one_component_rank g grid k.0 k.1 (some_component_rank g grid k.0 k.1).0 d
      (some_component_rank g grid k.0 k.1).1 held

  made : (rows : List ComponentRow) × ArePositive component_row_shape rows
      × ((k : ℤ × List ℤ) → ranks_of component_row_shape rows k ≡ rank_of k)
  made = some_table component_row_shape (factorial (size g)) (λ s. multidegree g (unrank (size g) s)) rank_of
      (λ k none. rank_of-is k 0 (component_rank_none g grid k.0 k.1 none))

  pub some_component_table : (rows : List ComponentRow) × IsComponentTable g rows
  unfolding rank_of
  some_component_table =
      let rows = made in (
        rows.0,
        table_of_ranks rows.0 rows.1
            (λ m ds. subst (IsComponentRank g m ds) (sym (rows.2 (m, ds))) (some_component_rank g grid m ds).1),
      )
