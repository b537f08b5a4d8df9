-- The table of a grid by component: one Alexander degree after another is done; then the rows are the table.
use Rattle.std.proofs.Common.{◌≡◌, ◌⊎◌, ℕ, ◌+◌, ◌<◌, ◌≤◌, ◌^◌, ℤ, pos, List, [], ◌∷◌, map, length, get_or, All, Contains, IsTrue, inl, inr, refl, sym, ap, subst, ◌∙◌, arith}
use Rattle.std.specs.Prelude.{◌*ℤ◌}
use Rattle.std.specs.List.{AllByRecursion}
use Rattle.std.specs.List.Sorted.{IsStrictlySortedBy}
use Rattle.std.specs.Ordering.{int_cmp, int_eq, is_lt}
use Rattle.std.specs.declared.cmp.Ordering.TheVariants.{Less}
use Rattle.std.specs.BTreeSet.{BTreeSet}
use Rattle.std.proofs.lemmas.Bool.{cases_Bool, cases_lt, false≢true}
use Rattle.std.proofs.lemmas.Bool.Decides.{Decides-int_eq}
use Rattle.std.proofs.lemmas.Cmp.{int_cmp_total, tied_itself}
use Rattle.std.proofs.lemmas.Int.{ints}
use Rattle.std.proofs.lemmas.List.Elements.{Contains-get_or, All-nil}
use Rattle.std.proofs.lemmas.Map.Lookups.{exact_signed}
use Rattle.std.proofs.lemmas.Map.Views.{btree_set_contains_iff}
use Rattle.gradings.specs.Degrees.{IsSmallDegree}
use Rattle.state_rank.specs.States.{factorial, unrank}
use Rattle.state_rank.proofs.RankLemmas.{IsBijection-unrank}
use Rattle.state_rank.proofs.MemberLemmas.{member_cases, member_head, member_tail, no_member, member_of_map, pairs_map}
use Rattle.torus_geom.specs.Components.{components}
use Rattle.torus_geom.specs.Degrees.{alexander}
use Rattle.torus_geom.specs.Marks.{Marks, size, IsGrid}
use Rattle.sparse_complex.specs.declared.slices.Cell.{Cell}
use Rattle.multi_degree.specs.ComponentDegrees.{total_degree}
use Rattle.homology_cert.specs.ComponentHomology.{ComponentRow}
use Rattle.homology_cert.specs.Inner.CodeComponents.{IsComponentRank, IsComponentTable}
use Rattle.homology_cert.specs.Inner.Ranks.{HasDegrees}
use Rattle.homology_cert.specs.ComponentRows.{component_row, HasSmallComponentRank}
use Rattle.hat_division.specs.MultiTable.{degrees_of, component_rank_at, HasLength, IsSmallByComponent, IsMultiTable, ArePositive}
use Rattle.homology_cert.specs.Inner.Left.{cell_count, HasComponentRanks, IsKey, AreCounted, IsDone}
use Rattle.hat_division.specs.declared.multi_tables.MultiRow.{MultiRow}
use Rattle.multi_degree.proofs.DegreeLaws.{total_degree-component_degrees}
use Rattle.homology_cert.proofs.Components.ComponentRanks.{component_rank_elsewhere}
use Rattle.homology_cert.proofs.Components.ComponentTables.{component_row_shape, table_of_ranks}
use Rattle.homology_cert.proofs.Components.CountedCells.{cell_count-most, some_cell}
use Rattle.hat_division.proofs.Multi.DividedRows.{component_rank_at-row}
use Rattle.hat_division.proofs.Multi.MultiTableLemmas.{multi_shape, component_rank_at-ranks_of}
use Rattle.hat_division.proofs.Factors.TableShapes as shapes
use Rattle.hat_division.proofs.Factors.TableShapes.{ranks_of, ranks_of-cons, ranks_of-nil}

same_or_not : (a b : ℤ) → (a ≡ b) ⊎ (a ≡ b → ⊥)
same_or_not a b = elim (cases_Bool (int_eq a b)) [
  | inl h ↦ inl ((Decides-int_eq a b).0 h)
  | inr h ↦ inr (λ e. false≢true (sym h ∙ (Decides-int_eq a b).1 e))
]

same_half : (t a b : ℤ) → t ≡ pos 2 *ℤ a → t ≡ pos 2 *ℤ b → a ≡ b
same_half t a b h k = omega (arith, ints)

-- ---- the Alexander degrees, one by one
-- before the first there are no rows, and the ranks at degrees that no state has are 0
pub done-none : (g : Marks) → IsGrid g → (degrees : BTreeSet ℤ) (rows : List MultiRow) → rows ≡ []
    → HasDegrees g (factorial (size g)) degrees → IsDone g degrees.keys rows
done-none g grid degrees rows empty has = subst (IsDone g degrees.keys) (sym empty) (record {
  positive = record { ordered = λ i j d l m. absurd (omega arith); positive = All-nil _ };
  done = λ m ds unseen. component_rank_elsewhere g grid m ds
      (λ s l e. unseen (alexander g (unrank (size g) s)) (seen s l) e);
  fresh = λ m ds a waiting e. refl;
  small = λ k. omega arith;
  keys = λ k some. absurd (omega arith);
})
  where
    seen : (s : ℕ) → s < factorial (size g) → Contains degrees.keys (alexander g (unrank (size g) s))
    seen s l =
        (btree_set_contains_iff int_cmp_total exact_signed degrees (alexander g (unrank (size g) s))).0 (has.found s l)

not_later : (a : ℤ) (left : List ℤ) → AllByRecursion (λ b. int_cmp a b ≡ Less) left → Contains left a → ⊥
not_later a [] h inside = no_member a inside
not_later a (b ∷ left) h inside = elim (member_cases b left a inside) [
  | inl is ↦
      false≢true (sym (ap is_lt (tied_itself int_cmp_total a)) ∙ ap (λ c. is_lt (int_cmp a c)) (sym is)
      ∙ ap is_lt h.0)
  | inr later ↦ not_later a left h.1 later
]

-- the degrees that are left, in order
abbrev pub AreLeft : Marks → List ℤ → List MultiRow → Type 0
AreLeft g left rows = IsStrictlySortedBy int_cmp left × IsDone g left rows

-- the cells of a slice have degrees that add up to twice its Alexander degree
count-elsewhere : (g : Marks) → IsGrid g → (a : ℤ) (cells : List Cell) → HasComponentRanks g a cells → (m : ℤ)
    (ds : List ℤ) → (total_degree ds ≡ pos 2 *ℤ a → ⊥) → cell_count g (m, ds) cells ≡ 0
count-elsewhere g grid a cells has m ds other = elim (cases_lt 0 (cell_count g (m, ds) cells)) [
  | inl some ↦
      let (c, inside, is) = some_cell g (m, ds) cells some in
      let (j, l, at) = inside in
      let state : c.code < factorial (size g) =
      subst (λ (x : Cell). x.code < factorial (size g)) at (has.states j c l).state in
      let in_slice : alexander g (unrank (size g) c.code) ≡ a =
      subst (λ (x : Cell). alexander g (unrank (size g) x.code) ≡ a) at (has.alexander j c l) in
      absurd (other (sym (ap (λ (p : ℤ × List ℤ). total_degree p.1) is)
      ∙ total_degree-component_degrees g grid (unrank (size g) c.code) (IsBijection-unrank (size g) c.code state)
      ∙ ap (λ b. pos 2 *ℤ b) in_slice))
  | inr none ↦ omega arith
]

-- the next degree is done
pub done-next : (g : Marks) → IsGrid g → (a : ℤ) (left : List ℤ) (cells : List Cell) (old new : List MultiRow)
    → HasComponentRanks g a cells → AreCounted g cells old new → AreLeft g (a ∷ left) old → AreLeft g left new
unfolding IsStrictlySortedBy
done-next g grid a left cells old new has counted so_far = (
  so_far.0.1,
  record {
    positive = counted.positive;
    done = λ m ds gone. elim (same_or_not (total_degree ds) (pos 2 *ℤ a)) [
      | inl is ↦ subst (IsComponentRank g m ds) (sym (here m ds is)) (has.ranks m ds is)
      | inr other ↦
          subst (IsComponentRank g m ds) (sym (elsewhere m ds other))
          (so_far.1.done m ds (λ b inside e. elim (member_cases a left b inside) [
            | inl same ↦ other (e ∙ ap (λ t. pos 2 *ℤ t) (sym same))
            | inr later ↦ gone b later e
          ]))
    ];
    fresh = λ m ds b waiting e.
        elsewhere m ds (λ at. not_later a left so_far.0.0
        (subst (Contains left) (same_half (total_degree ds) b a e at) waiting))
        ∙ so_far.1.fresh m ds b (member_tail a left b waiting) e;
    small = λ k. elim (same_or_not (total_degree k.1) (pos 2 *ℤ a)) [
      | inl is ↦
          let sum = here k.0 k.1 is in
          let most = cell_count-most g k cells in
          let few = has.few in
          omega arith
      | inr other ↦ let same = elsewhere k.0 k.1 other in let before = so_far.1.small k in omega arith
    ];
    keys = λ k some. elim (cases_lt 0 (cell_count g k cells)) [
      | inl more ↦ counted.keys k more
      | inr none ↦ let sum = counted.ranks k in so_far.1.keys k (omega arith)
    ];
  },
)
  where
    here : (m : ℤ) (ds : List ℤ) → total_degree ds ≡ pos 2 *ℤ a
        → component_rank_at new (m, ds) ≡ cell_count g (m, ds) cells
    here m ds is =
        let none = so_far.1.fresh m ds a (member_head a left) is in let sum = counted.ranks (m, ds) in omega arith

    elsewhere : (m : ℤ) (ds : List ℤ) → (total_degree ds ≡ pos 2 *ℤ a → ⊥)
        → component_rank_at new (m, ds) ≡ component_rank_at old (m, ds)
    elsewhere m ds other =
        let none = count-elsewhere g grid a cells has m ds other in let sum = counted.ranks (m, ds) in omega arith

-- ---- in the end
-- rows of numbers as rows of a table of ranks
ranks_of-rows : (rows : List MultiRow) (k : ℤ × List ℤ)
    → ranks_of component_row_shape (map component_row rows) k ≡ ranks_of multi_shape rows k
ranks_of-rows [] k = ranks_of-nil component_row_shape k ∙ sym (ranks_of-nil multi_shape k)
ranks_of-rows (row ∷ rows) k =
    ranks_of-cons component_row_shape (component_row row) (map component_row rows) k
    ∙ ap (λ n. shapes.part_at multi_shape row k + n) (ranks_of-rows rows k) ∙ sym (ranks_of-cons multi_shape row rows k)

abbrev RowsBefore : MultiRow → MultiRow → Type 0
RowsBefore p q = IsTrue (multi_shape.before (degrees_of p) (degrees_of q))

member_of_rows : (rows : List MultiRow) (r : ComponentRow) → Contains (map component_row rows) r
    → (row : MultiRow) × Contains rows row × (component_row row ≡ r)
member_of_rows rows r inside = member_of_map component_row rows r inside

rows_positive : (rows : List MultiRow) → ArePositive rows
    → shapes.ArePositive component_row_shape (map component_row rows)
rows_positive rows h = record {
  ordered = pairs_map RowsBefore (λ p q. IsTrue
      (component_row_shape.before (component_row_shape.key p) (component_row_shape.key q))) component_row rows
      (λ p q before. before) h.ordered;
  positive = λ k d l.
      let inside = Contains-get_or (map component_row rows) k d l in
      let (row, (j, within, at), is) = member_of_rows rows (get_or (map component_row rows) k d) inside in
      let some : 1 ≤ row.rank = subst (λ (r : MultiRow). 1 ≤ r.rank) at (h.positive j row within) in
      subst (λ (r : ComponentRow). 1 ≤ r.2) is some;
}

module _ (g : Marks) (grid : IsGrid g) (degrees : BTreeSet ℤ) (has : HasDegrees g (factorial (size g)) degrees)
    (rows : List MultiRow) (all : IsDone g [] rows) where
  rank_here : (m : ℤ) (ds : List ℤ) → IsComponentRank g m ds (component_rank_at rows (m, ds))
  rank_here m ds = all.done m ds (λ a inside e. no_member a inside)

  -- the rows are the table of the grid
  pub done-table : IsComponentTable g (map component_row rows)
  done-table = table_of_ranks g grid (map component_row rows) (rows_positive rows all.positive) (λ m ds.
      subst (IsComponentRank g m ds) (component_rank_at-ranks_of rows (m, ds) ∙ sym (ranks_of-rows rows (m, ds)))
      (rank_here m ds))

  own_rank : (k : ℕ) (d : MultiRow) → k < length rows
      → component_rank_at rows (degrees_of (get_or rows k d)) ≡ (get_or rows k d).rank
  own_rank k d l =
      component_rank_at-row rows (get_or rows k d) (degrees_of (get_or rows k d)) all.positive.ordered
      (Contains-get_or rows k d l)
      refl

  own_key : (k : ℕ) (d : MultiRow) → k < length rows → IsKey g (degrees_of (get_or rows k d))
  own_key k d l =
      let own = own_rank k d l in
      let some = all.positive.positive k d l in
      all.keys (degrees_of (get_or rows k d)) (omega arith)

  pub done-ranks : All HasSmallComponentRank rows
  done-ranks k d l = subst (λ n. n < 2 ^ 32) (own_rank k d l) (all.small (degrees_of (get_or rows k d)))

  pub done-lengths : All (HasLength (components g)) rows
  done-lengths k d l = (own_key k d l).count

  pub done-small : All IsSmallByComponent rows
  done-small k d l =
      let key = own_key k d l in
      let (s, below, is) = key.state in
      record { maslov = subst IsSmallDegree is (has.small_maslov s below); degrees = key.small }

  pub done-rows : IsMultiTable rows
  done-rows = record {
    ordered = all.positive.ordered;
    one_length = (components g, done-lengths);
    ranks = λ k d l.
        let some = all.positive.positive k d l in
        let few = done-ranks k d l in
        record { positive = some; bounded = omega arith };
  }
