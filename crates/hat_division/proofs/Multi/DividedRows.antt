-- Rows of a table while they are divided, for what the program keeps.
use Rattle.std.proofs.Common.{◌≡◌, ℕ, zero, suc, ◌+◌, ◌-◌, ◌<◌, ◌≤◌, ℤ, true, false, ◌&&◌, List, [], ◌∷◌, length, get_or, slice_index, All, Contains, sym, ap, subst, ◌∙◌, arith}
use Rattle.std.specs.Prelude.{MatchOption}
use Rattle.std.proofs.Common.{Option, Some, None}
use Rattle.std.specs.Ordering.{int_eq}
use Rattle.std.proofs.lemmas.Bool.{false≢true}
use Rattle.std.proofs.lemmas.List.Elements.{Contains-get_or}
use Rattle.gradings.specs.Degrees.{IsSmallDegree}
use Rattle.hat_division.specs.DegreeLists.{same_degrees}
use Rattle.hat_division.specs.Factors.{copies}
use Rattle.hat_division.specs.MultiTable.{degrees_of, component_rank_at, AreInComponentOrder, step_up, step_down, steps_below, steps_up, HasComponentRank, HasLength, IsMultiTable, IsSmallByComponent, IsQuotientBy, ArePositive}
use Rattle.hat_division.specs.Inner.Rows.{HasPlace}
use Rattle.hat_division.specs.declared.multi_tables.MultiRow.{MultiRow}
use Rattle.hat_division.proofs.Multi.DegreeListLemmas.{same_multidegree-is}
use Rattle.hat_division.proofs.Factors.TableShapes as shapes
use Rattle.hat_division.proofs.Factors.TableShapes.{ranks_of, ranks_of-none, ranks_of-member, row_found}
use Rattle.hat_division.proofs.Factors.FactorQuotients.{IsQuotientOf, quotient-le, quotient_none, quotients_next, none_next}
use Rattle.hat_division.proofs.Factors.QuotientSteps.{IsCandidateFor, ranks_of-row}
use Rattle.hat_division.proofs.Factors.RowSteps.{row_among, all_among, quotient_found, no_quotient}
use Rattle.hat_division.proofs.Multi.MultiTableLemmas.{multi_shape, component_rank_at-ranks_of, step_up_IsStepUp, step_up-before, steps_below_AreStepsUp, quotient_by-is}

-- ---- rows in order
pub general : (rows : List MultiRow) → ArePositive rows → shapes.ArePositive multi_shape rows
general rows h = record { ordered = h.ordered; positive = h.positive }

pub component_rank_at-row : (rows : List MultiRow) (row : MultiRow) (k : ℤ × List ℤ) → AreInComponentOrder rows
    → Contains rows row
    → degrees_of row ≡ k → component_rank_at rows k ≡ row.rank
component_rank_at-row rows row k ordered inside e =
    component_rank_at-ranks_of rows k ∙ ap (ranks_of multi_shape rows) (sym e)
    ∙ ranks_of-row multi_shape rows row ordered inside

pub component_rank_at-stands : (rows : List MultiRow) (row : MultiRow) (m : ℤ) (ds : List ℤ) → AreInComponentOrder rows
    → Contains rows row → (int_eq row.m m && same_degrees row.d ds) ≡ true → row.rank ≡ component_rank_at rows (m, ds)
component_rank_at-stands rows row m ds ordered inside h =
    sym (component_rank_at-row rows row (m, ds) ordered inside ((same_multidegree-is (row.m, row.d) (m, ds)).0 h))

pub component_rank_at-nowhere : (rows : List MultiRow) (m : ℤ) (ds : List ℤ)
    → ((k : ℕ) (d : MultiRow) → k < length rows
    → (int_eq (get_or rows k d).m m && same_degrees (get_or rows k d).d ds) ≡ false)
    → 0 ≡ component_rank_at rows (m, ds)
component_rank_at-nowhere rows m ds none =
    sym (component_rank_at-ranks_of rows (m, ds) ∙ ranks_of-none multi_shape rows (m, ds) (λ row inside e.
    let (k, l, is) = inside in
    false≢true (sym (none k row l)
    ∙ (same_multidegree-is ((get_or rows k row).m, (get_or rows k row).d) (m, ds)).1
    (ap degrees_of is ∙ e))))

pub rank-moved : (rows : List MultiRow) (m n : ℤ) (ds es : List ℤ) (r : ℕ) → r ≡ component_rank_at rows (n, es) → n ≡ m
    → es ≡ ds → r ≡ component_rank_at rows (m, ds)
rank-moved rows m n ds es r is at_m at_ds = is ∙ (λ j. component_rank_at rows (at_m j, at_ds j))

-- ---- what holds of rows by their degrees
small_same : (t r : MultiRow) → degrees_of t ≡ degrees_of r → IsSmallByComponent t → IsSmallByComponent r
small_same t r e h = record {
  maslov = subst IsSmallDegree (ap (λ (p : ℤ × List ℤ). p.0) e) h.maslov;
  degrees = subst (All IsSmallDegree) (ap (λ (p : ℤ × List ℤ). p.1) e) h.degrees;
}

length_same : (t r : MultiRow) → degrees_of t ≡ degrees_of r → length t.d ≡ length r.d
length_same t r e = ap (λ (p : ℤ × List ℤ). length p.1) e

place_same : (i : ℕ) (t r : MultiRow) → degrees_of t ≡ degrees_of r → HasPlace i t → HasPlace i r
place_same i t r e h = let same = length_same t r e in let at : i < length t.d = h in omega arith

has_length_same : (n : ℕ) (t r : MultiRow) → degrees_of t ≡ degrees_of r → HasLength n t → HasLength n r
has_length_same n t r e h = sym (length_same t r e) ∙ h

-- ---- at the end
module _ (i : ℕ) (rows : List MultiRow) (positive : ArePositive rows) (c : List MultiRow)
    (all : IsCandidateFor multi_shape (step_up i) rows rows c) where
  pub end_small : All IsSmallByComponent rows → All IsSmallByComponent c
  end_small = all_among multi_shape rows c all.positive_so_far all.under IsSmallByComponent small_same

  pub end_place : All (HasPlace i) rows → All (HasPlace i) c
  end_place = all_among multi_shape rows c all.positive_so_far all.under (HasPlace i) (place_same i)

  pub end_found : All (λ row. 1 ≤ component_rank_at rows (step_down i (degrees_of row))) c
      → IsQuotientBy (step_up i ∷ []) rows c
  end_found lower =
      (quotient_by-is (step_up i ∷ []) rows c).1
      (quotient_found multi_shape (step_up i) (step_up_IsStepUp i) rows (general rows positive) (step_up-before i) c all
      (λ k d l. subst (λ n. 1 ≤ n) (component_rank_at-ranks_of rows (step_down i (degrees_of (get_or c k d))))
      (lower k d l)))

  pub end_none : (All (λ row. 1 ≤ component_rank_at rows (step_down i (degrees_of row))) c → ⊥) → (q : List MultiRow)
      → IsQuotientBy (step_up i ∷ []) rows q → ⊥
  end_none not_lower q h =
      no_quotient multi_shape (step_up i) (step_up_IsStepUp i) rows (general rows positive) (step_up-before i) c all
      (λ lower. not_lower (λ k d l.
      subst (λ n. 1 ≤ n) (sym (component_rank_at-ranks_of rows (step_down i (degrees_of (get_or c k d)))))
      (lower k d l)))
      q ((quotient_by-is (step_up i ∷ []) rows q).0 h)

-- ---- quotients
pub quotient_positive : (ups : List (ℤ × List ℤ → ℤ × List ℤ)) (rows q : List MultiRow) → IsQuotientBy ups rows q
    → ArePositive q
quotient_positive ups rows q h = record { ordered = h.ordered; positive = h.positive }

module _ (ups : List (ℤ × List ℤ → ℤ × List ℤ)) (rows q : List MultiRow) (h : IsQuotientBy ups rows q) where
  under_q : (k : ℤ × List ℤ) → ranks_of multi_shape rows k ≡ 0 → ranks_of multi_shape q k ≡ 0
  under_q k none = let less = quotient-le multi_shape ups rows q ((quotient_by-is ups rows q).0 h) k in omega arith

  pub quotient_small : All IsSmallByComponent rows → All IsSmallByComponent q
  quotient_small =
      all_among multi_shape rows q (general q (quotient_positive ups rows q h)) under_q IsSmallByComponent small_same

  pub quotient_place : (i : ℕ) → All (HasPlace i) rows → All (HasPlace i) q
  quotient_place i =
      all_among multi_shape rows q (general q (quotient_positive ups rows q h)) under_q (HasPlace i) (place_same i)

  pub quotient_length : (n : ℕ) → All (HasLength n) rows → All (HasLength n) q
  quotient_length n =
      all_among multi_shape rows q (general q (quotient_positive ups rows q h)) under_q (HasLength n)
      (has_length_same n)

  -- a quotient of a table is a table
  pub quotient_table : IsMultiTable rows → IsMultiTable q
  quotient_table table = record {
    ordered = h.ordered;
    one_length = (table.one_length.0, quotient_length table.one_length.0 table.one_length.1);
    ranks = λ k d l.
        let r = get_or q k d in
        let inside = Contains-get_or q k d l in
        let t = row_among multi_shape rows q (general q (quotient_positive ups rows q h)) under_q r inside in
        let (j, lj, is) = t.1 in
        let held : HasComponentRank t.0 = subst HasComponentRank is (table.ranks j t.0 lj) in
        let bound = held.bounded in
        let less = quotient-le multi_shape ups rows q ((quotient_by-is ups rows q).0 h) (degrees_of r) in
        let own = ranks_of-row multi_shape q r h.ordered inside in
        let there = ranks_of-row multi_shape rows t.0 table.ordered t.1 in
        let same = ap (ranks_of multi_shape rows) t.2 in
        record { positive = h.positive k d l; bounded = omega arith };
  }

-- ---- one factor after another
pub quotient_start : (rows : List MultiRow) → ArePositive rows → IsQuotientBy [] rows rows
quotient_start rows h = (quotient_by-is [] rows rows).1 (quotient_none multi_shape rows (general rows h))

-- ---- one component after another
module _ (es : List ℕ) (rows : List MultiRow) (positive : ArePositive rows) where
  pub component_next : (i e : ℕ) (p q : List MultiRow) → e ≡ slice_index es i → IsQuotientBy (steps_below es i) rows p
      → IsQuotientBy (copies e (step_up i)) p q → IsQuotientBy (steps_below es (i + 1)) rows q
  component_next i e p q is hp hq =
      let one : suc i ≡ i + 1 = omega arith in
      let same : copies e (step_up i) ≡ copies (slice_index es i) (step_up i) = ap (λ n. copies n (step_up i)) is in
      subst (λ n. IsQuotientBy (steps_below es n) rows q) one
      ((quotient_by-is (steps_below es (suc i)) rows q).1
      ((quotients_next multi_shape (steps_below es i) (steps_below_AreStepsUp es i) rows (general rows positive)
      (copies (slice_index es i) (step_up i)) p q ((quotient_by-is (steps_below es i) rows p).0 hp)).0
      (subst (λ ups. IsQuotientOf multi_shape ups p q) same ((quotient_by-is (copies e (step_up i)) p q).0 hq))))

  none_below : (i k : ℕ) → ((q : List MultiRow) → IsQuotientOf multi_shape (steps_below es i) rows q → ⊥)
      → (q : List MultiRow) → IsQuotientOf multi_shape (steps_below es (k + i)) rows q → ⊥
  none_below i zero none q h =
      none q (subst (λ n. IsQuotientOf multi_shape (steps_below es n) rows q) (let e : 0 + i ≡ i = omega arith in e) h)
  none_below i (suc k) none q h =
      none_next multi_shape (steps_below es (k + i)) (steps_below_AreStepsUp es (k + i)) rows (general rows positive)
      (copies (slice_index es (k + i)) (step_up (k + i))) (none_below i k none) q
      (subst (λ n. IsQuotientOf multi_shape (steps_below es n) rows q)
      (let e : suc k + i ≡ suc (k + i) = omega arith in e) h)

  pub component_none : (i e : ℕ) (p : List MultiRow) → i < length es → e ≡ slice_index es i
      → IsQuotientBy (steps_below es i) rows p
      → ((q : List MultiRow) → IsQuotientBy (copies e (step_up i)) p q → ⊥) → (q : List MultiRow)
      → IsQuotientBy (steps_up es) rows q → ⊥
  component_none i e p l is hp none q h =
      let same : copies e (step_up i) ≡ copies (slice_index es i) (step_up i) = ap (λ n. copies n (step_up i)) is in
      let all : length es ≡ (length es - suc i) + suc i = omega arith in
      none_below (suc i) (length es - suc i)
      (λ r hr. none r ((quotient_by-is (copies e (step_up i)) p r).1
      (subst (λ ups. IsQuotientOf multi_shape ups p r) (sym same)
      ((quotients_next multi_shape (steps_below es i) (steps_below_AreStepsUp es i) rows (general rows positive)
      (copies (slice_index es i) (step_up i)) p r ((quotient_by-is (steps_below es i) rows p).0 hp)).1 hr))))
      q (subst (λ n. IsQuotientOf multi_shape (steps_below es n) rows q) all
      ((quotient_by-is (steps_up es) rows q).0 h))

-- a table's rows are in order, with ranks above 0
pub table_positive : (rows : List MultiRow) → IsMultiTable rows → ArePositive rows
table_positive rows h = record { ordered = h.ordered; positive = λ k d l. (h.ranks k d l).positive }

pub length_place : (n i : ℕ) (rows : List MultiRow) → i < n → All (HasLength n) rows → All (HasPlace i) rows
length_place n i rows l h k d lk = let long : length (get_or rows k d).d ≡ n = h k d lk in omega arith

-- ---- an answer that may be none
pub answer_none : {X : Type 0} (N : Type 0) (P : X → Type 0) (o : Option X) → o ≡ None → MatchOption o N P → N
answer_none {X = X} N P o e h = let Q = λ (p : Option X). MatchOption p N P in subst Q e h

pub answer_some : {X : Type 0} (N : Type 0) (P : X → Type 0) (o : Option X) (x : X) → o ≡ Some x → MatchOption o N P
    → P x
answer_some {X = X} N P o x e h = let Q = λ (p : Option X). MatchOption p N P in subst Q e h
