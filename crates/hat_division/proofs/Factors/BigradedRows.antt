-- Rows of a table by bidegree while they are divided by a factor 1 + q^-1 t^-1.
use Rattle.std.proofs.Common.{◌≡◌, ℕ, ◌≤◌, ℤ, pos, ◌≤ℤ◌, neg_ℤ, true, List, get_or, All, Contains, sym, ap, subst, ◌∙◌, arith}
use Rattle.std.specs.Prelude.{◌-ℤ◌}
use Rattle.std.proofs.lemmas.Int.{ints}
use Rattle.std.proofs.lemmas.List.Elements.{Contains-get_or}
use Rattle.f2_algebra.specs.Bigraded.{stands_before}
use Rattle.hat_division.specs.Factors.{copies}
use Rattle.hat_division.specs.Product.{rank_at, IsSmall, IsQuotient}
use Rattle.hat_division.specs.Table.{IsTable, HasRank, bidegree_of}
use Rattle.hat_division.specs.Inner.Products.{ArePositive}
use Rattle.hat_division.specs.declared.tables.TableRow.{TableRow}
use Rattle.hat_division.proofs.Factors.BigradedTables.{bigraded_shape, bidegree_up, bidegree_up_IsStepUp, rank_at-ranks_of, quotient-is}
use Rattle.hat_division.proofs.Factors.FactorQuotients.{quotient-le, quotient_none}
use Rattle.hat_division.proofs.Factors.QuotientSteps.{IsCandidateFor, ranks_of-row}
use Rattle.hat_division.proofs.Factors.RowSteps.{row_among, quotient_found, no_quotient}
use Rattle.hat_division.proofs.Factors.TableShapes as shapes
use Rattle.hat_division.proofs.Factors.TableShapes.{ranks_of}

pub general : (rows : List TableRow) → ArePositive rows → shapes.ArePositive bigraded_shape rows
general rows h = record { ordered = h.ordered; positive = h.positive }

-- a step up stands before
pub bidegree_up-before : (k : ℤ × ℤ) → stands_before (bidegree_up k) k ≡ true
bidegree_up-before k = grind (arith, ints)

pub quotient_positive : (k : ℕ) (rows q : List TableRow) → IsQuotient k rows q → ArePositive q
quotient_positive k rows q h = record { ordered = h.ordered; positive = h.positive }

-- ---- at the end
module _ (rows : List TableRow) (positive : ArePositive rows) (c : List TableRow)
    (all : IsCandidateFor bigraded_shape bidegree_up rows rows c) where
  pub end_found : All (λ row. 1 ≤ rank_at rows (row.m -ℤ pos 1) (row.a -ℤ pos 1)) c → IsQuotient 1 rows c
  end_found lower =
      (quotient-is 1 rows c).1
      (quotient_found bigraded_shape bidegree_up bidegree_up_IsStepUp rows (general rows positive)
      bidegree_up-before c all
      (λ k d l. subst (λ n. 1 ≤ n)
      (rank_at-ranks_of rows ((get_or c k d).m -ℤ pos 1) ((get_or c k d).a -ℤ pos 1)) (lower k d l)))

  pub end_none : (All (λ row. 1 ≤ rank_at rows (row.m -ℤ pos 1) (row.a -ℤ pos 1)) c → ⊥) → (q : List TableRow)
      → IsQuotient 1 rows q → ⊥
  end_none not_lower q h =
      no_quotient bigraded_shape bidegree_up bidegree_up_IsStepUp rows (general rows positive) bidegree_up-before c all
      (λ lower. not_lower (λ k d l. subst (λ n. 1 ≤ n)
      (sym (rank_at-ranks_of rows ((get_or c k d).m -ℤ pos 1) ((get_or c k d).a -ℤ pos 1))) (lower k d l)))
      q ((quotient-is 1 rows q).0 h)

-- ---- degrees and ranks of quotients
module _ (rows c : List TableRow) (positive : shapes.ArePositive bigraded_shape c)
    (under : (k : ℤ × ℤ) → ranks_of bigraded_shape c k ≤ ranks_of bigraded_shape rows k)
    (ordered : ArePositive rows) where
  no_more : (k : ℤ × ℤ) → ranks_of bigraded_shape rows k ≡ 0 → ranks_of bigraded_shape c k ≡ 0
  no_more k none = let less = under k in omega arith

  -- each row of c has a row of the table in its bidegree, of no lower rank
  row_over : (r : TableRow) → Contains c r
      → (t : TableRow) × Contains rows t × (bidegree_of t ≡ bidegree_of r) × (r.rank ≤ t.rank)
  row_over r inside =
      let (t, there, same) = row_among bigraded_shape rows c positive no_more r inside in
      let less = under (bidegree_of r) in
      let own = ranks_of-row bigraded_shape c r positive.ordered inside in
      let over = ranks_of-row bigraded_shape rows t ordered.ordered there in
      let at = ap (ranks_of bigraded_shape rows) same in
      (t, there, same, omega arith)

  pub small_under : All IsSmall rows → All IsSmall c
  small_under small k d l =
      let r = get_or c k d in
      let (t, (j, lj, is), same, less) = row_over r (Contains-get_or c k d l) in
      let bound : IsSmall t = subst IsSmall is (small j t lj) in
      let m : t.m ≡ r.m = ap (λ (p : ℤ × ℤ). p.0) same in
      let a : t.a ≡ r.a = ap (λ (p : ℤ × ℤ). p.1) same in
      let most = bound.bounded in
      record {
        maslov_low = subst (λ z. neg_ℤ (pos 1000) ≤ℤ z) m bound.maslov_low;
        maslov_high = subst (λ z. z ≤ℤ pos 1000) m bound.maslov_high;
        alexander_low = subst (λ z. neg_ℤ (pos 1000) ≤ℤ z) a bound.alexander_low;
        alexander_high = subst (λ z. z ≤ℤ pos 1000) a bound.alexander_high;
        bounded = omega arith;
      }

  pub table_under : IsTable rows → IsTable c
  table_under table = record {
    ordered = positive.ordered;
    ranks = λ k d l.
        let r = get_or c k d in
        let (t, (j, lj, is), same, less) = row_over r (Contains-get_or c k d l) in
        let held : HasRank t = subst HasRank is (table.ranks j t lj) in
        let bound = held.bounded in
        record { positive = positive.positive k d l; bounded = omega arith };
  }

-- a quotient has no more
pub quotient_under : (k : ℕ) (rows q : List TableRow) → IsQuotient k rows q → (l : ℤ × ℤ)
    → ranks_of bigraded_shape q l ≤ ranks_of bigraded_shape rows l
quotient_under k rows q h l = quotient-le bigraded_shape (copies k bidegree_up) rows q ((quotient-is k rows q).0 h) l

-- a table is its quotient by no factor
pub quotient_start : (rows : List TableRow) → ArePositive rows → IsQuotient 0 rows rows
quotient_start rows h = (quotient-is 0 rows rows).1 (quotient_none bigraded_shape rows (general rows h))

-- degrees one step away
pub rank_near : (rows : List TableRow) (m n a b : ℤ) (r : ℕ) → r ≡ rank_at rows n b → n ≡ m → b ≡ a
    → r ≡ rank_at rows m a
rank_near rows m n a b r is at_m at_a = is ∙ (λ j. rank_at rows (at_m j) (at_a j))
