-- Rows in order, by neighbours; sums of bounded ranks.
use Rattle.std.proofs.Common.{◌≡◌, ℕ, zero, suc, ◌<◌, true, List, length, get_or, IsTrue, ap, ◌∙◌, inl, inr, arith}
use Rattle.std.proofs.lemmas.Bool.{cases_eq}
use Rattle.std.specs.List.{AllPairs}
use Rattle.f2_algebra.specs.Bigraded.{stands_before}
use Rattle.f2_algebra.proofs.Ranks.OrderLemmas.{stands_before-transitive}
use Rattle.hat_division.specs.Table.{bidegree_of}
use Rattle.hat_division.specs.declared.tables.TableRow.{TableRow}

-- each row below i stands before the one after it
abbrev pub AreOrderedBelow : List TableRow → ℕ → Type 0
AreOrderedBelow rows i =
    (k : ℕ) (d : TableRow) → suc k < i
    → stands_before (bidegree_of (get_or rows k d)) (bidegree_of (get_or rows (suc k) d)) ≡ true

-- rows in order by neighbours are in order
pub ordered_by_neighbours : (rows : List TableRow) → AreOrderedBelow rows (length rows)
    → AllPairs (λ p q. IsTrue (stands_before (bidegree_of p) (bidegree_of q))) rows
ordered_by_neighbours rows h i zero d l m = absurd (omega arith)
ordered_by_neighbours rows h i (suc j) d l m = elim (cases_eq i j) [
  | inl e ↦ ap (λ k. stands_before (bidegree_of (get_or rows k d)) (bidegree_of (get_or rows (suc j) d))) e ∙ h j d m
  | inr p ↦
      stands_before-transitive (bidegree_of (get_or rows i d)) (bidegree_of (get_or rows j d))
      (bidegree_of (get_or rows (suc j) d))
      (ordered_by_neighbours rows h i j d (omega arith) (omega arith)) (h j d m)
]

-- and the other way round
pub neighbours_in_order : (rows : List TableRow)
    → AllPairs (λ p q. IsTrue (stands_before (bidegree_of p) (bidegree_of q))) rows
    → AreOrderedBelow rows (length rows)
neighbours_in_order rows h k d l = h k (suc k) d (omega arith) l
