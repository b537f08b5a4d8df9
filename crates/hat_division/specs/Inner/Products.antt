-- What is kept while the ranks of a product are put into a map.
--     ArePositive rows             the rows are in order, with ranks above 0
--     IsRankOfProduct k rows m a d     d is above 0, and the rank of the product of `rows` in the bidegree (m, a)
--     IsPartOfProduct k rows part  each rank that the map has is that of the product of `rows`
--     AreShiftsPut k rows row n old new    the new map has a rank at 0 to n - 1 steps down from the row, and wherever
--                                          the old map has one
--     AreRowsPut k rows n part     it has a rank at 0 to k steps down from each of the first n rows
use Rattle.std.specs.Prelude.{◌≡◌, ℕ, ◌<◌, ◌≤◌, ℤ, pos, ◌-ℤ◌, List, slice_index_or}
use Rattle.std.specs.List.{All}
use Rattle.std.specs.Option.{IfSome}
use Rattle.std.specs.BTreeMap as tree
use Rattle.gradings.specs.Degrees.{bidegree_cmp}
use Rattle.hat_division.specs.Table.{AreOrdered}
use Rattle.hat_division.specs.Product.{product_rank}
use Rattle.hat_division.specs.RankMaps.{Ranks, bidegree_key, rank_in}
use Rattle.hat_division.specs.declared.tables.TableRow.{TableRow}

pub record ArePositive (rows : List TableRow) : Type 0 where
  pub ordered : AreOrdered rows
  pub positive : All (λ row. 1 ≤ row.rank) rows

abbrev pub IsRankOfProduct : ℕ → List TableRow → ℤ → ℤ → ℕ → Type 0
IsRankOfProduct k rows m a d = (0 < d) × (d ≡ product_rank k rows m a)

abbrev pub IsPartOfProduct : ℕ → List TableRow → Ranks → Type 0
IsPartOfProduct k rows part =
    (m a : ℤ) → IfSome (tree.get bidegree_cmp part (bidegree_key (m, a))) (IsRankOfProduct k rows m a)

pub record AreShiftsPut (k : ℕ) (rows : List TableRow) (row : TableRow) (n : ℕ) (old new : Ranks) : Type 0 where
  pub part : IsPartOfProduct k rows new
  pub stays : (m a : ℤ) → 0 < rank_in old a m → 0 < rank_in new a m
  pub there : (i : ℕ) → i < n → 0 < rank_in new (row.a -ℤ pos i) (row.m -ℤ pos i)

pub record AreRowsPut (k : ℕ) (rows : List TableRow) (n : ℕ) (part : Ranks) : Type 0 where
  pub so_far : IsPartOfProduct k rows part
  pub there : (j : ℕ) (d : TableRow) (i : ℕ) → j < n → i ≤ k
      → 0 < rank_in part ((slice_index_or rows j d).a -ℤ pos i) ((slice_index_or rows j d).m -ℤ pos i)
