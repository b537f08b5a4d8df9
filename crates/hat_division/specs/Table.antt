-- Tables of ranks by bidegree.
--     bidegree_of row     its Maslov degree and its Alexander degree
--     homology_row row    a row as its Maslov degree, its Alexander degree and its rank
--     AreOrdered rows     each row stands before the later ones, by its bidegree, so that none comes twice
--     greatest_rank       2^48, the greatest rank of a table
--     HasRank row         the rank of the row is from 1 to 2^48
--     IsTable rows        the rows are in this order, no degree comes twice, and each has a rank
use Rattle.std.specs.Prelude.{ℕ, ◌≤◌, ◌^◌, ℤ, List, IsTrue}
use Rattle.std.specs.List.{All, AllPairs}
use Rattle.f2_algebra.specs.Bigraded.{stands_before}
use Rattle.hat_division.specs.declared.tables.TableRow.{TableRow}

abbrev pub bidegree_of : TableRow → ℤ × ℤ
bidegree_of row = (row.m, row.a)

abbrev pub homology_row : TableRow → ℤ × ℤ × ℕ
homology_row row = (row.m, row.a, row.rank)

abbrev pub AreOrdered : List TableRow → Type 0
AreOrdered rows = AllPairs (λ p q. IsTrue (stands_before (bidegree_of p) (bidegree_of q))) rows

abbrev pub greatest_rank : ℕ
greatest_rank = 2 ^ 48

pub record HasRank (row : TableRow) : Type 0 where
  pub positive : 1 ≤ row.rank
  pub bounded : row.rank ≤ greatest_rank

pub record IsTable (rows : List TableRow) : Type 0 where
  pub ordered : AreOrdered rows
  pub ranks : All HasRank rows
