-- Tables as polynomials: a row (m, a, d) is the term d q^m t^a. A table is multiplied by a power of
-- 1 + q^-1 t^-1, and divided by it.
--     stands_at row m a            the row stands in the bidegree (m, a)
--     part_at row m a              the part of a row in the bidegree (m, a): its rank, or 0 if it stands elsewhere
--     rank_at rows m a             the rank in the bidegree (m, a): that of the row there, or 0 if there is none. In
--                                  a table at most one row is there; of a list with more, it is the sum
--     binomial n i                 the number of ways to choose i things of n
--     sum_first n f                f 0 + f 1 + .. + f (n - 1)
--     product_rank k rows m a      the rank in the bidegree (m, a) of the product of the table and (1 + q^-1 t^-1)^k:
--                                  the sum over i from 0 to k of binomial k i times the rank in (m + i, a + i)
--     IsProduct k rows product     this product is the table `product`, in each bidegree
--     IsQuotient k rows quotient   `quotient` has the order of tables and ranks above 0, and its product with
--                                  (1 + q^-1 t^-1)^k is the table `rows`
--     IsSmall row                  both degrees are from -1,000 to 1,000, and the rank is at most 2^32
use Rattle.std.specs.Prelude.{◌≡◌, ℕ, zero, suc, ◌+◌, ◌*◌, ◌^◌, ◌≤◌, ℤ, pos, neg_ℤ, ◌+ℤ◌, ◌≤ℤ◌, Bool, ◌&&◌, if◌then◌else◌, List}
use Rattle.std.specs.List.{All, sum_by}
use Rattle.std.specs.Ordering.{int_eq}
use Rattle.hat_division.specs.Table.{AreOrdered}
use Rattle.hat_division.specs.declared.tables.TableRow.{TableRow}

abbrev pub stands_at : TableRow → ℤ → ℤ → Bool
stands_at row m a = int_eq row.m m && int_eq row.a a

abbrev pub part_at : TableRow → ℤ → ℤ → ℕ
part_at row m a = if stands_at row m a then row.rank else 0

unfoldable pub rank_at : List TableRow → ℤ → ℤ → ℕ
rank_at rows m a = sum_by (λ row. part_at row m a) rows

unfoldable pub binomial : ℕ → ℕ → ℕ
binomial n zero = 1
binomial zero (suc i) = 0
binomial (suc n) (suc i) = binomial n i + binomial n (suc i)

unfoldable pub sum_first : ℕ → (ℕ → ℕ) → ℕ
sum_first zero f = 0
sum_first (suc n) f = sum_first n f + f n

unfoldable pub product_rank : ℕ → List TableRow → ℤ → ℤ → ℕ
product_rank k rows m a = sum_first (suc k) (λ i. binomial k i * rank_at rows (m +ℤ pos i) (a +ℤ pos i))

abbrev pub IsProduct : ℕ → List TableRow → List TableRow → Type 0
IsProduct k rows product = (m a : ℤ) → rank_at product m a ≡ product_rank k rows m a

pub record IsQuotient (k : ℕ) (rows quotient : List TableRow) : Type 0 where
  pub ordered : AreOrdered quotient
  pub positive : All (λ row. 1 ≤ row.rank) quotient
  pub product : IsProduct k quotient rows

pub record IsSmall (row : TableRow) : Type 0 where
  pub maslov_low : neg_ℤ (pos 1000) ≤ℤ row.m
  pub maslov_high : row.m ≤ℤ pos 1000
  pub alexander_low : neg_ℤ (pos 1000) ≤ℤ row.a
  pub alexander_high : row.a ≤ℤ pos 1000
  pub bounded : row.rank ≤ 2 ^ 32
