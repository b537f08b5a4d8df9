-- Tables of ranks by a Maslov degree and a degree for each component, as polynomials: the row (m, ds, r) is the term
-- r q^m t_1^(d_1) .. t_l^(d_l). A table is multiplied by powers of 1 + q^-1 t_i^-1, one for each component, where the
-- term q^-1 t_i^-1 lowers m by one and d_i by two.
--     degrees_of row              the Maslov degree of the row, and its degrees
--     component_rank_at rows k    the rank in these degrees: that of the row there, or 0 if there is none
--     AreInComponentOrder rows    degrees descending in the order of lists, then Maslov degrees descending; none twice
--     step_up i k                 the Maslov degree one higher, and the degree of component i, from 0 on, two higher
--     step_down i k               the Maslov degree one lower, and the degree of component i two lower
--     steps_below es n            a step for each factor of the first n components: as many steps of each component
--                                 as its exponent says
--     steps_up es                 the same of all components
--     IsQuotientBy ups rows quotient     `quotient` has the order of tables and ranks above 0, and its product with the
--                                 factors 1 + s, one for each of these steps, is the table `rows`, in all degrees
--     IsMultiQuotient es rows quotient   the same with the powers of 1 + q^-1 t_i^-1
--     IsSmallByComponent row      all degrees are from -1,000 to 1,000
--     ArePositive rows            the rows are in order, with ranks above 0
--     IsCounted k old new         the new rows are in order, with ranks above 0; their rank in the degrees k is one
--                                 more than that of the old rows, and all others are the same
--     HasComponentRank row        the rank of the row is from 1 to 2^48
--     HasLength l row             the row has l degrees
--     IsMultiTable rows           the rows are in order, of one number of degrees, with ranks from 1 to 2^48
use Rattle.std.specs.Prelude.{◌≡◌, ℕ, zero, suc, ◌+◌, ◌≤◌, ℤ, pos, ◌+ℤ◌, ◌-ℤ◌, ◌&&◌, if◌then◌else◌, IsTrue, List, [], ◌++◌, length, slice_index}
use Rattle.std.specs.List.{All, AllPairs, sum_by}
use Rattle.std.specs.Ordering.{int_eq}
use Rattle.gradings.specs.Degrees.{IsSmallDegree}
use Rattle.hat_division.specs.Table.{greatest_rank}
use Rattle.hat_division.specs.DegreeLists.{same_degrees, stands_before_by_component, raised_at, lowered_at}
use Rattle.hat_division.specs.Factors.{times_all, copies}
use Rattle.hat_division.specs.declared.multi_tables.MultiRow.{MultiRow}

abbrev pub degrees_of : MultiRow → ℤ × List ℤ
degrees_of row = (row.m, row.d)

abbrev pub component_rank_at : List MultiRow → ℤ × List ℤ → ℕ
component_rank_at rows k = sum_by (λ row. if int_eq row.m k.0 && same_degrees row.d k.1 then row.rank else 0) rows

abbrev pub AreInComponentOrder : List MultiRow → Type 0
AreInComponentOrder rows = AllPairs (λ p q. IsTrue (stands_before_by_component (degrees_of p) (degrees_of q))) rows

abbrev pub step_up : ℕ → ℤ × List ℤ → ℤ × List ℤ
step_up i k = (k.0 +ℤ pos 1, raised_at i k.1)

abbrev pub step_down : ℕ → ℤ × List ℤ → ℤ × List ℤ
step_down i k = (k.0 -ℤ pos 1, lowered_at i k.1)

abbrev pub steps_below : List ℕ → ℕ → List (ℤ × List ℤ → ℤ × List ℤ)
steps_below es zero = []
steps_below es (suc i) = copies (slice_index es i) (step_up i) ++ steps_below es i

abbrev pub steps_up : List ℕ → List (ℤ × List ℤ → ℤ × List ℤ)
steps_up es = steps_below es (length es)

pub record IsQuotientBy (ups : List (ℤ × List ℤ → ℤ × List ℤ)) (rows quotient : List MultiRow) : Type 0 where
  pub ordered : AreInComponentOrder quotient
  pub positive : All (λ row. 1 ≤ row.rank) quotient
  pub product : (k : ℤ × List ℤ) → component_rank_at rows k ≡ times_all ups (component_rank_at quotient) k

abbrev pub IsMultiQuotient : List ℕ → List MultiRow → List MultiRow → Type 0
IsMultiQuotient es rows quotient = IsQuotientBy (steps_up es) rows quotient

pub record ArePositive (rows : List MultiRow) : Type 0 where
  pub ordered : AreInComponentOrder rows
  pub positive : All (λ row. 1 ≤ row.rank) rows

pub record IsCounted (k : ℤ × List ℤ) (old new : List MultiRow) : Type 0 where
  pub positive : ArePositive new
  pub ranks : (l : ℤ × List ℤ)
      → component_rank_at new l ≡ component_rank_at old l + (if int_eq k.0 l.0 && same_degrees k.1 l.1 then 1 else 0)

pub record HasComponentRank (row : MultiRow) : Type 0 where
  pub positive : 1 ≤ row.rank
  pub bounded : row.rank ≤ greatest_rank

abbrev pub HasLength : ℕ → MultiRow → Type 0
HasLength l row = length row.d ≡ l

pub record IsMultiTable (rows : List MultiRow) : Type 0 where
  pub ordered : AreInComponentOrder rows
  pub one_length : (l : ℕ) × All (HasLength l) rows
  pub ranks : All HasComponentRank rows

pub record IsSmallByComponent (row : MultiRow) : Type 0 where
  pub maslov : IsSmallDegree row.m
  pub degrees : All IsSmallDegree row.d
