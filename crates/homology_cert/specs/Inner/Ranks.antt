-- What is kept while the table of a grid is made: the Alexander degrees of its states, and a map from bidegrees to
-- ranks.
--     AreSmall g                    each state of the grid has degrees that are not great
--     HasHomology g row             the row is one of the table of the grid
--     HasDegrees g n degrees        each state with an index below n has degrees that are not great, and its
--                                   Alexander degree is in the set
--     degree_count m cells          how many of the cells have the Maslov degree m
--     HasRanks g a cells            at a, the number of cells of each Maslov degree is the rank in that degree
--     AreCounted a cells old new    the map has the numbers of the cells at a, and at other degrees what it had
--     IsTold g ranks a              the map has the ranks at a
--     IsDone g left ranks           it has the ranks but at the degrees of the list, where it has nothing
--     AreRows g rows                the rows are those of the table of the grid, in order
use Rattle.std.specs.Prelude.{◌≡◌, ◌↔◌, ℕ, ◌^◌, ◌<◌, true, List, length, IsTrue, ℤ}
use Rattle.std.specs.List.{All, AllPairs, Contains, filter}
use Rattle.std.specs.Option.{IfSome}
use Rattle.std.specs.Ordering.{int_cmp, int_eq}
use Rattle.std.specs.declared.option.Option.TheVariants.{None}
use Rattle.std.specs.BTreeMap as tree
use Rattle.std.specs.BTreeSet as sorted
use Rattle.std.specs.BTreeSet.{BTreeSet}
use Rattle.f2_algebra.specs.Bigraded.{stands_before}
use Rattle.state_rank.specs.States.{factorial, unrank}
use Rattle.torus_geom.specs.Marks.{Marks, size}
use Rattle.torus_geom.specs.Degrees.{maslov_o, alexander}
use Rattle.torus_geom.specs.Inner.CodeHomology.{IsHomologyRank}
use Rattle.sparse_complex.specs.declared.slices.Cell.{Cell}
use Rattle.hat_division.specs.RankMaps.{bidegree_key, Ranks, rank_in}
use Rattle.hat_division.specs.Table.{bidegree_of}
use Rattle.hat_division.specs.declared.tables.TableRow.{TableRow}
use Rattle.gradings.specs.Degrees.{IsSmallDegree, bidegree_cmp}
use Rattle.homology_cert.specs.Tables.{HasSmallRank}

pub record AreSmall (g : Marks) : Type 0 where
  pub maslov : (s : ℕ) → s < factorial (size g) → IsSmallDegree (maslov_o g (unrank (size g) s))
  pub alexander : (s : ℕ) → s < factorial (size g) → IsSmallDegree (alexander g (unrank (size g) s))

pub record HasHomology (g : Marks) (row : TableRow) : Type 0 where
  pub positive : 0 < row.rank
  pub rank : IsHomologyRank g row.m row.a row.rank

pub record HasDegrees (g : Marks) (n : ℕ) (degrees : BTreeSet ℤ) : Type 0 where
  pub small_maslov : (s : ℕ) → s < n → IsSmallDegree (maslov_o g (unrank (size g) s))
  pub small_alexander : (s : ℕ) → s < n → IsSmallDegree (alexander g (unrank (size g) s))
  pub found : (s : ℕ) → s < n → sorted.contains int_cmp degrees (alexander g (unrank (size g) s)) ≡ true

abbrev pub degree_count : ℤ → List Cell → ℕ
degree_count m cells = length (filter (λ c. int_eq c.maslov m) cells)

pub record HasRanks (g : Marks) (a : ℤ) (cells : List Cell) : Type 0 where
  pub ranks : (m : ℤ) → IsHomologyRank g m a (degree_count m cells)
  pub few : length cells < 2 ^ 32

pub record AreCounted (a : ℤ) (cells : List Cell) (old new : Ranks) : Type 0 where
  pub counts : (m : ℤ) → rank_in new a m ≡ degree_count m cells
  pub others : (b m : ℤ) → (b ≡ a → ⊥)
      → tree.get bidegree_cmp new (bidegree_key (m, b)) ≡ tree.get bidegree_cmp old (bidegree_key (m, b))
  pub positive : (b m : ℤ) → IfSome (tree.get bidegree_cmp new (bidegree_key (m, b))) (λ d. 0 < d)

pub record IsTold (g : Marks) (ranks : Ranks) (a : ℤ) : Type 0 where
  pub told : (m : ℤ) → IsHomologyRank g m a (rank_in ranks a m)
  pub small : (m : ℤ) → rank_in ranks a m < 2 ^ 32

pub record IsDone (g : Marks) (left : List ℤ) (ranks : Ranks) : Type 0 where
  pub done : (a : ℤ) → (Contains left a → ⊥) → IsTold g ranks a
  pub fresh : (a m : ℤ) → Contains left a → tree.get bidegree_cmp ranks (bidegree_key (m, a)) ≡ None
  pub positive : (a m : ℤ) → IfSome (tree.get bidegree_cmp ranks (bidegree_key (m, a))) (λ d. 0 < d)

pub record AreRows (g : Marks) (rows : List TableRow) : Type 0 where
  pub ordered : AllPairs (λ p q. IsTrue (stands_before (bidegree_of p) (bidegree_of q))) rows
  pub complete : (row : TableRow) → Contains rows row ↔ HasHomology g row
  pub ranks : All HasSmallRank rows
