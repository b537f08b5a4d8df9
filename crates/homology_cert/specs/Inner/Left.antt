-- What is kept while the table of a grid is made: the cells that are left of one slice after another are counted in
-- rows.
--     cell_degrees g c             the Maslov degree of the state of the cell, and its degrees at all components
--     cell_count g k cells         how many of the cells have the degrees k
--     IsCell g c                   the cell is a state of the grid, with its Maslov degree
--     HasComponentRanks g a cells  the cells are states of Alexander degree a; at degrees that add up to twice a, the
--                                  number of cells with these degrees is the rank
--     IsKey g k                    the Maslov degree is that of a state; there are as many other degrees as components,
--                                  and they are small
--     AreCounted g cells old new   the ranks of the new rows are those of the old rows and the numbers of the cells
--     IsDone g left rows           the rows have the ranks, but at degrees that add up to twice a degree of the list,
--                                  where they have none
use Rattle.std.specs.Prelude.{◌≡◌, ℕ, ◌+◌, ◌^◌, ◌<◌, ◌&&◌, List, length, ℤ, pos, ◌*ℤ◌}
use Rattle.std.specs.List.{All, Contains, filter}
use Rattle.std.specs.Ordering.{int_eq}
use Rattle.gradings.specs.Degrees.{IsSmallDegree}
use Rattle.state_rank.specs.States.{factorial, unrank}
use Rattle.torus_geom.specs.Components.{components}
use Rattle.torus_geom.specs.Degrees.{maslov_o, alexander}
use Rattle.torus_geom.specs.Marks.{Marks, size}
use Rattle.sparse_complex.specs.declared.slices.Cell.{Cell}
use Rattle.hat_division.specs.DegreeLists.{same_degrees}
use Rattle.multi_degree.specs.ComponentDegrees.{total_degree}
use Rattle.homology_cert.specs.Inner.CodeComponents.{multidegree, IsComponentRank}
use Rattle.hat_division.specs.MultiTable.{component_rank_at, ArePositive}
use Rattle.hat_division.specs.declared.multi_tables.MultiRow.{MultiRow}

abbrev pub cell_degrees : Marks → Cell → ℤ × List ℤ
cell_degrees g c = multidegree g (unrank (size g) c.code)

abbrev pub cell_count : Marks → ℤ × List ℤ → List Cell → ℕ
cell_count g k cells =
    length (filter (λ c. int_eq (cell_degrees g c).0 k.0 && same_degrees (cell_degrees g c).1 k.1) cells)

pub record IsCell (g : Marks) (c : Cell) : Type 0 where
  pub state : c.code < factorial (size g)
  pub maslov : maslov_o g (unrank (size g) c.code) ≡ c.maslov

pub record HasComponentRanks (g : Marks) (a : ℤ) (cells : List Cell) : Type 0 where
  pub ranks : (m : ℤ) (ds : List ℤ) → total_degree ds ≡ pos 2 *ℤ a → IsComponentRank g m ds (cell_count g (m, ds) cells)
  pub states : All (IsCell g) cells
  pub alexander : All (λ c. alexander g (unrank (size g) c.code) ≡ a) cells
  pub few : length cells < 2 ^ 32

pub record IsKey (g : Marks) (k : ℤ × List ℤ) : Type 0 where
  pub state : (s : ℕ) × (s < factorial (size g)) × (maslov_o g (unrank (size g) s) ≡ k.0)
  pub small : All IsSmallDegree k.1
  pub count : length k.1 ≡ components g

pub record AreCounted (g : Marks) (cells : List Cell) (old new : List MultiRow) : Type 0 where
  pub positive : ArePositive new
  pub ranks : (k : ℤ × List ℤ) → component_rank_at new k ≡ component_rank_at old k + cell_count g k cells
  pub keys : (k : ℤ × List ℤ) → 0 < cell_count g k cells → IsKey g k

pub record IsDone (g : Marks) (left : List ℤ) (rows : List MultiRow) : Type 0 where
  pub positive : ArePositive rows
  pub done : (m : ℤ) (ds : List ℤ) → ((a : ℤ) → Contains left a → total_degree ds ≡ pos 2 *ℤ a → ⊥)
      → IsComponentRank g m ds (component_rank_at rows (m, ds))
  pub fresh : (m : ℤ) (ds : List ℤ) (a : ℤ) → Contains left a → total_degree ds ≡ pos 2 *ℤ a
      → component_rank_at rows (m, ds) ≡ 0
  pub small : (k : ℤ × List ℤ) → component_rank_at rows k < 2 ^ 32
  pub keys : (k : ℤ × List ℤ) → 0 < component_rank_at rows k → IsKey g k
