-- The homology by component over codes.
--     multidegree g x            the Maslov degree of the state, and its degrees at all components
--     up_multi d                 the degree above d: the Maslov degree is one higher
--     component_complex g        the grid complex, each state with this degree
--     IsComponentRank g m ds d   d is the rank of this complex in Maslov degree m and degrees ds
--     IsComponentTable g rows    the rows are all (m, ds, d) with such a rank d above 0, in the order of tables
use Rattle.std.specs.Prelude.{◌↔◌, ℕ, ◌<◌, IsTrue, ℤ, pos, ◌+ℤ◌, nat_lt, if◌then◌else◌, List}
use Rattle.std.specs.declared.option.Option.TheVariants.{None, Some}
use Rattle.std.specs.List.{Contains, AllPairs}
use Rattle.f2_algebra.specs.Complex.{Complex, IsRank}
use Rattle.state_rank.specs.States.{unrank, factorial}
use Rattle.torus_geom.specs.Degrees.{maslov_o}
use Rattle.torus_geom.specs.Inner.GridComplex.{grid_complex}
use Rattle.torus_geom.specs.Marks.{Marks, size}
use Rattle.hat_division.specs.DegreeLists.{stands_before_by_component}
use Rattle.multi_degree.specs.ComponentDegrees.{component_degrees}
use Rattle.homology_cert.specs.ComponentHomology.{ComponentRow}

abbrev pub multidegree : Marks → List ℕ → ℤ × List ℤ
multidegree g x = (maslov_o g x, component_degrees g x)

abbrev pub up_multi : ℤ × List ℤ → ℤ × List ℤ
up_multi d = (d.0 +ℤ pos 1, d.1)

-- the codes of the cells are the indices of the states
abbrev pub component_complex : Marks → Complex (ℤ × List ℤ)
component_complex g = record {
  up = up_multi;
  degree = λ code. if nat_lt code (factorial (size g)) then Some (multidegree g (unrank (size g) code)) else None;
  targets = (grid_complex g).targets;
}

abbrev pub IsComponentRank : Marks → ℤ → List ℤ → ℕ → Type 0
IsComponentRank g m ds d = IsRank (component_complex g) (m, ds) d

pub record IsComponentTable (g : Marks) (rows : List ComponentRow) : Type 0 where
  pub ordered : AllPairs (λ (p q : ComponentRow). IsTrue (stands_before_by_component (p.0, p.1) (q.0, q.1))) rows
  pub complete : (m : ℤ) (ds : List ℤ) (d : ℕ) → Contains rows (m, ds, d) ↔ ((0 < d) × IsComponentRank g m ds d)
