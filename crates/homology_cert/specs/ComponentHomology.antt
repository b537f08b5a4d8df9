-- The homology of the fully blocked grid complex by the Maslov degree and one degree for each component of the link
-- (Ozsváth, Stipsicz and Szabó, "Grid Homology for Knots and Links", chapter 11). It is that by Alexander degree, with
-- a finer grading.
--     ComponentRow               a Maslov degree, the degrees at all components, and a rank
--     HasDegrees g m ds x        x is a state of g with Maslov degree m and the degrees ds at the components
--     HaveDegrees g m ds z       each state in z is of these degrees
--     IsCycle g m ds z           z is of these degrees, and its border is empty
--     IsBoundary g m ds z        z is the border of a chain one Maslov degree above, with the same degrees at the
--                                components
--     IsComponentRank g m ds d   d is the dimension of cycles modulo boundaries in these degrees
--     IsComponentTable g rows    the rows are all (m, ds, d) with such a rank d above 0, in the order of tables
--     added_rank rows m a        the sum of the ranks of the rows with Maslov degree m and degrees that add up to twice
--                                a
use Rattle.std.specs.Prelude.{◌≡◌, ◌↔◌, ℕ, ◌<◌, ◌&&◌, IsTrue, true, ℤ, pos, ◌+ℤ◌, ◌*ℤ◌, if◌then◌else◌, List}
use Rattle.std.specs.List.{Contains, AllPairs, sum_by}
use Rattle.std.specs.Ordering.{int_eq}
use Rattle.f2_algebra.specs.Dimension.{IsDimension}
use Rattle.state_rank.specs.Bijection.{IsBijection}
use Rattle.torus_geom.specs.Border.{border}
use Rattle.torus_geom.specs.Chains.{Chain, nothing, chain_sums}
use Rattle.torus_geom.specs.Degrees.{maslov_o}
use Rattle.torus_geom.specs.Marks.{Marks, size}
use Rattle.hat_division.specs.DegreeLists.{stands_before_by_component}
use Rattle.multi_degree.specs.ComponentDegrees.{component_degrees, total_degree}

abbrev pub ComponentRow : Type 0
ComponentRow = ℤ × List ℤ × ℕ

pub record HasDegrees (g : Marks) (m : ℤ) (ds : List ℤ) (x : List ℕ) : Type 0 where
  pub state : IsBijection (size g) x
  pub maslov : maslov_o g x ≡ m
  pub components : component_degrees g x ≡ ds

abbrev pub HaveDegrees : Marks → ℤ → List ℤ → Chain → Type 0
HaveDegrees g m ds z = (x : List ℕ) → z x ≡ true → HasDegrees g m ds x

abbrev pub IsCycle : Marks → ℤ → List ℤ → Chain → Type 0
IsCycle g m ds z = HaveDegrees g m ds z × (border g z ≡ nothing)

abbrev pub IsBoundary : Marks → ℤ → List ℤ → Chain → Type 0
IsBoundary g m ds z = (w : Chain) × HaveDegrees g (m +ℤ pos 1) ds w × (border g w ≡ z)

abbrev pub IsComponentRank : Marks → ℤ → List ℤ → ℕ → Type 0
IsComponentRank g m ds d = IsDimension chain_sums (IsCycle g m ds) (IsBoundary g m ds) d

pub record IsComponentTable (g : Marks) (rows : List ComponentRow) : Type 0 where
  pub ordered : AllPairs (λ (p q : ComponentRow). IsTrue (stands_before_by_component (p.0, p.1) (q.0, q.1))) rows
  pub complete : (m : ℤ) (ds : List ℤ) (d : ℕ) → Contains rows (m, ds, d) ↔ ((0 < d) × IsComponentRank g m ds d)

abbrev pub added_rank : List ComponentRow → ℤ → ℤ → ℕ
added_rank rows m a = sum_by (λ r. if int_eq r.0 m && int_eq (total_degree r.1) (pos 2 *ℤ a) then r.2 else 0) rows
