-- The cohomology of the fully blocked grid complex over the field of two elements (Ozsváth, Stipsicz and Szabó, "Grid
-- Homology for Knots and Links", chapter 4), degree by degree. A cochain is a finite set of states, as a chain is.
--     coborder g f               the states whose border pairs oddly with f
--     IsCocycle g m a f          each state in f has Maslov degree m and Alexander degree a, and its coborder is empty
--     IsCoboundary g m a f       f is the coborder of a cochain one Maslov degree below
--     IsCorank g m a d           d is the dimension of cocycles modulo coboundaries in this degree
--     IsCorankTable g rows       the rows are all (m, a, d) with such a d above 0, by a descending, then m descending
use Rattle.std.specs.Prelude.{◌≡◌, ◌↔◌, ℕ, ◌<◌, ℤ, pos, ◌-ℤ◌, List}
use Rattle.std.specs.List.{Contains, AllPairs}
use Rattle.f2_algebra.specs.Bigraded.{StandsBefore}
use Rattle.f2_algebra.specs.Dimension.{IsDimension}
use Rattle.torus_geom.specs.Border.{border}
use Rattle.torus_geom.specs.Chains.{Chain, nothing, single, chain_sums, pairs_oddly}
use Rattle.torus_geom.specs.Homology.{AreOfDegree, Row}
use Rattle.torus_geom.specs.Marks.{Marks, size}

abbrev pub coborder : Marks → Chain → Chain
coborder g f = λ x. pairs_oddly (size g) (border g (single x)) f

abbrev pub IsCocycle : Marks → ℤ → ℤ → Chain → Type 0
IsCocycle g m a f = AreOfDegree g m a f × (coborder g f ≡ nothing)

abbrev pub IsCoboundary : Marks → ℤ → ℤ → Chain → Type 0
IsCoboundary g m a f = (h : Chain) × AreOfDegree g (m -ℤ pos 1) a h × (coborder g h ≡ f)

abbrev pub IsCorank : Marks → ℤ → ℤ → ℕ → Type 0
IsCorank g m a d = IsDimension chain_sums (IsCocycle g m a) (IsCoboundary g m a) d

pub record IsCorankTable (g : Marks) (rows : List Row) : Type 0 where
  pub ordered : AllPairs (λ (p q : Row). StandsBefore (p.0, p.1) (q.0, q.1)) rows
  pub complete : (m a : ℤ) (d : ℕ) → Contains rows (m, a, d) ↔ ((0 < d) × IsCorank g m a d)
