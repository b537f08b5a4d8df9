-- The homology of the fully blocked grid complex over the field of two elements (Ozsváth, Stipsicz and Szabó, "Grid
-- Homology for Knots and Links", chapter 4), degree by degree.
--     Row                        a Maslov degree, an Alexander degree and a rank
--     HasDegree g m a x          x is a state of g with Maslov degree m and Alexander degree a
--     AreOfDegree g m a z        so is each state in z
--     IsCycle g m a z            z is of this degree, and its border is empty
--     IsBoundary g m a z         z is the border of a chain one Maslov degree above
--     IsHomologyRank g m a d     d is the dimension of cycles modulo boundaries in this degree
--     IsHomologyTable g rows     the rows are all (m, a, d) with such a rank d above 0, by a descending, then m
--                                descending
use Rattle.std.specs.Prelude.{◌≡◌, ◌↔◌, ℕ, ◌<◌, ℤ, pos, ◌+ℤ◌, true, List}
use Rattle.std.specs.List.{Contains, AllPairs}
use Rattle.state_rank.specs.Bijection.{IsBijection}
use Rattle.torus_geom.specs.Marks.{Marks, size}
use Rattle.torus_geom.specs.Degrees.{maslov_o, alexander}
use Rattle.f2_algebra.specs.Bigraded.{StandsBefore}
use Rattle.f2_algebra.specs.Dimension.{IsDimension}
use Rattle.torus_geom.specs.Chains.{Chain, nothing, chain_sums}
use Rattle.torus_geom.specs.Border.{border}

pub record HasDegree (g : Marks) (m a : ℤ) (x : List ℕ) : Type 0 where
  pub state : IsBijection (size g) x
  pub maslov : maslov_o g x ≡ m
  pub alexander : alexander g x ≡ a

abbrev pub AreOfDegree : Marks → ℤ → ℤ → Chain → Type 0
AreOfDegree g m a z = (x : List ℕ) → z x ≡ true → HasDegree g m a x

abbrev pub IsCycle : Marks → ℤ → ℤ → Chain → Type 0
IsCycle g m a z = AreOfDegree g m a z × (border g z ≡ nothing)

abbrev pub IsBoundary : Marks → ℤ → ℤ → Chain → Type 0
IsBoundary g m a z = (w : Chain) × AreOfDegree g (m +ℤ pos 1) a w × (border g w ≡ z)

abbrev pub IsHomologyRank : Marks → ℤ → ℤ → ℕ → Type 0
IsHomologyRank g m a d = IsDimension chain_sums (IsCycle g m a) (IsBoundary g m a) d

abbrev pub Row : Type 0
Row = ℤ × ℤ × ℕ

pub record IsHomologyTable (g : Marks) (rows : List Row) : Type 0 where
  pub ordered : AllPairs (λ (p q : Row). StandsBefore (p.0, p.1) (q.0, q.1)) rows
  pub complete : (m a : ℤ) (d : ℕ) → Contains rows (m, a, d) ↔ ((0 < d) × IsHomologyRank g m a d)
