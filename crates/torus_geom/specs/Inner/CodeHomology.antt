-- The homology of the grid complex over codes.
--     IsHomologyRank g m a d     d is the rank of the grid complex in Maslov degree m and Alexander degree a
--     IsHomologyTable g rows     the rows are all (m, a, d) with such a rank d above 0, by a descending, then m
--                                descending
use Rattle.std.specs.Prelude.{◌↔◌, ℕ, ◌<◌, ℤ, List}
use Rattle.std.specs.List.{Contains, AllPairs}
use Rattle.f2_algebra.specs.Complex.{IsRank}
use Rattle.f2_algebra.specs.Bigraded.{StandsBefore}
use Rattle.torus_geom.specs.Homology.{Row}
use Rattle.torus_geom.specs.Inner.GridComplex.{grid_complex}
use Rattle.torus_geom.specs.Marks.{Marks}

abbrev pub IsHomologyRank : Marks → ℤ → ℤ → ℕ → Type 0
IsHomologyRank g m a d = IsRank (grid_complex g) (m, a) d

pub record IsHomologyTable (g : Marks) (rows : List Row) : Type 0 where
  pub ordered : AllPairs (λ (p q : Row). StandsBefore (p.0, p.1) (q.0, q.1)) rows
  pub complete : (m a : ℤ) (d : ℕ) → Contains rows (m, a, d) ↔ ((0 < d) × IsHomologyRank g m a d)
