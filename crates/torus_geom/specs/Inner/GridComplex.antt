-- The fully blocked grid complex (Ozsváth, Stipsicz and Szabó, "Grid Homology for Knots and Links", chapter 4).
--     grid_complex g     all states of the grid, each by its index and with its bidegree, and from each state an arrow
--                        to those of its border
use Rattle.std.specs.Prelude.{ℤ, nat_lt, if◌then◌else◌}
use Rattle.std.specs.declared.option.Option.TheVariants.{None, Some}
use Rattle.f2_algebra.specs.Chain.{nothing}
use Rattle.f2_algebra.specs.Complex.{Complex}
use Rattle.f2_algebra.specs.Bigraded.{up_m}
use Rattle.state_rank.specs.States.{unrank, factorial}
use Rattle.torus_geom.specs.Marks.{Marks, size}
use Rattle.torus_geom.specs.Inner.CodeBorder.{border_of_state}
use Rattle.torus_geom.specs.Degrees.{bidegree}

-- the codes of the cells are the indices of the states
abbrev pub grid_complex : Marks → Complex (ℤ × ℤ)
grid_complex g = record {
  up = up_m;
  degree = λ code. if nat_lt code (factorial (size g)) then Some (bidegree g (unrank (size g) code)) else None;
  targets = λ code. if nat_lt code (factorial (size g)) then border_of_state g (unrank (size g) code) else nothing;
}
