-- The complex of the cochains of a grid over codes: the dual of its grid complex.
--     coborder g f         the indices of the states whose border pairs oddly with f
--     down_m d             the degree below d: m is one lower, a stays
--     cochain_complex g    all states of the grid, each by its index and with its bidegree, and from each state an
--                          arrow to those of its coborder; its arrows lead to the Maslov degree above
use Rattle.std.specs.Prelude.{ℤ, pos, ◌-ℤ◌, nat_lt, if◌then◌else◌}
use Rattle.f2_algebra.specs.Chain.{Chain, nothing, single, pairs_oddly}
use Rattle.f2_algebra.specs.Complex.{Complex}
use Rattle.state_rank.specs.States.{factorial}
use Rattle.torus_geom.specs.Inner.CodeBorder.{states_where, border_of_state}
use Rattle.torus_geom.specs.Inner.GridComplex.{grid_complex}
use Rattle.torus_geom.specs.Marks.{Marks, size}

unfoldable pub coborder : Marks → Chain → Chain
coborder g f = states_where (size g) (λ y. pairs_oddly (border_of_state g y) f)

abbrev pub down_m : ℤ × ℤ → ℤ × ℤ
down_m d = (d.0 -ℤ pos 1, d.1)

abbrev pub cochain_complex : Marks → Complex (ℤ × ℤ)
cochain_complex g = record {
  up = down_m;
  degree = λ code. (grid_complex g).degree code;
  targets = λ code. if nat_lt code (factorial (size g)) then coborder g (single code) else nothing;
}
