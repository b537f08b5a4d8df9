-- The border of a chain: the differential of the fully blocked grid complex over the field of two elements
-- (Ozsváth, Stipsicz and Szabó, "Grid Homology for Knots and Links", chapter 4).
--     is_step g x y r     the rectangle r leads from x to y, is empty for x and unmarked
--     border g z          the states y for which the number of pairs of a state x in z and such a rectangle from x to y
--                         is odd
--     IsBorderOf g b z    z is the border of the chain b of states
--     Bounds g z          z is the border of some chain of states
use Rattle.std.specs.Prelude.{◌≡◌, ℕ, Bool, ◌&&◌, List}
use Rattle.torus_geom.specs.Chains.{Chain, IsChain, reached}
use Rattle.torus_geom.specs.Marks.{Marks, size}
use Rattle.torus_geom.specs.Rectangle.{leads, is_empty, is_unmarked}
use Rattle.torus_geom.specs.declared.rects.Rect.{Rect}

abbrev pub is_step : Marks → List ℕ → List ℕ → Rect → Bool
is_step g x y r = leads r x y && (is_empty x r && is_unmarked g r)

abbrev pub border : Marks → Chain → Chain
border g z = reached (size g) (is_step g) z

pub record IsBorderOf (g : Marks) (b z : Chain) : Type 0 where
  pub states : IsChain (size g) b
  pub is_border : border g b ≡ z

abbrev pub Bounds : Marks → Chain → Type 0
Bounds g z = (b : Chain) × IsBorderOf g b z
