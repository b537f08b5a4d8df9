-- Hexagons, and the homotopy between the identity and the image there and back across a commutation (after Ozsváth,
-- Stipsicz and Szabó, "Grid Homology for Knots and Links", chapter 5; the coordinates are this project's own, those of
-- its pentagons).
--
-- Columns c - 1 and c of the grid commute, mod n. The marks stay, and circle c is moved past them: the new circle runs
-- left of the marks of column c - 1, in the rows of L, and right of those of column c, in the rows of R. The two
-- circles cross in row w, as for pentagons; on the way back, in the exchanged grid, they cross in row v.
--
--        column c - 1 | column c
--                     |-------------------o    high row
--                     |                   |
--                     x                   |    row v
--                     | .                 |
--                     |  X  .             |    a row of R     |   the old circle c
--                     |  O  .             |    a row of R     .   the new circle
--                     | .                 |                   x   a crossing of the two
--                     x                   |    row w          o   a point of the state x
--                     |                   |
--                     o-------------------|    low row
--
-- A corner set (left, right; low, high) is that of a rectangle. A hexagon has both crossings as corners: it follows the
-- old circle, between the two crossings the new one, and then the old one again. With left on circle c, as here, it
-- lies right of both circles, and meets row w before row v on the way up from its low row. With right on circle c it
-- lies left of both, and meets row v first, and then the rows of L and row w.
--
--     crossing_row_back g c corner        v: the crossing row of the exchanged grid, for the same corner
--     is_hexagonal g c w v r              r has the crossings in rows w and v among its corners, and is unmarked
--     is_hexagon g c w v x y r            r is a hexagon from the state x to the state y, of these crossings
--     column_homotopy g c corner z        the states y for which the number of pairs of a state x in z and a hexagon
--                                         from x to y is odd
--     homotopy axis g c corner z          the same for columns; for rows the grid and z are transposed, and the
--                                         homotopy of that across columns is transposed back
--     return_image axis g c corner z      the image of z, and the image of that in the exchanged grid: back to the grid
use Rattle.std.specs.Prelude.{ℕ, Bool, ◌&&◌, ◌||◌, ◌==◌, List}
use Rattle.torus_geom.specs.Chains.{Chain, reached}
use Rattle.torus_geom.specs.Marks.{Marks, size}
use Rattle.torus_geom.specs.Range.{in_range}
use Rattle.torus_geom.specs.Rectangle.{leads, is_empty}
use Rattle.torus_geom.specs.Transposed.{transposed}
use Rattle.torus_geom.specs.declared.rects.Rect.{Rect}
use Rattle.grid_moves.specs.Carried.{transposed_chain}
use Rattle.grid_moves.specs.Moves.{swapped, swapped_columns}
use Rattle.grid_moves.specs.declared.commutations.Axis.{Axis}
use Rattle.grid_moves.specs.declared.commutations.Axis.TheVariants.{Cols, Rows}
use Rattle.pentagon_map.specs.Pentagon.{crossing_row, has_row, image, is_unmarked_beside}
use Rattle.pentagon_map.specs.declared.Corner.{Corner}

abbrev pub crossing_row_back : Marks → ℕ → Corner → ℕ
crossing_row_back g c corner = crossing_row (swapped_columns g c) c corner

-- right of r is circle c, and row v is met before row w on the way up from the low row of r, or left of r is circle c,
-- and row w is met first; r has both rows; no other column has a mark in r

abbrev pub is_hexagonal : Marks → ℕ → ℕ → ℕ → Rect → Bool
is_hexagonal g c w v r =
    ((r.right == c && in_range (size g) r.low w v) || (r.left == c && in_range (size g) r.low v w))
    && ((has_row (size g) r v && has_row (size g) r w) && is_unmarked_beside g c r)

abbrev pub is_hexagon : Marks → ℕ → ℕ → ℕ → List ℕ → List ℕ → Rect → Bool
is_hexagon g c w v x y r = leads r x y && (is_empty x r && is_hexagonal g c w v r)

abbrev pub column_homotopy : Marks → ℕ → Corner → Chain → Chain
column_homotopy g c corner z =
    reached (size g) (is_hexagon g c (crossing_row g c corner) (crossing_row_back g c corner)) z

abbrev pub homotopy : Axis → Marks → ℕ → Corner → Chain → Chain
homotopy Cols g c corner z = column_homotopy g c corner z
homotopy Rows g c corner z =
    transposed_chain (size g) (column_homotopy (transposed g) c corner (transposed_chain (size g) z))

abbrev pub return_image : Axis → Marks → ℕ → Corner → Chain → Chain
return_image axis g c corner z = image axis (swapped axis g c) c corner (image axis g c corner z)
