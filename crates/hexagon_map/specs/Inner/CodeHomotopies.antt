-- The homotopy of a set of codes across a commutation.
--     column_homotopy g c corner x          the indices of the states to which an odd number of hexagons lead from the
--                                           state x
--     homotopy_of_state axis g c corner x   the indices of the homotopy of x, for columns or for rows: for rows x is
--                                           transposed, and the homotopy across columns is transposed back
--     homotopy axis g c corner z            the sum of these over the states whose indices are in z
--     return_image axis g c corner z        the image of z, and the image of that in the exchanged grid
use Rattle.std.specs.Prelude.{ℕ, List, length}
use Rattle.std.specs.List.{filter}
use Rattle.f2_algebra.specs.Chain.{Chain, sum_over, is_odd}
use Rattle.state_rank.specs.States.{unrank, transpose}
use Rattle.torus_geom.specs.Inner.CodeBorder.{states_where}
use Rattle.torus_geom.specs.Marks.{Marks, size}
use Rattle.torus_geom.specs.Rectangle.{rectangles}
use Rattle.torus_geom.specs.Transposed.{transposed}
use Rattle.grid_moves.specs.Inner.CodeCarried.{transposed_chain}
use Rattle.grid_moves.specs.Moves.{swapped}
use Rattle.grid_moves.specs.declared.commutations.Axis.{Axis}
use Rattle.grid_moves.specs.declared.commutations.Axis.TheVariants.{Cols, Rows}
use Rattle.pentagon_map.specs.Inner.CodeImages.{image}
use Rattle.pentagon_map.specs.Pentagon.{crossing_row}
use Rattle.pentagon_map.specs.declared.Corner.{Corner}
use Rattle.hexagon_map.specs.Hexagon.{crossing_row_back, is_hexagon}

unfoldable pub column_homotopy : Marks → ℕ → Corner → List ℕ → Chain
column_homotopy g c corner x =
    states_where (size g) (λ y. is_odd (length (filter
    (is_hexagon g c (crossing_row g c corner) (crossing_row_back g c corner) x y) (rectangles (size g)))))

abbrev pub homotopy_of_state : Axis → Marks → ℕ → Corner → List ℕ → Chain
homotopy_of_state Cols g c corner x = column_homotopy g c corner x
homotopy_of_state Rows g c corner x = transposed_chain (size g) (column_homotopy (transposed g) c corner (transpose x))

unfoldable pub homotopy : Axis → Marks → ℕ → Corner → Chain → Chain
homotopy axis g c corner z = sum_over z (λ code. homotopy_of_state axis g c corner (unrank (size g) code))

abbrev pub return_image : Axis → Marks → ℕ → Corner → Chain → Chain
return_image axis g c corner z = image axis (swapped axis g c) c corner (image axis g c corner z)
