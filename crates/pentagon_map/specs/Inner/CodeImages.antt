-- The image of a set of codes across a commutation.
--     column_image g c corner x        the indices of the states to which an odd number of pentagons lead from the
--                                      state x
--     image_of_state axis g c corner x the indices of the image of x, for columns or for rows: for rows x is
--                                      transposed, the columns of the transposed grid are exchanged, and the image is
--                                      transposed back
--     image axis g c corner z          the sum of the images of the states whose indices are in z
use Rattle.std.specs.Prelude.{ℕ, List, length}
use Rattle.std.specs.List.{filter}
use Rattle.f2_algebra.specs.Chain.{Chain, sum_over, is_odd}
use Rattle.state_rank.specs.States.{unrank, transpose}
use Rattle.torus_geom.specs.Inner.CodeBorder.{states_where}
use Rattle.torus_geom.specs.Marks.{Marks, size}
use Rattle.torus_geom.specs.Rectangle.{rectangles}
use Rattle.torus_geom.specs.Transposed.{transposed}
use Rattle.grid_moves.specs.Inner.CodeCarried.{transposed_chain}
use Rattle.grid_moves.specs.declared.commutations.Axis.{Axis}
use Rattle.grid_moves.specs.declared.commutations.Axis.TheVariants.{Cols, Rows}
use Rattle.pentagon_map.specs.Pentagon.{crossing_row, is_pentagon}
use Rattle.pentagon_map.specs.declared.Corner.{Corner}

unfoldable pub column_image : Marks → ℕ → Corner → List ℕ → Chain
column_image g c corner x =
    states_where (size g) (λ y. is_odd (length (filter (is_pentagon g c (crossing_row g c corner) x y)
    (rectangles (size g)))))

abbrev pub image_of_state : Axis → Marks → ℕ → Corner → List ℕ → Chain
image_of_state Cols g c corner x = column_image g c corner x
image_of_state Rows g c corner x = transposed_chain (size g) (column_image (transposed g) c corner (transpose x))

unfoldable pub image : Axis → Marks → ℕ → Corner → Chain → Chain
image axis g c corner z = sum_over z (λ code. image_of_state axis g c corner (unrank (size g) code))
