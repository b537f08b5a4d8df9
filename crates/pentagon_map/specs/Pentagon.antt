-- Pentagons, and the image of a chain across a commutation (after Ozsváth, Stipsicz and Szabó, "Grid
-- Homology for Knots and Links", chapter 5; the coordinates are this project's own).
--
-- Columns c - 1 and c of the grid commute, mod n. A row of L is one with a mark in column c - 1, a row of
-- R one with a mark in column c. On the way up the circle of rows the four rows are met in the order
-- L, L, R, R. The marks stay, and circle c, which runs between the two columns, is moved past them: the
-- new circle runs left of the marks of column c - 1 and right of those of column c.
--
--        column c - 1 | column c
--                     |     .
--                     |  X  .        a row of R
--                     |  O  .        a row of R      |   the old circle c
--                     | .                            .   the new circle
--                     x              row w
--                   . |                              x   a crossing of the two
--                .  X |              a row of L
--                .  O |              a row of L
--                   . |
--
-- The two circles cross once on the way up from L to R, in row w, and once on the way up from R to L.
-- A corner set (left, right; low, high) is that of a rectangle. A pentagon has the crossing in row w as
-- its fifth corner. With left on circle c it lies right of both circles: below the crossing it ends at the
-- old circle, above it at the new one. With right on circle c it lies left of both: below the crossing it
-- ends at the new circle, above it at the old one. So it would hold the mark of a row of R that it meets
-- below the crossing, and of a row of L that it meets above it.
--
--     has_mark_in_rows g d low high    column d has a mark in the rows from low up to high
--     crossing_row g c corner          w: for `Over` the first row of R met on the way up from L, for `Under` the last
--                                      row of L met on the way up from R
--     has_row n r w                    row w is in r
--     is_unmarked_beside g c r         no column of r other than c - 1 and c has a mark in a row of r
--     is_pentagonal g c w r            r has the crossing in row w as its fifth corner, and is unmarked
--     is_pentagon g c w x y r          r is a pentagon from the state x to the state y, of the crossing in row w
--     column_image g c corner z        the states y for which the number of pairs of a state x in z and a pentagon from
--                                      x to y is odd
--     image axis g c corner z          the same for columns; for rows the grid and z are transposed, and the image of
--                                      that across columns is transposed back
use Rattle.std.specs.Prelude.{ℕ, Bool, ◌&&◌, ◌||◌, not, ◌==◌, nat_lt, List, slice_index, if◌then◌else◌}
use Rattle.torus_geom.specs.Chains.{Chain, reached}
use Rattle.torus_geom.specs.Counts.{all_below}
use Rattle.torus_geom.specs.Range.{one_up, one_down}
use Rattle.torus_geom.specs.Marks.{Marks, size}
use Rattle.torus_geom.specs.Range.{offset, in_range}
use Rattle.torus_geom.specs.Rectangle.{leads, is_empty}
use Rattle.torus_geom.specs.Transposed.{transposed}
use Rattle.torus_geom.specs.declared.rects.Rect.{Rect}
use Rattle.grid_moves.specs.Carried.{transposed_chain}
use Rattle.grid_moves.specs.declared.commutations.Axis.{Axis}
use Rattle.grid_moves.specs.declared.commutations.Axis.TheVariants.{Cols, Rows}
use Rattle.pentagon_map.specs.declared.Corner.{Corner}
use Rattle.pentagon_map.specs.declared.Corner.TheVariants.{Over, Under}

-- of the rows j and k the one that is met first, and the one that is met last, on the way up from row i
abbrev pub first_met : ℕ → ℕ → ℕ → ℕ → ℕ
first_met n i j k = if nat_lt (offset n i j) (offset n i k) then j else k

abbrev pub last_met : ℕ → ℕ → ℕ → ℕ → ℕ
last_met n i j k = if nat_lt (offset n i j) (offset n i k) then k else j

-- If the columns commute, it does not matter from which row of L, or of R, the way begins.
abbrev pub crossing_row : Marks → ℕ → Corner → ℕ
crossing_row g c Over =
    first_met (size g) (slice_index g.o (one_down (size g) c)) (slice_index g.o c) (slice_index g.x c)
crossing_row g c Under = last_met
    (size g) (slice_index g.o c) (slice_index g.o (one_down (size g) c)) (slice_index g.x (one_down (size g) c))

abbrev pub has_mark_in_rows : Marks → ℕ → ℕ → ℕ → Bool
has_mark_in_rows g d a b = in_range (size g) a b (slice_index g.o d) || in_range (size g) a b (slice_index g.x d)

abbrev pub has_row : ℕ → Rect → ℕ → Bool
has_row n r w = in_range n r.low r.high w

abbrev pub is_unmarked_beside : Marks → ℕ → Rect → Bool
is_unmarked_beside g c r = all_below (size g) (λ d. (d == one_down (size g) c || d == c)
    || not (in_range (size g) r.left r.right d && has_mark_in_rows g d r.low r.high))

-- the left or the right of r is circle c; r has row w; no other column has a mark in r; column c has none from the low
-- row of r up to w, so r meets no row of R there; column c - 1 has none above w below the high row, so r meets no row
-- of L there (a range from a row up to itself is empty)

abbrev pub is_pentagonal : Marks → ℕ → ℕ → Rect → Bool
is_pentagonal g c w r = (r.left == c || r.right == c) && (has_row (size g) r w && (is_unmarked_beside g c r
    && (not (has_mark_in_rows g c r.low w)
    && not (has_mark_in_rows g (one_down (size g) c) (one_up (size g) w) r.high))))

abbrev pub is_pentagon : Marks → ℕ → ℕ → List ℕ → List ℕ → Rect → Bool
is_pentagon g c w x y r = leads r x y && (is_empty x r && is_pentagonal g c w r)

abbrev pub column_image : Marks → ℕ → Corner → Chain → Chain
column_image g c corner z = reached (size g) (is_pentagon g c (crossing_row g c corner)) z

abbrev pub image : Axis → Marks → ℕ → Corner → Chain → Chain
image Cols g c corner z = column_image g c corner z
image Rows g c v z = transposed_chain (size g) (column_image (transposed g) c v (transposed_chain (size g) z))
