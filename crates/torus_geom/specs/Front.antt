-- The front of a Legendrian link that a grid diagram gives (Ozsváth, Stipsicz and Szabó, "Grid
-- Homology for Knots and Links", chapter 12; Ozsváth, Szabó and Thurston, "Legendrian knots,
-- transverse knots and combinatorial knot Floer homology"). In each column the vertical segment runs
-- from the X to the O, in each row the horizontal segment from the O to the X. The vertical strand
-- crosses over; the front is the diagram with its crossings exchanged, and its cusps are the NE and
-- the SW corners.
--     o_column g r, x_column g r the columns of the O and of the X in row r
--     is_up g c r, is_down g c r the vertical segment of column c passes row r on its way up, or down
--     is_right g c r, is_left g c r   the horizontal segment of row r passes column c on its way to the right, or to
--                                     the left
--     sign g c r                 the sign of the crossing at column c and row r, 0 if there is none
--     writhe g                   the sum of the signs
--     north_east g, south_west g the numbers of NE and of SW corners
--     is_north_east_x g c and so on   the X, or the O, of column c is a NE, or a SW, corner: is_north_east_o,
--                                     is_south_west_x,
--                                is_south_west_o
--     thurston_bennequin g       tb = - writhe - NE
--     doubled_rotation g         NE at X + SW at O - NE at O - SW at X, which is even
--     rotation g                 the whole number rot with 2 rot = NE at X + SW at O - NE at O - SW at X
--     plus_state g               the NE corners of the squares with an X, as a state
--     minus_state g              their SW corners
use Rattle.std.specs.Prelude.{ℕ, Bool, ◌&&◌, ◌||◌, nat_lt, List, slice_index, ℤ, pos, neg_ℤ, ◌+ℤ◌, ◌-ℤ◌, int_div, if◌then◌else◌}
use Rattle.state_rank.specs.Bijection.{tabulate, column_of}
use Rattle.torus_geom.specs.Counts.{sum_below, count_below}
use Rattle.torus_geom.specs.Marks.{Marks, size}
use Rattle.torus_geom.specs.Range.{one_up, one_down}

-- the columns of the O and of the X in row r
abbrev pub o_column : Marks → ℕ → ℕ
o_column g r = column_of (size g) (slice_index g.o) r

abbrev pub x_column : Marks → ℕ → ℕ
x_column g r = column_of (size g) (slice_index g.x) r

-- the vertical segment of column c passes row r on its way up, or down
abbrev pub is_up : Marks → ℕ → ℕ → Bool
is_up g c r = nat_lt (slice_index g.x c) r && nat_lt r (slice_index g.o c)

abbrev pub is_down : Marks → ℕ → ℕ → Bool
is_down g c r = nat_lt (slice_index g.o c) r && nat_lt r (slice_index g.x c)

-- the horizontal segment of row r passes column c on its way to the right, or to the left
abbrev pub is_right : Marks → ℕ → ℕ → Bool
is_right g c r = nat_lt (o_column g r) c && nat_lt c (x_column g r)

abbrev pub is_left : Marks → ℕ → ℕ → Bool
is_left g c r = nat_lt (x_column g r) c && nat_lt c (o_column g r)

abbrev pub sign : Marks → ℕ → ℕ → ℤ
sign g c r = if (is_up g c r && is_right g c r) || (is_down g c r && is_left g c r) then neg_ℤ (pos 1)
    else (if (is_up g c r && is_left g c r) || (is_down g c r && is_right g c r) then pos 1 else pos 0)

unfoldable pub writhe : Marks → ℤ
writhe g = sum_below (size g) (λ c. sum_below (size g) (sign g c))

-- The X, or the O, of column c is a NE corner: its vertical segment goes down from it and its
-- horizontal one goes left. It is a SW corner: they go up and right.
abbrev pub is_north_east_x : Marks → ℕ → Bool
is_north_east_x g c = nat_lt (slice_index g.o c) (slice_index g.x c) && nat_lt (o_column g (slice_index g.x c)) c

abbrev pub is_south_west_x : Marks → ℕ → Bool
is_south_west_x g c = nat_lt (slice_index g.x c) (slice_index g.o c) && nat_lt c (o_column g (slice_index g.x c))

abbrev pub is_north_east_o : Marks → ℕ → Bool
is_north_east_o g c = nat_lt (slice_index g.x c) (slice_index g.o c) && nat_lt (x_column g (slice_index g.o c)) c

abbrev pub is_south_west_o : Marks → ℕ → Bool
is_south_west_o g c = nat_lt (slice_index g.o c) (slice_index g.x c) && nat_lt c (x_column g (slice_index g.o c))

abbrev pub north_east : Marks → ℤ
north_east g = count_below (size g) (is_north_east_x g) +ℤ count_below (size g) (is_north_east_o g)

abbrev pub south_west : Marks → ℤ
south_west g = count_below (size g) (is_south_west_x g) +ℤ count_below (size g) (is_south_west_o g)

unfoldable pub thurston_bennequin : Marks → ℤ
thurston_bennequin g = pos 0 -ℤ writhe g -ℤ north_east g

-- NE at X + SW at O - NE at O - SW at X, which is even
abbrev pub doubled_rotation : Marks → ℤ
doubled_rotation g = count_below (size g) (is_north_east_x g) +ℤ count_below (size g) (is_south_west_o g)
    -ℤ count_below (size g) (is_north_east_o g) -ℤ count_below (size g) (is_south_west_x g)

unfoldable pub rotation : Marks → ℤ
rotation g = int_div (doubled_rotation g) (pos 2)

-- at circle c + 1 the row of the X of column c, plus one
abbrev pub plus_state : Marks → List ℕ
plus_state g = tabulate (size g) (λ c. one_up (size g) (slice_index g.x (one_down (size g) c)))

abbrev pub minus_state : Marks → List ℕ
minus_state g = g.x
