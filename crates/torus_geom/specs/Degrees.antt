-- The degrees of a state (Ozsváth, Stipsicz and Szabó, "Grid Homology for Knots and Links", chapter 4;
-- for several components A is taken with n - l in the place of n - 1, l being their number).
--     Point                      a point of the plane, with both coordinates doubled
--     point x c, mark o c        the point of a state on circle c, and the mark of column c
--     is_lower_left p q          p is strictly left of q and strictly below it
--     lower_left_pairs n p q     the number of pairs of one of the points p and one of the points q, the
--                                first strictly left of the second and strictly below it
--     maslov n marks x           the Maslov degree of x by these marks
--     maslov_o g x, maslov_x g x the same by the O and by the X
--     doubled_alexander g x      M_O - M_X - (n - l), which is even
--     alexander g x              the whole number A with 2 A = M_O - M_X - (n - l)
--     bidegree g x               the pair of M_O and A
--     marks_in n o r             how many of these marks are in the rectangle r
--     points_inside n x r        how many points of the state are strictly inside it
use Rattle.std.specs.Prelude.{ℕ, ◌+◌, ◌*◌, Bool, ◌&&◌, nat_lt, List, slice_index, ℤ, pos, ◌+ℤ◌, ◌-ℤ◌, int_div}
use Rattle.torus_geom.specs.Counts.{sum_below, count_below}
use Rattle.torus_geom.specs.Marks.{Marks, size}
use Rattle.torus_geom.specs.Components.{components}
use Rattle.torus_geom.specs.Range.{in_range, is_inside}
use Rattle.torus_geom.specs.declared.rects.Rect.{Rect}

-- A point of the plane, with both coordinates doubled, so that they are whole: the point of a state at
-- circle c and row r is (2 c, 2 r), and a mark is a half further in both directions, at (2 c + 1, 2 r + 1).
pub record Point : Type 0 where
  pub column : ℕ
  pub row : ℕ

abbrev pub point : List ℕ → ℕ → Point
point x c = record { column = 2 * c; row = 2 * slice_index x c }

abbrev pub mark : List ℕ → ℕ → Point
mark o c = record { column = 2 * c + 1; row = 2 * slice_index o c + 1 }

abbrev pub is_lower_left : Point → Point → Bool
is_lower_left p q = nat_lt p.column q.column && nat_lt p.row q.row

-- of n points p and n points q
abbrev pub lower_left_pairs : ℕ → (ℕ → Point) → (ℕ → Point) → ℤ
lower_left_pairs n p q = sum_below n (λ d. count_below n (λ c. is_lower_left (p c) (q d)))

unfoldable pub maslov : ℕ → List ℕ → List ℕ → ℤ
maslov n o x =
    lower_left_pairs n (point x) (point x) -ℤ lower_left_pairs n (point x) (mark o)
    -ℤ lower_left_pairs n (mark o) (point x) +ℤ lower_left_pairs n (mark o) (mark o) +ℤ pos 1

abbrev pub maslov_o : Marks → List ℕ → ℤ
maslov_o g x = maslov (size g) g.o x

abbrev pub maslov_x : Marks → List ℕ → ℤ
maslov_x g x = maslov (size g) g.x x

-- M_O - M_X - (n - l), which is even
abbrev pub doubled_alexander : Marks → List ℕ → ℤ
doubled_alexander g x = maslov_o g x -ℤ maslov_x g x -ℤ (pos (size g) -ℤ pos (components g))

unfoldable pub alexander : Marks → List ℕ → ℤ
alexander g x = int_div (doubled_alexander g x) (pos 2)

abbrev pub bidegree : Marks → List ℕ → ℤ × ℤ
bidegree g x = (maslov_o g x, alexander g x)

-- how many of these marks are in the rectangle, and how many points of x are strictly inside it
abbrev pub marks_in : ℕ → List ℕ → Rect → ℤ
marks_in n o r = count_below n (λ c. in_range n r.left r.right c && in_range n r.low r.high (slice_index o c))

abbrev pub points_inside : ℕ → List ℕ → Rect → ℤ
points_inside n x r = count_below n (λ c. is_inside n r.left r.right c && is_inside n r.low r.high (slice_index x c))
