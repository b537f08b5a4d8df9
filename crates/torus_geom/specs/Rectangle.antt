-- Rectangles on the torus of a grid (Ozsváth, Stipsicz and Szabó, "Grid Homology for Knots and
-- Links", chapter 4). A rectangle has two vertical circles, left and right, and two horizontal
-- circles, low and high. Its columns are the range from left up to right, its rows the range from
-- low up to high; either may go across the seam of the torus.
--     IsProper n r         the four circles are circles of a grid of size n, left is not right, low is not high
--     is_same x y          two states are the same
--     leads r x y          r leads from the state x to the state y: x has points at its lower left and
--                          upper right corners, and y is x with these two points moved to the other corners
--     is_empty x r         no point of x is strictly inside r
--     is_unmarked g r      no mark of the grid is in r
--     pairs_apart n        the ordered pairs of two different circles of n
--     rectangles n         the proper rectangles of a grid of size n, each once
use Rattle.std.specs.Prelude.{◌≢◌, ℕ, ◌<◌, Bool, ◌&&◌, ◌||◌, not, List, length, map, slice_index, swap, ◌==◌}
use Rattle.std.specs.List.{filter, flat_map}
use Rattle.state_rank.specs.Bijection.{ascending}
use Rattle.torus_geom.specs.Counts.{all_below}
use Rattle.torus_geom.specs.Marks.{Marks, size}
use Rattle.torus_geom.specs.Range.{in_range, is_inside}
use Rattle.torus_geom.specs.declared.rects.Rect.{Rect}

pub record IsProper (n : ℕ) (r : Rect) : Type 0 where
  pub left_below : r.left < n
  pub right_below : r.right < n
  pub low_below : r.low < n
  pub high_below : r.high < n
  pub columns : r.left ≢ r.right
  pub rows : r.low ≢ r.high

-- whether two states are the same
abbrev pub is_same : List ℕ → List ℕ → Bool
is_same x y = (length x == length y) && all_below (length x) (λ c. slice_index x c == slice_index y c)

abbrev pub leads : Rect → List ℕ → List ℕ → Bool
leads r x y = slice_index x r.left == r.low && (slice_index x r.right == r.high && is_same (swap x r.left r.right) y)

abbrev pub is_empty : List ℕ → Rect → Bool
is_empty x r = all_below (length x) (λ c. not (is_inside (length x) r.left r.right c
    && is_inside (length x) r.low r.high (slice_index x c)))

abbrev pub is_unmarked : Marks → Rect → Bool
is_unmarked g r = all_below (size g) (λ c. not (in_range (size g) r.left r.right c
    && (in_range (size g) r.low r.high (slice_index g.o c) || in_range (size g) r.low r.high (slice_index g.x c))))

-- the ordered pairs of different numbers below n
abbrev pub pairs_apart : ℕ → List (ℕ × ℕ)
pairs_apart n = flat_map (λ a. map (λ b. (a, b)) (filter (λ b. not (a == b)) (ascending n))) (ascending n)

abbrev pub rectangles : ℕ → List Rect
rectangles n = flat_map (λ (c : ℕ × ℕ). map (λ (r : ℕ × ℕ). record { left = c.0; right = c.1; low = r.0; high = r.1 })
    (pairs_apart n)) (pairs_apart n)
