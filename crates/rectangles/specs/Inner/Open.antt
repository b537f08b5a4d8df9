-- The rectangles by which the border of a state is found. From a state x two rectangles lead to the
-- state that has the points of x on the circles a and b exchanged: one has a on its left, the other b.
--     leaving x a b                      the rectangle from the point of x on circle a up to its point on circle b
--     is_open g x a b                    it is empty for x and unmarked; there is none if a is b
--     is_odd_pair g x a b                exactly one of the two rectangles between the circles a and b is open
--     odd_bit opens a b                  1 if b is right of a and exactly one of the two is open by the sets of bits
--                                        `opens`, else 0
--     AreRowsBetween from to rows        the bits of `rows` are those of the rows from `from` up to `to`, without `to`
--     exchanges x columns a odd rows     the exchanges of circle a with the circles of those of the rows whose bit is
--                                        set in `odd`
--     exchanges_below, exchanges_above   those with lower rows, which are before x, and those with higher rows, which
--                                        are after x, where `odds` has the bits for each circle
use Rattle.std.specs.Prelude.{◌≡◌, ℕ, ◌+◌, ◌%◌, ◌<◌, ◌≤◌, Bool, nat_lt, if◌then◌else◌, ◌&&◌, ◌||◌, not, List, length, map, slice_index, swap, ◌==◌}
use Rattle.std.specs.Int.{bit_at}
use Rattle.std.specs.List.{filter}
use Rattle.state_rank.specs.Bijection.{numbers}
use Rattle.torus_geom.specs.Marks.{Marks}
use Rattle.torus_geom.specs.Rectangle.{is_empty, is_unmarked}
use Rattle.torus_geom.specs.declared.rects.Rect.{Rect}

abbrev pub leaving : List ℕ → ℕ → ℕ → Rect
leaving x a b = record { left = a; right = b; low = slice_index x a; high = slice_index x b }

unfoldable pub is_open : Marks → List ℕ → ℕ → ℕ → Bool
is_open g x a b = not (a == b) && (is_empty x (leaving x a b) && is_unmarked g (leaving x a b))

unfoldable pub is_odd_pair : Marks → List ℕ → ℕ → ℕ → Bool
is_odd_pair g x a b = (is_open g x a b && not (is_open g x b a)) || (not (is_open g x a b) && is_open g x b a)

abbrev pub odd_bit : List ℕ → ℕ → ℕ → ℕ
odd_bit opens a b = if nat_lt a b then (bit_at (slice_index opens a) b + bit_at (slice_index opens b) a) % 2 else 0

abbrev pub exchanges : List ℕ → List ℕ → ℕ → ℕ → List ℕ → List (List ℕ)
exchanges x columns a odd rows = map (λ r. swap x a (slice_index columns r)) (filter (λ r. bit_at odd r == 1) rows)

abbrev pub exchanges_below : List ℕ → List ℕ → List ℕ → ℕ → List (List ℕ)
exchanges_below x columns odds a = exchanges x columns a (slice_index odds a) (numbers 0 (slice_index x a))

abbrev pub exchanges_above : List ℕ → List ℕ → List ℕ → ℕ → List (List ℕ)
exchanges_above x columns odds a = exchanges x columns a (slice_index odds a) (numbers (slice_index x a + 1) (length x))

pub record AreRowsBetween (from to rows : ℕ) : Type 0 where
  pub inside : (r : ℕ) → from ≤ r → r < to → bit_at rows r ≡ 1
  pub below : (r : ℕ) → r < from → bit_at rows r ≡ 0
  pub above : (r : ℕ) → to ≤ r → bit_at rows r ≡ 0
