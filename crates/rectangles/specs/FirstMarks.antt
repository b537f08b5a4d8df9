-- How far up a rectangle may reach on a column before it meets a mark.
--     first_mark_height g r c     how many steps up it is from row r to the first mark of column c, the O or the X
use Rattle.std.specs.Prelude.{ℕ, min, slice_index}
use Rattle.torus_geom.specs.Marks.{Marks, size}
use Rattle.torus_geom.specs.Range.{offset}

abbrev pub first_mark_height : Marks → ℕ → ℕ → ℕ
first_mark_height g r c = min (offset (size g) r (slice_index g.o c)) (offset (size g) r (slice_index g.x c))
