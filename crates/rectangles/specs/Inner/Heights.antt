-- The table of the first marks of a grid.
--     IsFirstMarks t     its rows have the heights of the first marks of all columns
use Rattle.std.specs.Prelude.{◌≡◌, ℕ, ◌<◌, [], slice_index, slice_index_or}
use Rattle.torus_geom.specs.Marks.{size, IsGrid}
use Rattle.rectangles.specs.FirstMarks.{first_mark_height}
use Rattle.rectangles.specs.declared.first_marks.FirstMarks.TheInside.{Inside}

pub record IsFirstMarks (t : Inside) : Type 0 where
  pub grid : IsGrid t.grid
  pub heights : (r c : ℕ) → r < size t.grid → c < size t.grid
      → slice_index (slice_index_or t.heights r []) c ≡ first_mark_height t.grid r c
