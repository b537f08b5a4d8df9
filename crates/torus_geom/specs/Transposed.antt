-- The transposed grid: columns and rows change places.
use Rattle.state_rank.specs.States.{transpose}
use Rattle.torus_geom.specs.Marks.{Marks}

-- the O of column r of the transposed grid is in the row that was the column of the O of row r, and so the X
abbrev pub transposed : Marks → Marks
transposed g = record { o = transpose g.o; x = transpose g.x }
