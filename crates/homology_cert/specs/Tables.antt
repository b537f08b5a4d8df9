-- What bounds the rows of the table of a grid.
--     HasSmallDegrees row       both degrees of the row are from -1,000 to 1,000
--     HasSmallRank row          its rank is a number of 32 bits
use Rattle.std.specs.Prelude.{◌^◌, ◌<◌}
use Rattle.gradings.specs.Degrees.{IsSmallDegree}
use Rattle.hat_division.specs.declared.tables.TableRow.{TableRow}

pub record HasSmallDegrees (row : TableRow) : Type 0 where
  pub maslov : IsSmallDegree row.m
  pub alexander : IsSmallDegree row.a

abbrev pub HasSmallRank : TableRow → Type 0
HasSmallRank row = row.rank < 2 ^ 32
