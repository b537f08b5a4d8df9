-- The rows of the table of a grid by component, in numbers.
--     component_row row             a row as its Maslov degree, its degrees and its rank
--     HasSmallComponentRank row     its rank is a number of 32 bits
use Rattle.std.specs.Prelude.{◌^◌, ◌<◌}
use Rattle.homology_cert.specs.ComponentHomology.{ComponentRow}
use Rattle.hat_division.specs.declared.multi_tables.MultiRow.{MultiRow}

abbrev pub component_row : MultiRow → ComponentRow
component_row row = (row.m, row.d, row.rank)

abbrev pub HasSmallComponentRank : MultiRow → Type 0
HasSmallComponentRank row = row.rank < 2 ^ 32
