-- What is known of rows while they are divided.
--     HasPlace i row       the row has a degree at place i
use Rattle.std.specs.Prelude.{ℕ, ◌<◌, length}
use Rattle.hat_division.specs.declared.multi_tables.MultiRow.{MultiRow}

abbrev pub HasPlace : ℕ → MultiRow → Type 0
HasPlace i row = i < length row.d
