-- The limits of documents.
--     max_commands    the greatest number of commands of a document
--     max_text        the greatest number of bytes of a text that is judged
use Rattle.std.specs.Prelude.{ℕ}

abbrev pub max_commands : ℕ
max_commands = 256

abbrev pub max_text : ℕ
max_text = 65536
