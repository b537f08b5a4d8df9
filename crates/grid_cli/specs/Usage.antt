-- What the program tells if its words ask for nothing.
--     usage_line    the line that tells which words the program knows
use Rattle.std.specs.Prelude.{ℕ, List, [], ◌∷◌, ◌++◌, codes}

abbrev pub usage_line : List ℕ
usage_line = codes "usage: gridhom run | cert | check | make --size N --seed K | compare" ++ 10 ∷ []
