-- Pictures of grids: a row of symbols for each row of the grid, the top row first. The symbols are those of the
-- columns, from column 0 on: an O, an X, or a dot for an empty square.
--     o_symbol, x_symbol, empty_symbol    the bytes 79, 88 and 46
--     row_symbols n c d      the symbols of a row of n columns with its O in column c and its X in column d
--     FitsRow n o x c d      such a row may follow rows whose O are in the columns o, and whose X are in the columns x
--     grid_of_rows o x       the grid with these columns of the O and of the X of each row, from row 0 on
use Rattle.std.specs.Prelude.{◌≢◌, ℕ, ◌<◌, List, ◌==◌, if◌then◌else◌}
use Rattle.std.specs.List.{Contains}
use Rattle.state_rank.specs.Bijection.{tabulate}
use Rattle.torus_geom.specs.Marks.{Marks}
use Rattle.torus_geom.specs.Transposed.{transposed}

abbrev pub o_symbol : ℕ
o_symbol = 79

abbrev pub x_symbol : ℕ
x_symbol = 88

abbrev pub empty_symbol : ℕ
empty_symbol = 46

abbrev pub row_symbols : ℕ → ℕ → ℕ → List ℕ
row_symbols n c d = tabulate n (λ i. if i == c then o_symbol else (if i == d then x_symbol else empty_symbol))

pub record FitsRow (n : ℕ) (o x : List ℕ) (c d : ℕ) : Type 0 where
  pub o_within : c < n
  pub x_within : d < n
  pub apart : c ≢ d
  pub new_o : ¬ Contains o c
  pub new_x : ¬ Contains x d

abbrev pub grid_of_rows : List ℕ → List ℕ → Marks
grid_of_rows o x = transposed (record { o = o; x = x })
