-- The generator of scripts: grids that are drawn by a seed, with one list of commands.
--     next_number s       the number after s
--     number_after k s    the number k steps after s
--     draw s m            what the number s draws below m
--     exchanged i s xs    the list after exchanges at the places i down to 1, each with a place at or below it that
--                         the next number draws, from the number after s on
--     shuffled n s        the list of 0 to n - 1 after these exchanges at all places but 0
--     IsGridThrough cs rs g    the X of the i-th of these columns is in the i-th of these rows, and so is the O of
--                              the next column; after the last comes the first
--     IsMadeScript n seed s    the script of this size and seed: it is of version 1, and its grid goes through the
--                              columns as the seed shuffles them, and through the rows as the numbers that follow do
use Rattle.std.specs.Prelude.{◌≡◌, ℕ, zero, suc, ◌+◌, ◌-◌, ◌*◌, ◌/◌, ◌%◌, ◌^◌, ◌<◌, List, [], ◌∷◌, length, slice_index}
use Rattle.std.specs.List.{swap}
use Rattle.state_rank.specs.Bijection.{ascending}
use Rattle.torus_geom.specs.Marks.{Marks}
use Rattle.torus_geom.specs.Range.{one_up}
use Rattle.grid_text.specs.Script.{GridScript}
use Rattle.grid_text.specs.declared.commands.Command.TheVariants.{Front, Hat, Class}
use Rattle.grid_text.specs.declared.commands.Sign.TheVariants.{Plus, Minus}

abbrev pub next_number : ℕ → ℕ
next_number s = (1103515245 * s + 12345) % 2 ^ 31

abbrev pub number_after : ℕ → ℕ → ℕ
number_after zero s = s
number_after (suc k) s = number_after k (next_number s)

abbrev pub draw : ℕ → ℕ → ℕ
draw s m = s / 65536 % m

abbrev pub exchanged : ℕ → ℕ → List ℕ → List ℕ
exchanged zero s xs = xs
exchanged (suc i) s xs = exchanged i (next_number s) (swap xs (suc i) (draw (next_number s) (suc (suc i))))

abbrev pub shuffled : ℕ → ℕ → List ℕ
shuffled n s = exchanged (n - 1) s (ascending n)

pub record IsGridThrough (cs rs : List ℕ) (g : Marks) : Type 0 where
  pub o_columns : length g.o ≡ length cs
  pub x_columns : length g.x ≡ length cs
  pub x : (i : ℕ) → i < length cs → slice_index g.x (slice_index cs i) ≡ slice_index rs i
  pub o : (i : ℕ) → i < length cs → slice_index g.o (slice_index cs (one_up (length cs) i)) ≡ slice_index rs i

pub record IsMadeScript (n seed : ℕ) (s : GridScript) : Type 0 where
  pub version : s.version ≡ 1
  pub grid : IsGridThrough (shuffled n seed) (shuffled n (number_after (n - 1) seed)) s.grid
  pub commands : s.commands ≡ Front ∷ Hat ∷ Class Plus ∷ Class Minus ∷ []
