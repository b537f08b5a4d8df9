-- Which texts are documents. The lines of a text are taken in order, each at a place; a line that is
-- allowed there leads to the next place. Blank lines are allowed everywhere and leave the place.
--     Place                  where a line stands: at the head; at the O line of a version and a size; at the X line of
--                            a version and a size with the O list; in a picture of a size, with the columns of the O
--                            and of the X of the rows so far, the lowest of them first; in the body, with the script so
--                            far; after the end
--     grid_word v, picture_word   the words that begin a head: that of its number form for each version, and that of
--                            its picture form, which is of version 1
--     o_word, x_word, end_word   the first words of the other lines of the number form, and the last line
--     body_of v g            the place in the body of a document of this version, with no command so far
--     below_row n o x        the place below a row of a picture of size n, with that row in the lists: in the picture,
--                            or below the last row in the body
--     LeadsOn p words q      the words have a form that is allowed at the place p, and the line leads on to q
--     Leads p words q        a line with these words is allowed at the place p and leads to q: a blank line to p
--                            itself, another by its form
--     Path p lines q         these lines, in order, lead from p to q
--     IsDocument text s      the text is a document of the script s
--     IsHeadLine lines line  the line of this number, counted from 1, is the first of the head: the lines before it
--                            are blank, and it leads on from the head
use Rattle.std.specs.Prelude.{◌≡◌, ◌≢◌, ◌⊎◌, ℕ, ◌+◌, ◌<◌, true, List, [], ◌∷◌, ◌++◌, length, map, slice_index, codes, ◌==◌, if◌then◌else◌}
use Rattle.std.specs.List.{All}
use Rattle.std.specs.Fmt.{decimal}
use Rattle.state_rank.specs.Bijection.{IsSize, IsBijection}
use Rattle.grid_text.specs.Limits.{max_commands}
use Rattle.grid_text.specs.Words.{Word, words_of_lines, symbols, is_blank}
use Rattle.torus_geom.specs.Marks.{Marks}
use Rattle.grid_text.specs.Picture.{row_symbols, FitsRow, grid_of_rows}
use Rattle.grid_text.specs.Commands.{IsLineOf, IsAllowed}
use Rattle.grid_text.specs.Script.{GridScript, IsVersion, grid_in_force, with_command}
use Rattle.grid_text.specs.declared.commands.Command.{Command}

pub data Place : Type 0 where
  head : Place
  o_line : (v n : ℕ) → Place
  x_line : (v n : ℕ) (o : List ℕ) → Place
  picture : (n : ℕ) (o x : List ℕ) → Place
  body : (s : GridScript) → Place
  ended : (s : GridScript) → Place

abbrev pub grid_word : ℕ → Word
grid_word v = if v == 2 then codes "grid2" else codes "grid"

abbrev pub o_word : Word
o_word = codes "O"

abbrev pub x_word : Word
x_word = codes "X"

abbrev pub picture_word : Word
picture_word = codes "picture"

abbrev pub end_word : Word
end_word = codes "end"

abbrev pub body_of : ℕ → Marks → Place
body_of v g = body (record { version = v; grid = g; commands = [] })

abbrev pub below_row : ℕ → List ℕ → List ℕ → Place
below_row n o x = if length o == n then body_of 1 (grid_of_rows o x) else picture n o x

abbrev pub LeadsOn : Place → List Word → Place → Type 0
LeadsOn head words q = (n : ℕ) × IsSize n
    × (((v : ℕ) × IsVersion v × (words ≡ grid_word v ∷ decimal n ∷ []) × (q ≡ o_line v n))
    ⊎ ((words ≡ picture_word ∷ decimal n ∷ []) × (q ≡ picture n [] [])))
LeadsOn (o_line v n) words q = (o : List ℕ) × IsBijection n o × (words ≡ o_word ∷ map decimal o) × (q ≡ x_line v n o)
LeadsOn (x_line v n o) words q = (x : List ℕ) × IsBijection n x × ((c : ℕ) → c < n → slice_index o c ≢ slice_index x c)
    × (words ≡ x_word ∷ map decimal x) × (q ≡ body_of v (record { o = o; x = x }))
LeadsOn (picture n o x) words q = (c : ℕ) × (d : ℕ) × FitsRow n o x c d
    × (symbols words ≡ row_symbols n c d) × (q ≡ below_row n (c ∷ o) (d ∷ x))
LeadsOn (body s) words q = ((words ≡ end_word ∷ []) × (q ≡ ended s)) ⊎ ((c : Command) × IsLineOf words c
    × IsAllowed (grid_in_force s) c × (length s.commands < max_commands) × (q ≡ body (with_command s c)))
LeadsOn (ended s) words q = ⊥

abbrev pub Leads : Place → List Word → Place → Type 0
Leads p words q = ((is_blank words ≡ true) × (p ≡ q)) ⊎ LeadsOn p words q

abbrev pub Path : Place → List (List Word) → Place → Type 0
Path p [] q = p ≡ q
Path p (words ∷ lines) q = (r : Place) × Leads p words r × Path r lines q

abbrev pub IsDocument : List ℕ → GridScript → Type 0
IsDocument text s = Path head (words_of_lines text) (ended s)

pub record IsHeadLine (lines : List (List Word)) (line : ℕ) : Type 0 where
  pub before : List (List Word)
  pub words : List Word
  pub after : List (List Word)
  pub next : Place
  pub split : lines ≡ before ++ words ∷ after
  pub blank : All (λ words. is_blank words ≡ true) before
  pub leads : LeadsOn head words next
  pub number : line ≡ length before + 1
