-- The plain form of a script: the text that is written for it. One space stands between words, the states of
-- a chain ascend, and every line is ended by one line feed.
--     after_space words    each word after a space
--     line_of words        the bytes of a line with these words
--     command_line c       the line of a command
--     head_lines v g       the lines of the head of a document of this version, with the grid g
--     plain_form s         the text
use Rattle.std.specs.Prelude.{ℕ, List, [], ◌∷◌, ◌++◌, map}
use Rattle.std.specs.List.{flat_map}
use Rattle.std.specs.Fmt.{decimal}
use Rattle.torus_geom.specs.Marks.{Marks, size}
use Rattle.grid_text.specs.Words.{Word}
use Rattle.grid_text.specs.Commands.{command_words}
use Rattle.grid_text.specs.Script.{GridScript}
use Rattle.grid_text.specs.Document.{grid_word, o_word, x_word, end_word}
use Rattle.grid_text.specs.declared.commands.Command.{Command}

abbrev pub after_space : List Word → List ℕ
after_space words = flat_map (λ w. 32 ∷ w) words

abbrev pub line_of : List Word → List ℕ
line_of [] = 10 ∷ []
line_of (word ∷ words) = word ++ after_space words ++ 10 ∷ []

abbrev pub command_line : Command → List ℕ
command_line c = line_of (command_words c)

abbrev pub head_lines : ℕ → Marks → List ℕ
head_lines v g = line_of (grid_word v ∷ decimal (size g) ∷ []) ++ line_of (o_word ∷ map decimal g.o)
    ++ line_of (x_word ∷ map decimal g.x)

unfoldable pub plain_form : GridScript → List ℕ
plain_form s = head_lines s.version s.grid ++ flat_map command_line s.commands ++ line_of (end_word ∷ [])
