-- The lines and words of a text, which is a list of bytes, and which number or state a word is.
--     Word                   a list of bytes
--     parts is_end bytes     the bytes up to each byte that ends a part, and if bytes follow the last such byte, these
--                            as one more part
--     before_parts b parts   the parts, with the byte before the first
--     is_filled bytes        there are some
--     without_return bytes   the bytes, without a carriage return, 13, at their end
--     lines_of text          its lines: each is ended by a line feed, but the last may be ended by the text; one
--                            carriage return at the end of a line is no part of it
--     words_of line          the longest runs of bytes other than spaces and tabs
--     words_of_lines text    the words of each line, in order
--     symbols words          the bytes of a line with these words that are no spaces and tabs
--     is_comment word        the word begins with `#`, 35
--     is_blank words         a line with these words is blank: it has none, or the first begins with `#`
--     is_word v w            the two words are the same
--     numeral low high word  the number from low to high whose decimal form the word is, if there is one
--     state_of n word        the state of size n whose word it is, if there is one
use Rattle.std.specs.Prelude.{ℕ, ◌+◌, Bool, true, false, ◌&&◌, List, [], ◌∷◌, map, codes, ◌==◌, if◌then◌else◌}
use Rattle.std.specs.declared.option.Option.{Option}
use Rattle.std.specs.List.{filter, find, flat_map}
use Rattle.std.specs.Fmt.{decimal}
use Rattle.text_lines.specs.Parts.{is_among}
use Rattle.state_rank.specs.Bijection.{numbers}
use Rattle.state_rank.specs.States.{states, state_word}

abbrev pub Word : Type 0
Word = List ℕ

abbrev pub before_parts : ℕ → List (List ℕ) → List (List ℕ)
before_parts b [] = (b ∷ []) ∷ []
before_parts b (part ∷ parts) = (b ∷ part) ∷ parts

abbrev pub parts : (ℕ → Bool) → List ℕ → List (List ℕ)
parts is_end [] = []
parts is_end (b ∷ bytes) = if is_end b then [] ∷ parts is_end bytes else before_parts b (parts is_end bytes)

abbrev pub is_filled : List ℕ → Bool
is_filled [] = false
is_filled (b ∷ bytes) = true

abbrev pub without_return : List ℕ → List ℕ
without_return [] = []
without_return (b ∷ []) = if b == 13 then [] else b ∷ []
without_return (b ∷ c ∷ bytes) = b ∷ without_return (c ∷ bytes)

abbrev pub lines_of : List ℕ → List (List ℕ)
lines_of text = map without_return (parts (is_among (codes "\n")) text)

abbrev pub words_of : List ℕ → List Word
words_of line = filter is_filled (parts (is_among (codes " \t")) line)

abbrev pub words_of_lines : List ℕ → List (List Word)
words_of_lines text = map words_of (lines_of text)

abbrev pub symbols : List Word → List ℕ
symbols words = flat_map (λ w. w) words

abbrev pub is_comment : Word → Bool
is_comment [] = false
is_comment (b ∷ word) = b == 35

abbrev pub is_blank : List Word → Bool
is_blank [] = true
is_blank (word ∷ words) = is_comment word

abbrev pub is_word : Word → Word → Bool
is_word [] [] = true
is_word [] (c ∷ w) = false
is_word (b ∷ v) [] = false
is_word (b ∷ v) (c ∷ w) = (b == c) && is_word v w

unfoldable pub numeral : ℕ → ℕ → Word → Option ℕ
numeral low high word = find (λ v. is_word (decimal v) word) (numbers low (high + 1))

unfoldable pub state_of : ℕ → Word → Option (List ℕ)
state_of n word = find (λ x. is_word (state_word x) word) (states n)
