-- Which words are not of a kind.
--     is_bad k word          the word is not of the kind
use Rattle.std.specs.Prelude.{Bool, not, is_none}
use Rattle.std.specs.List.{list_any}
use Rattle.grid_text.specs.Words.{Word, is_word, numeral, state_of}
use Rattle.grid_text.specs.Faults.{Kind, choice_of, number_between, state_of_size}

abbrev pub is_bad : Kind → Word → Bool
is_bad (choice_of words) word = not (list_any (λ w. is_word w word) words)
is_bad (number_between low high) word = is_none (numeral low high word)
is_bad (state_of_size n) word = is_none (state_of n word)
