-- What the parts of the reader of pictures say.
--     AreColumns n columns      these columns are below n, and no two are the same
--     IsPartOfPicture n o x     these are the columns of the marks of some rows of a picture of size n
--     row_words row             the symbols of a row, each as a word
--     IsOnly p words c          the word in column c passes the test, and no other does
use Rattle.std.specs.Prelude.{◌≡◌, ◌≢◌, ℕ, ◌<◌, Bool, true, false, List, [], ◌∷◌, length, map, slice_index, slice_index_or}
use Rattle.std.specs.List.{All, AllPairs}
use Rattle.grid_text.specs.Words.{Word}

pub record AreColumns (n : ℕ) (columns : List ℕ) : Type 0 where
  pub below : All (λ c. c < n) columns
  pub apart : AllPairs (λ b c. b ≢ c) columns

pub record IsPartOfPicture (n : ℕ) (o x : List ℕ) : Type 0 where
  pub o_columns : AreColumns n o
  pub x_columns : AreColumns n x
  pub same_length : length o ≡ length x
  pub apart : (r : ℕ) → r < length o → slice_index o r ≢ slice_index x r

abbrev pub row_words : List ℕ → List Word
row_words row = map (λ b. b ∷ []) row

pub record IsOnly (p : Word → Bool) (words : List Word) (c : ℕ) : Type 0 where
  pub within : c < length words
  pub here : p (slice_index_or words c []) ≡ true
  pub elsewhere : (i : ℕ) → i < length words → i ≢ c → p (slice_index_or words i []) ≡ false
