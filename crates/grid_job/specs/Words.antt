-- The words after the program's name, for `make`.
--     word_at ws k                  the word at place k, from 0 on; no bytes if there is none
--     flag_word flag                the word of an option
--     least_value flag, greatest_value flag   the least and the greatest value of an option
--     IsOptionAt ws k flag v next   the option and its value v stand at the place k, in one word `FLAG=V` or in two
--                                   words `FLAG` `V`, the value in decimal; the words after them begin at `next`
--     AreOptions ws f a g b         the words after the first are the option f with the value a, and then g with b
--     IsMake ws size seed           the words are `make` and its two options, in either order
use Rattle.std.specs.Prelude.{◌≡◌, ◌⊎◌, ℕ, ◌+◌, ◌<◌, ◌≤◌, List, [], ◌++◌, length, slice_index_or, codes}
use Rattle.std.specs.Fmt.{decimal}
use Rattle.state_rank.specs.Bijection.{greatest_size}
use Rattle.grid_job.specs.declared.words.Flag.{Flag}
use Rattle.grid_job.specs.declared.words.Flag.TheVariants.{Size, Seed}

abbrev pub word_at : List (List ℕ) → ℕ → List ℕ
word_at ws k = slice_index_or ws k []

abbrev pub flag_word : Flag → List ℕ
flag_word Size = codes "--size"
flag_word Seed = codes "--seed"

abbrev pub least_value : Flag → ℕ
least_value Size = 2
least_value Seed = 0

abbrev pub greatest_value : Flag → ℕ
greatest_value Size = greatest_size
greatest_value Seed = 2147483647

pub record IsOneWord (ws : List (List ℕ)) (k : ℕ) (flag : Flag) (v next : ℕ) : Type 0 where
  pub within : k < length ws
  pub word : word_at ws k ≡ flag_word flag ++ codes "=" ++ decimal v
  pub after : next ≡ k + 1

pub record IsTwoWords (ws : List (List ℕ)) (k : ℕ) (flag : Flag) (v next : ℕ) : Type 0 where
  pub within : k + 1 < length ws
  pub first : word_at ws k ≡ flag_word flag
  pub second : word_at ws (k + 1) ≡ decimal v
  pub after : next ≡ k + 2

pub record IsOptionAt (ws : List (List ℕ)) (k : ℕ) (flag : Flag) (v next : ℕ) : Type 0 where
  pub low : least_value flag ≤ v
  pub high : v ≤ greatest_value flag
  pub words : IsOneWord ws k flag v next ⊎ IsTwoWords ws k flag v next

pub record AreOptions (ws : List (List ℕ)) (f : Flag) (a : ℕ) (g : Flag) (b : ℕ) : Type 0 where
  pub between : ℕ
  pub first : IsOptionAt ws 1 f a between
  pub second : IsOptionAt ws between g b (length ws)

pub record IsMake (ws : List (List ℕ)) (size seed : ℕ) : Type 0 where
  pub command : word_at ws 0 ≡ codes "make"
  pub options : AreOptions ws Size size Seed seed ⊎ AreOptions ws Seed seed Size size
