-- A text is cut where a line ends.
--     IsTakenPart ends bytes part after   the part stands first: it ends at the first byte that is one of `ends`; or it
--                                         is all bytes, which have none
--     EndsLine bytes                      the bytes end with a line feed
--     HasFirstLine text line after        the text is one line and the bytes after it; the line ends with a line feed
--                                         if bytes follow
--     IsCut text rest line                lines that are not `next` stand before the rest, which begins with the line
--                                         of this number
--     AreParts text first second          the text has a line `next`, and these are the texts of the lines before the
--                                         first such line and after it
--     IsPartEnd part before e             a part of a text that begins after this number of lines is no document for
--                                         this reason
use Rattle.std.specs.Prelude.{◌≡◌, ◌⊎◌, ℕ, ◌+◌, ◌<◌, ◌≤◌, true, false, List, [], ◌∷◌, ◌++◌, length, codes}
use Rattle.std.specs.List.{All}
use Rattle.std.specs.declared.option.Option.TheVariants.{Some}
use Rattle.text_lines.specs.Parts.{is_among, HasNone, IsFirstPart}
use Rattle.grid_text.specs.Words.{lines_of, words_of_lines}
use Rattle.grid_text.specs.Faults.{IsFirstFault}
use Rattle.grid_text.specs.Pairs.{is_next, first_part, second_part}
use Rattle.grid_text.specs.declared.pairs.PairEnd.{PairEnd}
use Rattle.grid_text.specs.declared.pairs.PairEnd.TheVariants.{Refused, NoNext, NoMemory}

abbrev pub IsTakenPart : List ℕ → List ℕ → List ℕ → List ℕ → Type 0
IsTakenPart ends bytes part after =
    IsFirstPart ends bytes part after ⊎ ((part ≡ bytes) × (after ≡ []) × (0 < length bytes) × HasNone ends bytes)

abbrev pub EndsLine : List ℕ → Type 0
EndsLine bytes = (line : List ℕ) × (end : ℕ) × (is_among (codes "\n") end ≡ true) × (bytes ≡ line ++ end ∷ [])

pub record HasFirstLine (text line after : List ℕ) : Type 0 where
  pub taken : List ℕ
  pub split : text ≡ taken ++ after
  pub one : lines_of taken ≡ line ∷ []
  pub ends : (after ≡ []) ⊎ EndsLine taken

pub record IsCut (text rest : List ℕ) (line : ℕ) : Type 0 where
  pub front : List ℕ
  pub split : text ≡ front ++ rest
  pub lines : words_of_lines text ≡ words_of_lines front ++ words_of_lines rest
  pub no_next : All (λ words. is_next words ≡ false) (words_of_lines front)
  pub number : line ≡ length (words_of_lines front) + 1
  pub room : length (words_of_lines front) + length rest ≤ length text
  pub ends : (front ≡ []) ⊎ ((rest ≡ []) ⊎ EndsLine front)

pub record AreParts (text first second : List ℕ) (line : ℕ) : Type 0 where
  pub before : words_of_lines first ≡ first_part (words_of_lines text)
  pub after : second_part (words_of_lines text) ≡ Some (words_of_lines second)
  pub number : line ≡ length (words_of_lines first) + 1
  pub shorter : length first + length second ≤ length text

abbrev pub IsPartEnd : List ℕ → ℕ → PairEnd → Type 0
IsPartEnd part before (Refused f line) = (number : ℕ) × IsFirstFault part f number × (line ≡ before + number)
IsPartEnd part before (NoNext line) = ⊥
IsPartEnd part before NoMemory = Unit {0}
