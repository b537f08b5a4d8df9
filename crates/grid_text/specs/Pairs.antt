-- Texts of two documents, one after the other: a line whose only word is `next` parts them.
--     next_word                      its word
--     is_next words                  a line with these words is such a line
--     first_part lines               the lines before the first such line, all if there is none
--     second_part lines              the lines after it, if there is one
--     IsPair text s t                the two parts are documents, the first of the script s, the second of t
--     PairFault                      what a pair of documents may lack: a part has a fault of a document, or there is
--                                    no line `next`
--     pair_fault_word f              the word for it in a refusal
--     HaveSecondFault lines f line   the first part is a document, and the second has the first fault f; its line is
--                                    counted from the first of all lines
--     HaveNoNext lines line          there is no such line, and the lines are a document; the number is one more than
--                                    that of the last line
--     IsFirstPairFault text f line   what the text is refused for: the first fault of the first part; or that there
--                                    is no line `next`; or the first fault of the second part
--     IsPairEnd text e               the text is refused for what e names, at the line that it names; or e is that
--                                    memory ran out, which may be so of any text
use Rattle.std.specs.Prelude.{◌≡◌, ◌⊎◌, ℕ, ◌+◌, Bool, false, List, [], ◌∷◌, length, codes, if◌then◌else◌}
use Rattle.std.specs.declared.option.Option.{Option}
use Rattle.std.specs.declared.option.Option.TheVariants.{None, Some}
use Rattle.grid_text.specs.Words.{Word, words_of_lines, is_word}
use Rattle.grid_text.specs.Script.{GridScript}
use Rattle.grid_text.specs.Document.{head, ended, Path}
use Rattle.grid_text.specs.Faults.{HaveFirstFault}
use Rattle.grid_text.specs.FaultWords.{fault_word}
use Rattle.grid_text.specs.declared.faults.TextFault.{TextFault}
use Rattle.grid_text.specs.declared.pairs.PairEnd.{PairEnd}
use Rattle.grid_text.specs.declared.pairs.PairEnd.TheVariants.{Refused, NoNext, NoMemory}

abbrev pub next_word : Word
next_word = codes "next"

abbrev pub is_next : List Word → Bool
is_next (word ∷ []) = is_word next_word word
is_next words = false

abbrev pub first_part : List (List Word) → List (List Word)
first_part [] = []
first_part (words ∷ lines) = if is_next words then [] else words ∷ first_part lines

abbrev pub second_part : List (List Word) → Option (List (List Word))
second_part [] = None
second_part (words ∷ lines) = if is_next words then Some lines else second_part lines

pub record IsPair (text : List ℕ) (s t : GridScript) : Type 0 where
  pub first : Path head (first_part (words_of_lines text)) (ended s)
  pub later : List (List Word)
  pub parted : second_part (words_of_lines text) ≡ Some later
  pub second : Path head later (ended t)

pub data PairFault : Type 0 where
  in_part : (f : TextFault) → PairFault
  no_next : PairFault

abbrev pub pair_fault_word : PairFault → Word
pair_fault_word (in_part f) = fault_word f
pair_fault_word no_next = codes "NoNext"

pub record HaveSecondFault (lines : List (List Word)) (f : TextFault) (line : ℕ) : Type 0 where
  pub script : GridScript
  pub first : Path head (first_part lines) (ended script)
  pub later : List (List Word)
  pub parted : second_part lines ≡ Some later
  pub number : ℕ
  pub faulty : HaveFirstFault later f number
  pub counted : line ≡ length (first_part lines) + 1 + number

pub record HaveNoNext (lines : List (List Word)) (line : ℕ) : Type 0 where
  pub script : GridScript
  pub document : Path head lines (ended script)
  pub none : second_part lines ≡ None
  pub counted : line ≡ length lines + 1

abbrev pub IsFirstPairFault : List ℕ → PairFault → ℕ → Type 0
IsFirstPairFault text (in_part f) line = HaveFirstFault (first_part (words_of_lines text)) f line
    ⊎ HaveSecondFault (words_of_lines text) f line
IsFirstPairFault text no_next line = HaveNoNext (words_of_lines text) line

abbrev pub IsPairEnd : List ℕ → PairEnd → Type 0
IsPairEnd text (Refused f line) = IsFirstPairFault text (in_part f) line
IsPairEnd text (NoNext line) = IsFirstPairFault text no_next line
IsPairEnd text NoMemory = Unit {0}
