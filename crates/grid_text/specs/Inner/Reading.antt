-- What the parts of the reader of documents say of lines.
--     example k                   a command whose lines begin with the keyword, but for `end`
--     keyword_word k              the word of a keyword
--     keyword_form n k            the form of the lines that begin with it, for a grid of size n
--     is_empty_form form          the form of a line of one word
--     stands_alone k              no word may follow the keyword
--     IsPlace p                   what is known of a place that lines lead to
--     IsReadLine s words line     the words are those of the command, which may stand there, or of `end`
--     IsRead s words r            what a line of the body of a script is: a command that may stand there, or
--                                 `end`, or a line with a fault before `TooMany`
--     IsRowPlace letter n p       a line of n rows that begins with the letter stands at the place
--     AreNumerals n rows words    the words are the decimal forms of rows below n
use Rattle.std.specs.Prelude.{◌≡◌, ℕ, ◌<◌, Bool, true, false, List, [], ◌∷◌, length, map}
use Rattle.std.specs.List.{All}
use Rattle.std.specs.Fmt.{decimal}
use Rattle.std.specs.Option.{option_map_or}
use Rattle.std.specs.declared.option.Option.{Option}
use Rattle.std.specs.declared.option.Option.TheVariants.{None, Some}
use Rattle.std.specs.declared.result.Result.{Result}
use Rattle.std.specs.declared.result.Result.TheVariants.{Ok, Err}
use Rattle.state_rank.specs.Bijection.{IsSize, IsBijection}
use Rattle.grid_text.specs.Words.{Word}
use Rattle.grid_text.specs.Commands.{command_row, IsLineOf, IsAllowed}
use Rattle.grid_text.specs.Script.{GridScript, IsVersion, IsScript, grid_in_force}
use Rattle.grid_text.specs.Document.{Place, head, o_line, x_line, picture, body, ended, end_word}
use Rattle.grid_text.specs.Faults.{Form, exactly, form_of, is_after_end, form_at, form_among, row_form, arguments_at, is_not_permutation, has_repeated, fault_in_table}
use Rattle.grid_text.specs.Inner.Pictures.{IsPartOfPicture}
use Rattle.grid_text.specs.declared.commands.Command.{Command}
use Rattle.grid_text.specs.declared.commands.Command.TheVariants as command
use Rattle.grid_text.specs.declared.commands.Sign.TheVariants.{Plus}
use Rattle.grid_moves.specs.declared.turns.Side.TheVariants.{Left}
use Rattle.grid_moves.specs.declared.commutations.Axis.TheVariants.{Cols, Rows}
use Rattle.grid_symmetry.specs.declared.symmetries.Symmetry.TheVariants.{Flip, Half, Mirror, Marks as ExchangeMarks}
use Rattle.pentagon_map.specs.declared.Corner.TheVariants.{Over}
use Rattle.stabilise.specs.declared.squares.Square.TheVariants.{Nw}
use Rattle.grid_text.specs.declared.faults.TextFault.{TextFault}
use Rattle.grid_text.specs.declared.keywords.Keyword.{Keyword}
use Rattle.grid_text.specs.declared.keywords.Keyword.TheVariants as keyword

abbrev pub example : Keyword → Option Command
example keyword.Front = Some command.Front
example keyword.Ranks = Some command.Ranks
example keyword.Hat = Some command.Hat
example keyword.Class = Some (command.Class Plus)
example keyword.Border = Some (command.Border [])
example keyword.Chain = Some (command.Chain [])
example keyword.Show = Some command.Show
example keyword.Bounds = Some command.Bounds
example keyword.Turn = Some (command.Turn Left)
example keyword.Cols = Some (command.Commute Cols 0 Over)
example keyword.Rows = Some (command.Commute Rows 0 Over)
example keyword.Stab = Some (command.Stab 0 Nw)
example keyword.Destab = Some (command.Destab 0 0 Nw)
example keyword.Invert = Some (command.Invert Cols 0 Over)
example keyword.Flip = Some (command.Symm Flip)
example keyword.Half = Some (command.Symm Half)
example keyword.Mirror = Some (command.Symm Mirror)
example keyword.Marks = Some (command.Symm ExchangeMarks)
example keyword.Coranks = Some command.Coranks
example keyword.Euler = Some command.Euler
example keyword.End = None

abbrev pub keyword_word : Keyword → Word
keyword_word k = option_map_or (λ c. (command_row c).0) (example k) end_word

abbrev pub keyword_form : ℕ → Keyword → Form
keyword_form n k = option_map_or (form_of n) (example k) (exactly [])

abbrev pub is_empty_form : Form → Bool
is_empty_form (exactly []) = true
is_empty_form form = false

abbrev pub stands_alone : Keyword → Bool
stands_alone k = is_empty_form (keyword_form 0 k)

abbrev pub IsPlace : Place → Type 0
IsPlace head = Unit {0}
IsPlace (o_line v n) = IsVersion v × IsSize n
IsPlace (x_line v n o) = IsVersion v × IsSize n × IsBijection n o
IsPlace (picture n o x) = IsSize n × IsPartOfPicture n o x × (length o < n)
IsPlace (body s) = IsScript s
IsPlace (ended s) = IsScript s

abbrev pub IsReadLine : GridScript → List Word → Option Command → Type 0
IsReadLine s words None = words ≡ end_word ∷ []
IsReadLine s words (Some c) = IsLineOf words c × IsAllowed (grid_in_force s) c

abbrev pub IsRead : GridScript → List Word → Result (Option Command) TextFault → Type 0
IsRead s words (Ok line) = IsReadLine s words line
IsRead s words (Err f) = fault_in_table (body s) words ≡ Some f

pub record IsRowPlace (letter : Word) (n : ℕ) (p : Place) : Type 0 where
  pub not_ended : is_after_end p ≡ false
  pub form : (word : Word) → form_at p word ≡ form_among ((letter, row_form n) ∷ []) word
  pub arguments : (word : Word) (rest : List Word) → arguments_at p (word ∷ rest) ≡ rest
  pub permutation : (arguments : List Word) → is_not_permutation p arguments ≡ has_repeated arguments

pub record AreNumerals (n : ℕ) (rows : List ℕ) (words : List Word) : Type 0 where
  pub forms : words ≡ map decimal rows
  pub below : All (λ r. r < n) rows
