-- The first fault of lines that are no document. The table has a row for each fault; at a place a line that is
-- not blank has the fault of the first row whose test passes, and none if no test passes. A blank line has none.
--
-- Kinds of words, and forms of lines:
--     Kind                what a word may be: one of some words, a number between two, a state of a size
--     kind_of n a         the kind of the words for an argument of a command, for a grid of size n
--     Form                the kinds of the words after the first: exactly some, or any number of one
--     form_of n c         the form of the lines of a command, for a grid of size n
--     examples            one command for each word that begins the line of a command
--     body_forms n        the first words of the lines of a body, each with its form, for a grid of size n
--     size_form           the form of the first line of the head: one number, the size
--     row_form n          the form of the lines O and X of a grid of size n
--     symbol_words        the symbols of a row of a picture, each as a word
--     form_among rows word   the form of the first of these words that the word is
--     form_at p word      the form of a line at the place p that begins with the word, if one may
--     form_of_line p words   the same of a line with these words
--     arguments_at p words   the words that the form is about: those after the first, or in a row of a picture its
--                            symbols, each as a word
--
-- The tests, each of a line with these arguments if it names nothing else:
--     is_after_end p                   the place is after the end
--     is_bad_count form arguments      the number of words is not that of the form
--     is_bad_by f kind word            the word is not of the kind, and this is its fault
--     has_bad f form arguments         some word has this fault
--     has_repeated arguments           some word stands twice
--     stands_once word arguments       the word is exactly one of them
--     stands_in columns word arguments the word is one of those in these columns
--     is_not_permutation p arguments   the numbers of an O or X line are not all different; a row of a picture has not
--                                      exactly one O and one X, or has one in a column where a row before it has one
--     has_same_square p arguments      on an X line, the row of some column is that of its O
--     has_repeated_state form arguments   two states of a line `chain` are the same
--     fails_to_commute axis g word     the word is a number c, and columns, or rows, c - 1 and c of g do not commute
--     fails_by_words g first word      the first word is that of an axis, and its columns or rows do not commute
--     is_not_commuting p words         a line `cols`, `rows` or `invert` is about such columns or rows
--     has_no_block g c r v             the grid has no block in which the square v is empty; the words are those of its
--                                      first column, its first row and this square
--     is_not_block p words             a line `destab` names no block
--     is_at_limit p words              a line `stab` follows on a grid of the greatest size
--     is_one_too_many p words          a command follows the greatest number of them
--
-- The table, and the first fault:
--     rows_of_form p form arguments words   the rows from the number of words on, for a line of this form
--     table p words                    all rows, in order, for a line with these words at the place p
--     first_passed rows                the fault of the first row whose test passes
--     fault_in_table p words           the fault that the table gives for such a line
--     line_fault p words               the fault of such a line: none if it is blank, and else that in the table
--     rest_fault p lines               the fault that lines at the place p begin with: that of the first of them; if
--                                      there are no lines, `NoEnd` unless the place is after the end
--     HaveFirstFault lines f line      lines with these words have the first fault f at the line of this number,
--                                      counted from 1
--     IsFirstFault text f line         the lines of the text have this first fault at this line
use Rattle.std.specs.Prelude.{◌≡◌, ℕ, ◌+◌, ◌-◌, Bool, true, false, ◌&&◌, ◌||◌, not, List, [], ◌∷◌, ◌++◌, length, map, replicate, drop, is_none, nat_le, slice_index_or, count_by, ◌==◌, if◌then◌else◌}
use Rattle.std.specs.declared.option.Option.{Option}
use Rattle.std.specs.declared.option.Option.TheVariants.{None, Some}
use Rattle.std.specs.List.{list_any, find, zip}
use Rattle.std.specs.Option.{option_map_or}
use Rattle.std.specs.Fmt.{decimal}
use Rattle.state_rank.specs.Bijection.{greatest_size}
use Rattle.torus_geom.specs.Marks.{Marks, size}
use Rattle.grid_moves.specs.Moves.{are_commuting}
use Rattle.grid_moves.specs.declared.turns.Side.TheVariants.{Left}
use Rattle.grid_moves.specs.declared.commutations.Axis.{Axis}
use Rattle.grid_moves.specs.declared.commutations.Axis.TheVariants.{Cols, Rows}
use Rattle.grid_symmetry.specs.declared.symmetries.Symmetry.TheVariants.{Flip, Half, Mirror, Marks as ExchangeMarks}
use Rattle.pentagon_map.specs.declared.Corner.TheVariants.{Over}
use Rattle.stabilise.specs.Stabilised.{is_block}
use Rattle.stabilise.specs.declared.squares.Square.TheVariants.{Nw}
use Rattle.grid_text.specs.Limits.{max_commands}
use Rattle.grid_text.specs.Words.{Word, words_of_lines, symbols, is_blank, is_word, numeral, state_of}
use Rattle.grid_text.specs.Commands.{sign_word, signs, side_word, sides, corner_word, corners, square_word, squares, axis_word, axes, stab_word, destab_word, invert_word, Argument, sign, side, corner, square, axis, number, first_of_two, state, command_row}
use Rattle.grid_text.specs.Script.{grid_in_force}
use Rattle.grid_text.specs.Picture.{empty_symbol}
use Rattle.grid_text.specs.Document.{Place, head, o_line, x_line, picture, body, ended, grid_word, o_word, x_word, picture_word, end_word, Path}
use Rattle.grid_text.specs.declared.commands.Sign.TheVariants.{Plus}
use Rattle.grid_text.specs.declared.commands.Command.{Command}
use Rattle.grid_text.specs.declared.commands.Command.TheVariants as command
use Rattle.grid_text.specs.declared.faults.TextFault.{TextFault}
use Rattle.grid_text.specs.declared.faults.TextFault.TheVariants as fault

-- ---- kinds of words

pub data Kind : Type 0 where
  choice_of : (words : List Word) → Kind
  number_between : (low high : ℕ) → Kind
  state_of_size : (n : ℕ) → Kind

abbrev pub kind_of : ℕ → Argument → Kind
kind_of n (sign v) = choice_of (map sign_word signs)
kind_of n (side v) = choice_of (map side_word sides)
kind_of n (corner v) = choice_of (map corner_word corners)
kind_of n (square v) = choice_of (map square_word squares)
kind_of n (axis v) = choice_of (map axis_word axes)
kind_of n (number c) = number_between 0 (n - 1)
kind_of n (first_of_two c) = number_between 0 (n - 2)
kind_of n (state x) = state_of_size n

-- ---- forms of lines

pub data Form : Type 0 where
  exactly : (kinds : List Kind) → Form
  any_number_of : (kind : Kind) → Form

abbrev pub form_of : ℕ → Command → Form
form_of n (command.Chain z) = any_number_of (state_of_size n)
form_of n c = exactly (map (kind_of n) (command_row c).1)

abbrev pub examples : List Command
examples =
    command.Front ∷ command.Ranks ∷ command.Hat ∷ command.Class Plus ∷ command.Border [] ∷ command.Chain []
    ∷ command.Show ∷ command.Bounds ∷ command.Turn Left ∷ command.Commute Cols 0 Over ∷ command.Commute Rows 0 Over
    ∷ command.Stab 0 Nw ∷ command.Destab 0 0 Nw ∷ command.Invert Cols 0 Over ∷ command.Symm Flip ∷ command.Symm Half
    ∷ command.Symm Mirror ∷ command.Symm ExchangeMarks ∷ command.Coranks ∷ command.Euler ∷ []

abbrev pub body_forms : ℕ → List (Word × Form)
body_forms n = map (λ c. ((command_row c).0, form_of n c)) examples ++ (end_word, exactly []) ∷ []

abbrev pub size_form : Form
size_form = exactly (number_between 2 greatest_size ∷ [])

abbrev pub row_form : ℕ → Form
row_form n = exactly (replicate n (number_between 0 (n - 1)))

abbrev pub symbol_words : List Word
symbol_words = (empty_symbol ∷ []) ∷ o_word ∷ x_word ∷ []

abbrev pub form_among : List (Word × Form) → Word → Option Form
form_among [] word = None
form_among (row ∷ rows) word = if is_word row.0 word then Some row.1 else form_among rows word

abbrev pub form_at : Place → Word → Option Form
form_at head word =
    form_among ((grid_word 1, size_form) ∷ (grid_word 2, size_form) ∷ (picture_word, size_form) ∷ []) word
form_at (o_line v n) word = form_among ((o_word, row_form n) ∷ []) word
form_at (x_line v n o) word = form_among ((x_word, row_form n) ∷ []) word
form_at (picture n o x) word = Some (exactly (replicate n (choice_of symbol_words)))
form_at (body s) word = form_among (body_forms (size (grid_in_force s))) word
form_at (ended s) word = None

-- ---- the tests of the table

abbrev pub is_after_end : Place → Bool
is_after_end (ended s) = true
is_after_end p = false

abbrev pub is_bad_count : Form → List Word → Bool
is_bad_count (exactly kinds) arguments = not (length kinds == length arguments)
is_bad_count (any_number_of kind) arguments = false

abbrev pub is_bad_by : TextFault → Kind → Word → Bool
is_bad_by fault.BadChoice (choice_of words) word = not (list_any (λ w. is_word w word) words)
is_bad_by fault.BadNumber (number_between low high) word = is_none (numeral low high word)
is_bad_by fault.BadState (state_of_size n) word = is_none (state_of n word)
is_bad_by f kind word = false

abbrev pub has_bad : TextFault → Form → List Word → Bool
has_bad f (exactly kinds) arguments = list_any (λ (a : Kind × Word). is_bad_by f a.0 a.1) (zip kinds arguments)
has_bad f (any_number_of kind) arguments = list_any (is_bad_by f kind) arguments

abbrev pub has_repeated : List Word → Bool
has_repeated [] = false
has_repeated (word ∷ words) = list_any (is_word word) words || has_repeated words

abbrev pub stands_once : Word → List Word → Bool
stands_once word arguments = count_by (is_word word) arguments == 1

abbrev pub stands_in : List ℕ → Word → List Word → Bool
stands_in columns word arguments = list_any (λ c. is_word word (slice_index_or arguments c [])) columns

abbrev pub is_not_permutation : Place → List Word → Bool
is_not_permutation (o_line v n) arguments = has_repeated arguments
is_not_permutation (x_line v n o) arguments = has_repeated arguments
is_not_permutation (picture n o x) arguments = not (stands_once o_word arguments)
    || not (stands_once x_word arguments) || stands_in o o_word arguments || stands_in x x_word arguments
is_not_permutation p arguments = false

abbrev pub has_same_square : Place → List Word → Bool
has_same_square (x_line v n o) arguments = list_any (λ (a : ℕ × Word). is_word (decimal a.0) a.1) (zip o arguments)
has_same_square p arguments = false

abbrev pub has_repeated_state : Form → List Word → Bool
has_repeated_state (any_number_of kind) arguments = has_repeated arguments
has_repeated_state (exactly kinds) arguments = false

abbrev pub fails_to_commute : Axis → Marks → Word → Bool
fails_to_commute a g word = option_map_or (λ c. not (are_commuting a g c)) (numeral 0 (size g - 1) word) false

abbrev pub fails_by_words : Marks → Word → Word → Bool
fails_by_words g v c =
    (is_word (axis_word Cols) v && fails_to_commute Cols g c)
    || (is_word (axis_word Rows) v && fails_to_commute Rows g c)

abbrev pub is_not_commuting : Place → List Word → Bool
is_not_commuting (body s) (v ∷ c ∷ w ∷ []) = fails_by_words (grid_in_force s) v c
is_not_commuting (body s) (u ∷ v ∷ c ∷ w ∷ []) = is_word invert_word u && fails_by_words (grid_in_force s) v c
is_not_commuting p words = false

abbrev pub has_no_block : Marks → Word → Word → Word → Bool
has_no_block g c r v = option_map_or (λ d. option_map_or (λ q. option_map_or (λ empty. not (is_block g d q empty))
    (find (λ e. is_word (square_word e) v) squares) false)
    (numeral 0 (size g - 2) r) false) (numeral 0 (size g - 2) c) false

abbrev pub is_not_block : Place → List Word → Bool
is_not_block (body s) (w ∷ c ∷ r ∷ v ∷ []) = is_word destab_word w && has_no_block (grid_in_force s) c r v
is_not_block p words = false

abbrev pub is_at_limit : Place → List Word → Bool
is_at_limit (body s) (word ∷ words) = is_word stab_word word && (size (grid_in_force s) == greatest_size)
is_at_limit p words = false

abbrev pub is_one_too_many : Place → List Word → Bool
is_one_too_many (body s) (word ∷ words) = not (is_word end_word word) && nat_le max_commands (length s.commands)
is_one_too_many p words = false

-- ---- the table

abbrev pub form_of_line : Place → List Word → Option Form
form_of_line p [] = None
form_of_line p (word ∷ words) = form_at p word

abbrev pub arguments_at : Place → List Word → List Word
arguments_at (picture n o x) words = map (λ b. b ∷ []) (symbols words)
arguments_at p words = drop 1 words

abbrev pub rows_of_form : Place → Form → List Word → List Word → List (TextFault × Bool)
rows_of_form p form arguments words =
    (fault.BadCount, is_bad_count form arguments) ∷ (fault.BadChoice, has_bad fault.BadChoice form arguments)
    ∷ (fault.BadNumber, has_bad fault.BadNumber form arguments)
    ∷ (fault.NotPermutation, is_not_permutation p arguments) ∷ (fault.SameSquare, has_same_square p arguments)
    ∷ (fault.BadState, has_bad fault.BadState form arguments)
    ∷ (fault.RepeatedState, has_repeated_state form arguments) ∷ (fault.NotCommuting, is_not_commuting p words)
    ∷ (fault.NotBlock, is_not_block p words) ∷ (fault.SizeLimit, is_at_limit p words)
    ∷ (fault.TooMany, is_one_too_many p words) ∷ []

abbrev pub table : Place → List Word → List (TextFault × Bool)
table p words =
    (fault.AfterEnd, is_after_end p) ∷ (fault.BadWord, is_none (form_of_line p words))
    ∷ option_map_or (λ form. rows_of_form p form (arguments_at p words) words) (form_of_line p words) []

abbrev pub first_passed : List (TextFault × Bool) → Option TextFault
first_passed [] = None
first_passed (row ∷ rows) = if row.1 then Some row.0 else first_passed rows

unfoldable pub fault_in_table : Place → List Word → Option TextFault
fault_in_table p words = first_passed (table p words)

unfoldable pub line_fault : Place → List Word → Option TextFault
line_fault p words = if is_blank words then None else fault_in_table p words

-- ---- the first fault

abbrev pub rest_fault : Place → List (List Word) → Option TextFault
rest_fault p [] = if is_after_end p then None else Some fault.NoEnd
rest_fault p (words ∷ later) = line_fault p words

-- the lines before are allowed and lead to the place where the rest begins with the fault
pub record HaveFirstFault (lines : List (List Word)) (f : TextFault) (line : ℕ) : Type 0 where
  pub before : List (List Word)
  pub rest : List (List Word)
  pub place : Place
  pub split : lines ≡ before ++ rest
  pub path : Path head before place
  pub faulty : rest_fault place rest ≡ Some f
  pub number : line ≡ length before + 1

abbrev pub IsFirstFault : List ℕ → TextFault → ℕ → Type 0
IsFirstFault text f line = HaveFirstFault (words_of_lines text) f line
