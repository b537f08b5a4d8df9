-- The commands of a document: their words, what they ask of the grid that stands there, and what they make
-- of it. Each command is said once, in the table `command_row`.
--     sign_word, side_word, corner_word, axis_word   the word for each sign, side, corner and axis
--     square_word                the word for each square of a block of two columns and two rows
--     symmetry_word              the word for each symmetry
--     signs, sides, corners, squares, axes   all of them
--     stab_word, destab_word     the first words of the commands of stabilisation
--     invert_word                the first word of the command for the way there and back across a commutation
--     Argument                   what a word of a command after its first stands for; a number is that of a column or
--                                row, or of the first of two neighbouring ones
--     argument_word a            the word for it
--     command_row c              the row of a command: its first word, and its arguments
--     command_words c            the words of a command
--     IsLineOf words c           the words of a line are the command's
--     IsStateOf g x              x is a state of the grid g
--     IsAllowed g c              the command may stand where the grid g is in force
--     grid_after g c             the grid in force after it
use Rattle.std.specs.Prelude.{◌≡◌, ℕ, ◌+◌, ◌<◌, true, List, [], ◌∷◌, length, map, codes}
use Rattle.std.specs.List.{All}
use Rattle.std.specs.List.Sorted.{IsPermutation}
use Rattle.std.specs.Fmt.{decimal}
use Rattle.state_rank.specs.Bijection.{greatest_size}
use Rattle.state_rank.specs.States.{IsState, state_word}
use Rattle.torus_geom.specs.Marks.{Marks, size}
use Rattle.grid_moves.specs.Moves.{turned, are_commuting, swapped}
use Rattle.grid_moves.specs.declared.turns.Side.{Side}
use Rattle.grid_moves.specs.declared.turns.Side.TheVariants.{Left, Right, Up, Down}
use Rattle.grid_moves.specs.declared.commutations.Axis.{Axis}
use Rattle.grid_moves.specs.declared.commutations.Axis.TheVariants.{Cols, Rows}
use Rattle.grid_symmetry.specs.Symmetries.{symmetric}
use Rattle.grid_symmetry.specs.declared.symmetries.Symmetry.{Symmetry}
use Rattle.grid_symmetry.specs.declared.symmetries.Symmetry.TheVariants.{Flip, Half, Mirror, Marks as ExchangeMarks}
use Rattle.pentagon_map.specs.declared.Corner.{Corner}
use Rattle.pentagon_map.specs.declared.Corner.TheVariants.{Over, Under}
use Rattle.stabilise.specs.Stabilised.{stabilised, is_block, destabilised}
use Rattle.stabilise.specs.declared.squares.Square.{Square}
use Rattle.stabilise.specs.declared.squares.Square.TheVariants.{Nw, Ne, Sw, Se}
use Rattle.grid_text.specs.Words.{Word}
use Rattle.grid_text.specs.States.{AreAscending}
use Rattle.grid_text.specs.declared.commands.Sign.{Sign}
use Rattle.grid_text.specs.declared.commands.Sign.TheVariants.{Plus, Minus}
use Rattle.grid_text.specs.declared.commands.Command.{Command}
use Rattle.grid_text.specs.declared.commands.Command.TheVariants as command

-- ---- choices

abbrev pub sign_word : Sign → Word
sign_word Plus = codes "+"
sign_word Minus = codes "-"

abbrev pub signs : List Sign
signs = Plus ∷ Minus ∷ []

abbrev pub side_word : Side → Word
side_word Left = codes "left"
side_word Right = codes "right"
side_word Up = codes "up"
side_word Down = codes "down"

abbrev pub sides : List Side
sides = Left ∷ Right ∷ Up ∷ Down ∷ []

abbrev pub corner_word : Corner → Word
corner_word Over = codes "over"
corner_word Under = codes "under"

abbrev pub corners : List Corner
corners = Over ∷ Under ∷ []

abbrev pub axis_word : Axis → Word
axis_word Cols = codes "cols"
axis_word Rows = codes "rows"

abbrev pub square_word : Square → Word
square_word Nw = codes "nw"
square_word Ne = codes "ne"
square_word Sw = codes "sw"
square_word Se = codes "se"

abbrev pub squares : List Square
squares = Nw ∷ Ne ∷ Sw ∷ Se ∷ []

abbrev pub axes : List Axis
axes = Cols ∷ Rows ∷ []

abbrev pub symmetry_word : Symmetry → Word
symmetry_word Flip = codes "flip"
symmetry_word Half = codes "half"
symmetry_word Mirror = codes "mirror"
symmetry_word ExchangeMarks = codes "marks"

-- ---- the words of commands

abbrev pub stab_word : Word
stab_word = codes "stab"

abbrev pub destab_word : Word
destab_word = codes "destab"

abbrev pub invert_word : Word
invert_word = codes "invert"

pub data Argument : Type 0 where
  sign : (v : Sign) → Argument
  side : (v : Side) → Argument
  corner : (v : Corner) → Argument
  square : (v : Square) → Argument
  axis : (v : Axis) → Argument
  number : (c : ℕ) → Argument
  first_of_two : (c : ℕ) → Argument
  state : (x : List ℕ) → Argument

abbrev pub argument_word : Argument → Word
argument_word (sign v) = sign_word v
argument_word (side v) = side_word v
argument_word (corner v) = corner_word v
argument_word (square v) = square_word v
argument_word (axis v) = axis_word v
argument_word (number c) = decimal c
argument_word (first_of_two c) = decimal c
argument_word (state x) = state_word x

-- the table of commands
abbrev pub command_row : Command → Word × List Argument
command_row command.Front = (codes "front", [])
command_row command.Ranks = (codes "ranks", [])
command_row command.Hat = (codes "hat", [])
command_row (command.Class v) = (codes "class", sign v ∷ [])
command_row (command.Border x) = (codes "border", state x ∷ [])
command_row (command.Chain z) = (codes "chain", map state z)
command_row command.Show = (codes "show", [])
command_row command.Bounds = (codes "bounds", [])
command_row (command.Turn v) = (codes "turn", side v ∷ [])
command_row (command.Commute i c v) = (axis_word i, number c ∷ corner v ∷ [])
command_row (command.Stab c v) = (stab_word, number c ∷ square v ∷ [])
command_row (command.Destab c r v) = (destab_word, first_of_two c ∷ first_of_two r ∷ square v ∷ [])
command_row (command.Invert i c v) = (invert_word, axis i ∷ number c ∷ corner v ∷ [])
command_row (command.Symm s) = (symmetry_word s, [])
command_row command.Coranks = (codes "coranks", [])
command_row command.Euler = (codes "euler", [])

abbrev pub command_words : Command → List Word
command_words c = (command_row c).0 ∷ map argument_word (command_row c).1

-- the states of a chain may stand in any order; all other words stand as in the table
abbrev pub IsLineOf : List Word → Command → Type 0
IsLineOf ws (command.Chain z) = (xs : List (List ℕ)) × IsPermutation xs z × (ws ≡ command_words (command.Chain xs))
IsLineOf words c = words ≡ command_words c

-- ---- what commands ask and make

pub record IsStateOf (g : Marks) (x : List ℕ) : Type 0 where
  pub state : IsState x
  pub same_size : length x ≡ size g

-- a command that is not among these may stand anywhere
abbrev pub IsAllowed : Marks → Command → Type 0
IsAllowed g (command.Border x) = IsStateOf g x
IsAllowed g (command.Chain z) = All (IsStateOf g) z × AreAscending z
IsAllowed g (command.Commute i c v) = (c < size g) × (are_commuting i g c ≡ true)
IsAllowed g (command.Stab c v) = (c < size g) × (size g < greatest_size)
IsAllowed g (command.Destab c r v) = (c + 1 < size g) × (r + 1 < size g) × (is_block g c r v ≡ true)
IsAllowed g (command.Invert i c v) = (c < size g) × (are_commuting i g c ≡ true)
IsAllowed g c = Unit {0}

-- one that is not among these leaves the grid as it is
abbrev pub grid_after : Marks → Command → Marks
grid_after g (command.Turn v) = turned v g
grid_after g (command.Commute i c v) = swapped i g c
grid_after g (command.Stab c v) = stabilised g c v
grid_after g (command.Destab c r v) = destabilised g c r v
grid_after g (command.Symm s) = symmetric s g
grid_after g c = g
