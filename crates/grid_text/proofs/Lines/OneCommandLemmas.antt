-- A line is that of one command: the words for choices are different, and so are those of numbers and of states, so
-- that commands whose lines have the same words are one. The line of a command is not blank.
use Rattle.std.proofs.Common.{◌≡◌, ℕ, true, false, List, [], ◌∷◌, map, refl, ap, subst, ◌∙◌, sym, arith}
use Rattle.std.specs.List.Sorted.{IsPermutation}
use Rattle.std.specs.Fmt.{decimal}
use Rattle.std.proofs.lemmas.Fmt.{decimal_injective}
use Rattle.state_rank.specs.States.{state_word}
use Rattle.grid_moves.specs.declared.turns.Side.{Side}
use Rattle.grid_moves.specs.declared.turns.Side.TheVariants.{Left, Right, Up, Down}
use Rattle.grid_moves.specs.declared.commutations.Axis.{Axis}
use Rattle.grid_moves.specs.declared.commutations.Axis.TheVariants.{Cols, Rows}
use Rattle.grid_symmetry.specs.declared.symmetries.Symmetry.{Symmetry}
use Rattle.grid_symmetry.specs.declared.symmetries.Symmetry.TheVariants.{Flip, Half, Mirror, Marks as ExchangeMarks}
use Rattle.pentagon_map.specs.declared.Corner.{Corner}
use Rattle.pentagon_map.specs.declared.Corner.TheVariants.{Over, Under}
use Rattle.grid_text.specs.Words.{Word, is_comment, is_blank, is_word}
use Rattle.stabilise.specs.declared.squares.Square.{Square}
use Rattle.stabilise.specs.declared.squares.Square.TheVariants.{Nw, Ne, Sw, Se}
use Rattle.grid_text.specs.Commands.{sign_word, side_word, corner_word, square_word, axis_word, symmetry_word, stab_word, destab_word, invert_word, state, argument_word, command_row, IsLineOf, IsAllowed}
use Rattle.grid_text.specs.Script.{GridScript, IsScript, grid_in_force}
use Rattle.grid_text.specs.declared.commands.Sign.{Sign}
use Rattle.grid_text.specs.declared.commands.Sign.TheVariants.{Plus, Minus}
use Rattle.grid_text.specs.declared.commands.Command.{Command}
use Rattle.grid_text.specs.declared.commands.Command.TheVariants as command
use Rattle.grid_text.proofs.Lines.WordLemmas.{is_word-same}
use Rattle.state_rank.proofs.WordLemmas.{state_word_injective}
use Rattle.grid_text.proofs.States.ChainLemmas.{one_chain}
use Rattle.grid_text.proofs.Lines.CommandLemmas.{chain_words, n-small}

-- the words for choices are different
sign_apart : (v w : Sign) → is_word (sign_word v) (sign_word w) ≡ true → v ≡ w
sign_apart Plus Plus t = refl
sign_apart Plus Minus t = cc
sign_apart Minus Plus t = cc
sign_apart Minus Minus t = refl

side_apart : (v w : Side) → is_word (side_word v) (side_word w) ≡ true → v ≡ w
side_apart Left Left t = refl
side_apart Left w t = cc
side_apart Right Right t = refl
side_apart Right w t = cc
side_apart Up Up t = refl
side_apart Up w t = cc
side_apart Down Down t = refl
side_apart Down w t = cc

corner_apart : (v w : Corner) → is_word (corner_word v) (corner_word w) ≡ true → v ≡ w
corner_apart Over Over t = refl
corner_apart Over Under t = cc
corner_apart Under Over t = cc
corner_apart Under Under t = refl

square_apart : (v w : Square) → is_word (square_word v) (square_word w) ≡ true → v ≡ w
square_apart Nw Nw t = refl
square_apart Nw w t = cc
square_apart Ne Ne t = refl
square_apart Ne w t = cc
square_apart Sw Sw t = refl
square_apart Sw w t = cc
square_apart Se Se t = refl
square_apart Se w t = cc

symmetry_apart : (v w : Symmetry) → is_word (symmetry_word v) (symmetry_word w) ≡ true → v ≡ w
symmetry_apart Flip Flip t = refl
symmetry_apart Flip w t = cc
symmetry_apart Half Half t = refl
symmetry_apart Half w t = cc
symmetry_apart Mirror Mirror t = refl
symmetry_apart Mirror w t = cc
symmetry_apart ExchangeMarks ExchangeMarks t = refl
symmetry_apart ExchangeMarks w t = cc

axis_apart : (v w : Axis) → is_word (axis_word v) (axis_word w) ≡ true → v ≡ w
axis_apart Cols Cols t = refl
axis_apart Cols Rows t = cc
axis_apart Rows Cols t = cc
axis_apart Rows Rows t = refl

-- one word is the other
same_is_word : (v w : Word) → v ≡ w → is_word v w ≡ true
same_is_word v w e = ap (is_word v) (sym e) ∙ is_word-same v

-- the first words of two lines, and the others
cons-head : (v w : Word) (x y : List Word) → v ∷ x ≡ w ∷ y → v ≡ w
cons-head v w x y e = cc

cons-tail : (v w : Word) (x y : List Word) → v ∷ x ≡ w ∷ y → x ≡ y
cons-tail v w x y e = cc

second_word : {u t v w : Word} {x y : List Word} → u ∷ v ∷ x ≡ t ∷ w ∷ y → v ≡ w
second_word e = cc

third_word : {u t v w p q : Word} {x y : List Word} → u ∷ v ∷ p ∷ x ≡ t ∷ w ∷ q ∷ y → p ≡ q
third_word e = cc

fourth_word : {u t v w p q r m : Word} {x y : List Word} → u ∷ v ∷ p ∷ r ∷ x ≡ t ∷ w ∷ q ∷ m ∷ y → r ≡ m
fourth_word e = cc

-- commands of one first word are one, but for their arguments
abbrev AreAlike : Command → Command → Type 0
AreAlike (command.Class v) (command.Class w) = Unit {0}
AreAlike (command.Border x) (command.Border y) = Unit {0}
AreAlike (command.Chain z) (command.Chain w) = Unit {0}
AreAlike (command.Turn v) (command.Turn w) = Unit {0}
AreAlike (command.Commute i c v) (command.Commute j d w) = Unit {0}
AreAlike (command.Stab c v) (command.Stab d w) = Unit {0}
AreAlike (command.Destab c r v) (command.Destab d q w) = Unit {0}
AreAlike (command.Invert i c v) (command.Invert j d w) = Unit {0}
AreAlike (command.Symm v) (command.Symm w) = Unit {0}
AreAlike c d = c ≡ d

alike : (c d : Command) → is_word (command_row c).0 (command_row d).0 ≡ true → AreAlike c d
alike (command.Class v) (command.Class w) t = tt
alike (command.Border x) (command.Border y) t = tt
alike (command.Chain z) (command.Chain w) t = tt
alike (command.Turn v) (command.Turn w) t = tt
alike (command.Commute i c v) (command.Commute j d w) t = tt
alike (command.Stab c v) (command.Stab d w) t = tt
alike (command.Destab c r v) (command.Destab d q w) t = tt
alike (command.Invert i c v) (command.Invert j d w) t = tt
alike (command.Symm v) (command.Symm w) t = tt
alike (command.Symm Flip) (command.Commute Cols d w) t = cc
alike (command.Symm Flip) (command.Commute Rows d w) t = cc
alike (command.Symm Half) (command.Commute Cols d w) t = cc
alike (command.Symm Half) (command.Commute Rows d w) t = cc
alike (command.Symm Mirror) (command.Commute Cols d w) t = cc
alike (command.Symm Mirror) (command.Commute Rows d w) t = cc
alike (command.Symm ExchangeMarks) (command.Commute Cols d w) t = cc
alike (command.Symm ExchangeMarks) (command.Commute Rows d w) t = cc
alike (command.Commute Cols d w) (command.Symm Flip) t = cc
alike (command.Commute Rows d w) (command.Symm Flip) t = cc
alike (command.Commute Cols d w) (command.Symm Half) t = cc
alike (command.Commute Rows d w) (command.Symm Half) t = cc
alike (command.Commute Cols d w) (command.Symm Mirror) t = cc
alike (command.Commute Rows d w) (command.Symm Mirror) t = cc
alike (command.Commute Cols d w) (command.Symm ExchangeMarks) t = cc
alike (command.Commute Rows d w) (command.Symm ExchangeMarks) t = cc
alike (command.Commute Cols c v) d t = cc
alike (command.Commute Rows c v) d t = cc
alike c (command.Commute Cols d w) t = cc
alike c (command.Commute Rows d w) t = cc
alike (command.Symm Flip) d t = cc
alike (command.Symm Half) d t = cc
alike (command.Symm Mirror) d t = cc
alike (command.Symm ExchangeMarks) d t = cc
alike c (command.Symm Flip) t = cc
alike c (command.Symm Half) t = cc
alike c (command.Symm Mirror) t = cc
alike c (command.Symm ExchangeMarks) t = cc
alike c d t = cc

-- the first word of a line is that of the command
first_of_line : (words : List Word) (c : Command) → IsLineOf words c
    → (rest : List Word) × (words ≡ (command_row c).0 ∷ rest)
first_of_line words (command.Chain z) l = (map argument_word (map state l.0), l.2)
first_of_line words c l = (map argument_word (command_row c).1, l)

-- the line of a command is not blank
pub command-filled : (words : List Word) (c : Command) → IsLineOf words c → is_blank words ≡ false
command-filled words c l = ap is_blank (first_of_line words c l).1 ∙ first_filled c
  where
    first_filled : (c : Command) → is_comment (command_row c).0 ≡ false
    first_filled (command.Commute Cols c v) = refl
    first_filled (command.Commute Rows c v) = refl
    first_filled (command.Symm Flip) = refl
    first_filled (command.Symm Half) = refl
    first_filled (command.Symm Mirror) = refl
    first_filled (command.Symm ExchangeMarks) = refl
    first_filled c = refl

-- commands of one line have one first word
alike_of_line : (words : List Word) (c d : Command) → IsLineOf words c → IsLineOf words d → AreAlike c d
alike_of_line words c d l m =
    let first = first_of_line words c l in
    let other = first_of_line words d m in
    let whole : (command_row c).0 ∷ first.0 ≡ (command_row d).0 ∷ other.0 = sym first.1 ∙ other.1 in
    alike c d (same_is_word (command_row c).0 (command_row d).0
    (cons-head (command_row c).0 (command_row d).0 first.0 other.0 whole))

-- the states of one list of words are one list
same_states : (x y : List (List ℕ)) → map state_word x ≡ map state_word y → x ≡ y
same_states [] [] e = refl
same_states [] (b ∷ y) e = cc
same_states (a ∷ x) [] e = cc
same_states (a ∷ x) (b ∷ y) e =
    let heads : state_word a ≡ state_word b = cc in
    let tails : map state_word x ≡ map state_word y = cc in
    (λ i. state_word_injective a b heads i ∷ same_states x y tails i)

-- a line is that of one command
pub one_command : (s : GridScript) → IsScript s → (words : List Word) (c d : Command) → IsLineOf words c
    → IsAllowed (grid_in_force s) c → IsLineOf words d → IsAllowed (grid_in_force s) d → c ≡ d
one_command s h words (command.Class v) (command.Class w) l a m b =
    ap command.Class (sign_apart v w (same_is_word _ _ (second_word (sym l ∙ m))))
one_command s h words (command.Border x) (command.Border y) l a m b =
    ap command.Border (state_word_injective x y (second_word (sym l ∙ m)))
one_command s h words (command.Turn v) (command.Turn w) l a m b =
    ap command.Turn (side_apart v w (same_is_word _ _ (second_word (sym l ∙ m))))
one_command s h words (command.Chain z) (command.Chain w) l a m b =
    let same = same_states l.0 m.0 (cons-tail _ _ _ _ (sym (chain_words l.0) ∙ sym l.2 ∙ m.2 ∙ chain_words m.0)) in
    ap command.Chain (one_chain m.0 z w (subst (λ x. IsPermutation x z) same l.1) m.1 a.1 b.1)
one_command s h words (command.Commute i c v) (command.Commute j d w) l a m b =
    let whole : axis_word i ∷ decimal c ∷ corner_word v ∷ [] ≡ axis_word j ∷ decimal d ∷ corner_word w ∷ [] =
    sym l ∙ m in
    let small = n-small s h in
    let below = a.0 in
    let below' = b.0 in
    let axis = axis_apart i j (same_is_word _ _ (cons-head _ _ _ _ whole)) in
    let number = decimal_injective c d (omega arith) (omega arith) (second_word whole) in
    let corner = corner_apart v w (same_is_word _ _ (third_word whole)) in
    (λ k. command.Commute (axis k) (number k) (corner k))
one_command s h words (command.Stab c v) (command.Stab d w) l a m b =
    let whole : stab_word ∷ decimal c ∷ square_word v ∷ [] ≡ stab_word ∷ decimal d ∷ square_word w ∷ [] = sym l ∙ m in
    let small = n-small s h in
    let below = a.0 in
    let below' = b.0 in
    let number = decimal_injective c d (omega arith) (omega arith) (second_word whole) in
    let square = square_apart v w (same_is_word _ _ (third_word whole)) in
    (λ k. command.Stab (number k) (square k))
one_command s h words (command.Destab c r v) (command.Destab d q w) l a m b =
    let whole : destab_word ∷ decimal c ∷ decimal r ∷ square_word v ∷ []
    ≡ destab_word ∷ decimal d ∷ decimal q ∷ square_word w ∷ [] = sym l ∙ m in
    let small = n-small s h in
    let column_below = a.0 in
    let row_below = a.1 in
    let column_below' = b.0 in
    let row_below' = b.1 in
    let column = decimal_injective c d (omega arith) (omega arith) (second_word whole) in
    let row = decimal_injective r q (omega arith) (omega arith) (third_word whole) in
    let square = square_apart v w (same_is_word _ _ (fourth_word whole)) in
    (λ k. command.Destab (column k) (row k) (square k))
one_command s h words (command.Invert i c v) (command.Invert j d w) l a m b =
    let whole : invert_word ∷ axis_word i ∷ decimal c ∷ corner_word v ∷ []
    ≡ invert_word ∷ axis_word j ∷ decimal d ∷ corner_word w ∷ [] = sym l ∙ m in
    let small = n-small s h in
    let below = a.0 in
    let below' = b.0 in
    let axis = axis_apart i j (same_is_word _ _ (second_word whole)) in
    let number = decimal_injective c d (omega arith) (omega arith) (third_word whole) in
    let corner = corner_apart v w (same_is_word _ _ (fourth_word whole)) in
    (λ k. command.Invert (axis k) (number k) (corner k))
one_command s h words (command.Symm v) (command.Symm w) l a m b =
    ap command.Symm (symmetry_apart v w (same_is_word _ _ (cons-head _ _ _ _ (sym l ∙ m))))
one_command s h words c d l a m b = alike_of_line words c d l m
