-- The lines of commands. A line with a command that may stand there has no fault before the last row of the table:
-- its words are good for their kinds, which are those of the table, if it exchanges columns or rows they commute,
-- if it undoes a stabilisation there is the block, and if it stabilises there is room. No such line is `end`.
use Rattle.std.proofs.Common.{◌≡◌, ℕ, ◌+◌, ◌-◌, ◌<◌, ◌^◌, true, false, not, ◌||◌, ◌&&◌, cond, List, [], ◌∷◌, length, map, None, Some, refl, ap, subst, ◌∙◌, sym, arith, true≢false}
use Rattle.std.specs.Prelude.{nat_le, ◌==◌}
use Rattle.std.specs.Option.{option_map_or}
use Rattle.std.specs.List.{list_any, Contains, All}
use Rattle.std.specs.Fmt.{decimal}
use Rattle.std.proofs.lemmas.List.Sorted.{All-permutation, IsPermutation-sym}
use Rattle.std.proofs.lemmas.List.Elements.{All-contains, All-head, All-tail}
use Rattle.state_rank.specs.States.{state_word}
use Rattle.state_rank.specs.Bijection.{IsBijection, greatest_size}
use Rattle.state_rank.proofs.MemberLemmas.{member_head, member_tail}
use Rattle.torus_geom.specs.Marks.{Marks, size}
use Rattle.grid_moves.specs.Moves.{are_commuting}
use Rattle.grid_moves.specs.declared.commutations.Axis.{Axis}
use Rattle.grid_moves.specs.declared.commutations.Axis.TheVariants.{Cols, Rows}
use Rattle.grid_symmetry.specs.declared.symmetries.Symmetry.{Symmetry}
use Rattle.grid_symmetry.specs.declared.symmetries.Symmetry.TheVariants.{Flip, Half, Mirror, Marks as ExchangeMarks}
use Rattle.grid_text.specs.Limits.{max_commands}
use Rattle.grid_text.specs.Words.{Word, is_word}
use Rattle.stabilise.specs.Stabilised.{is_block}
use Rattle.stabilise.specs.declared.squares.Square.{Square}
use Rattle.grid_text.specs.Commands.{square_word, symmetry_word, stab_word, state, argument_word, command_row, command_words, IsLineOf, IsAllowed, IsStateOf}
use Rattle.grid_text.specs.Script.{GridScript, IsScript, grid_in_force}
use Rattle.grid_text.specs.Document.{body, end_word}
use Rattle.grid_text.specs.Faults.{Form, exactly, any_number_of, state_of_size, kind_of, is_bad_by, form_at, has_repeated, fails_to_commute, is_not_commuting, has_no_block, is_not_block, is_at_limit, fault_in_table}
use Rattle.grid_text.specs.Inner.Kinds.{is_bad}
use Rattle.grid_text.specs.declared.commands.Command.{Command}
use Rattle.grid_text.specs.declared.commands.Command.TheVariants as command
use Rattle.grid_text.specs.declared.faults.TextFault.TheVariants as fault
use Rattle.grid_text.proofs.Lines.WordLemmas.{is_word-same, numeral-decimal}
use Rattle.grid_text.proofs.Lines.KindLemmas.{state-good, list_any-never, AreGood, arguments-good, arguments-count, square-found}
use Rattle.grid_text.proofs.Lines.BlockLemmas.{has_no_block-read, below_greatest}
use Rattle.grid_text.proofs.Lines.KeywordLemmas.{form_at-command, not_end}
use Rattle.grid_text.proofs.Lines.FaultLemmas.{NoRowHolds, fault_in_table-last}
use Rattle.grid_text.proofs.Lines.ScriptLemmas.{IsGrid-grid_in_force}
use Rattle.grid_text.proofs.States.ChainLemmas.{repeated-none}

-- ---- the words of a chain

-- the words of states, as arguments
pub state_words : (xs : List (List ℕ)) → map argument_word (map state xs) ≡ map state_word xs
state_words [] = refl
state_words (x ∷ xs) = ap (λ words. state_word x ∷ words) (state_words xs)

-- the words of a line `chain`
pub chain_words : (xs : List (List ℕ))
    → command_words (command.Chain xs) ≡ (command_row (command.Chain [])).0 ∷ map state_word xs
chain_words xs = ap (λ words. (command_row (command.Chain [])).0 ∷ words) (state_words xs)

-- no word of states is bad
pub states-good : (n : ℕ) (xs : List (List ℕ)) → ((x : List ℕ) → Contains xs x → IsBijection n x)
    → list_any (is_bad (state_of_size n)) (map state_word xs) ≡ false
states-good n [] all = refl
states-good n (x ∷ xs) all =
    ap (λ b. b || list_any (is_bad (state_of_size n)) (map state_word xs)) (state-good n x (all x (member_head x xs)))
    ∙ states-good n xs (λ y m. all y (member_tail x xs y m))

-- ---- the arguments of a command that may stand there

-- a state of a grid is a bijection of its size
bijection_of : (g : Marks) (x : List ℕ) → IsStateOf g x → IsBijection (size g) x
bijection_of g x is = subst (λ m. IsBijection m x) is.same_size is.state.bijection

-- the states of a chain
states-allowed : (g : Marks) (z : List (List ℕ)) → All (IsStateOf g) z → AreGood (size g) (map state z)
states-allowed g [] all = tt
states-allowed g (x ∷ z) all =
    (bijection_of g x (All-head (IsStateOf g) x z all), states-allowed g z (All-tail (IsStateOf g) x z all))

-- they are good
pub arguments-allowed : (g : Marks) (c : Command) → IsAllowed g c → AreGood (size g) (command_row c).1
arguments-allowed g (command.Class v) allowed = (tt, tt)
arguments-allowed g (command.Border x) allowed = (bijection_of g x allowed, tt)
arguments-allowed g (command.Chain z) allowed = states-allowed g z allowed.0
arguments-allowed g (command.Turn v) allowed = (tt, tt)
arguments-allowed g (command.Commute axis c v) allowed = (allowed.0, (tt, tt))
arguments-allowed g (command.Stab c v) allowed = (allowed.0, (tt, tt))
arguments-allowed g (command.Destab c r v) allowed = (allowed.0, (allowed.1, (tt, tt)))
arguments-allowed g (command.Invert i c v) allowed = (tt, (allowed.0, (tt, tt)))
arguments-allowed g c allowed = tt

-- no symmetry begins as `stab` does
not_stab : (v : Symmetry) → is_word stab_word (symmetry_word v) ≡ false
not_stab Flip = refl
not_stab Half = refl
not_stab Mirror = refl
not_stab ExchangeMarks = refl

-- ---- what the rows are for a line of a command

module _ (s : GridScript) (h : IsScript s) where
  -- no row before the last holds, and the line is not `end`
  pub record IsFaultless (words : List Word) : Type 0 where
    pub first : Word
    pub arguments : List Word
    pub form : Form
    pub is : words ≡ first ∷ arguments
    pub known : form_at (body s) first ≡ Some form
    pub rows : NoRowHolds (body s) form (first ∷ arguments) arguments
    pub no_end : is_word end_word first ≡ false

  -- the size of the grid in force
  abbrev n : ℕ
  n = size (grid_in_force s)

  -- it is small
  pub n-small : n < 2 ^ 32
  n-small = let most = (IsGrid-grid_in_force s h).is_size.greatest in omega arith

  -- a command with good arguments in their order
  exact-faultless : (c : Command) (words : List Word) → words ≡ command_words c
      → form_at (body s) (command_row c).0 ≡ Some (exactly (map (kind_of n) (command_row c).1))
      → AreGood n (command_row c).1 → is_not_commuting (body s) (command_words c) ≡ false
      → is_not_block (body s) (command_words c) ≡ false → is_at_limit (body s) (command_words c) ≡ false
      → IsFaultless words
  exact-faultless c words e known good commuting block limit =
      let small = n-small in
      let fits : n < 2 ^ 64 = omega arith in
      record {
        first = (command_row c).0;
        arguments = map argument_word (command_row c).1;
        form = exactly (map (kind_of n) (command_row c).1);
        is = e;
        known = known;
        rows = record {
          count = arguments-count n (command_row c).1;
          choice = arguments-good n fits fault.BadChoice (command_row c).1 good;
          number = arguments-good n fits fault.BadNumber (command_row c).1 good;
          permutation = refl;
          square = refl;
          state = arguments-good n fits fault.BadState (command_row c).1 good;
          repeated = refl;
          commuting = commuting;
          block = block;
          limit = limit;
        };
        no_end = not_end c;
      }

  -- the two columns or rows commute
  commutes-number : (a : Axis) (c : ℕ) → c < n → are_commuting a (grid_in_force s) c ≡ true
      → fails_to_commute a (grid_in_force s) (decimal c) ≡ false
  commutes-number a c below t =
      let small = n-small in
      ap (λ o. option_map_or (λ d. not (are_commuting a (grid_in_force s) d)) o false)
      (numeral-decimal 0 (n - 1) c (decimal c) refl (omega arith) (omega arith) (omega arith))
      ∙ ap not t

  -- there is the block
  block-numbers : (c r : ℕ) (v : Square) → c + 1 < n → r + 1 < n → is_block (grid_in_force s) c r v ≡ true
      → has_no_block (grid_in_force s) (decimal c) (decimal r) (square_word v) ≡ false
  block-numbers c r v lc lr t =
      let small = n-small in
      has_no_block-read (grid_in_force s) (decimal c) (decimal r) (square_word v) c r v
      (numeral-decimal 0 (n - 2) c (decimal c) refl (omega arith) (omega arith) (omega arith))
      (numeral-decimal 0 (n - 2) r (decimal r) refl (omega arith) (omega arith) (omega arith)) (square-found v)
      ∙ ap not t

  -- whatever follows `chain`, no columns are to commute, and no block is named
  chain-commuting : (arguments : List Word)
      → is_not_commuting (body s) ((command_row (command.Chain [])).0 ∷ arguments) ≡ false
  chain-commuting [] = refl
  chain-commuting (a ∷ []) = refl
  chain-commuting (a ∷ b ∷ []) = refl
  chain-commuting (a ∷ b ∷ c ∷ []) = refl
  chain-commuting (a ∷ b ∷ c ∷ d ∷ arguments) = refl

  chain-block : (arguments : List Word)
      → is_not_block (body s) ((command_row (command.Chain [])).0 ∷ arguments) ≡ false
  chain-block [] = refl
  chain-block (a ∷ []) = refl
  chain-block (a ∷ b ∷ []) = refl
  chain-block (a ∷ b ∷ c ∷ []) = refl
  chain-block (a ∷ b ∷ c ∷ d ∷ arguments) = refl

  -- `chain`
  chain-faultless : (xs : List (List ℕ)) (words : List Word) → words ≡ command_words (command.Chain xs)
      → ((x : List ℕ) → Contains xs x → IsBijection n x) → has_repeated (map state_word xs) ≡ false → IsFaultless words
  chain-faultless xs words e states once = record {
    first = (command_row (command.Chain [])).0;
    arguments = map state_word xs;
    form = any_number_of (state_of_size n);
    is = e ∙ chain_words xs;
    known = refl;
    rows = record {
      count = refl;
      choice = list_any-never (is_bad_by fault.BadChoice (state_of_size n)) (map state_word xs) (λ w. refl);
      number = list_any-never (is_bad_by fault.BadNumber (state_of_size n)) (map state_word xs) (λ w. refl);
      permutation = refl;
      square = refl;
      state = states-good n xs states;
      repeated = once;
      commuting = chain-commuting (map state_word xs);
      block = chain-block (map state_word xs);
      limit = refl;
    };
    no_end = refl;
  }

  -- a command that may stand there
  pub faultless : (words : List Word) (c : Command) → IsLineOf words c → IsAllowed (grid_in_force s) c
      → IsFaultless words
  faultless words (command.Chain z) e allowed =
      let all = All-permutation (IsStateOf (grid_in_force s)) z e.0 (IsPermutation-sym e.0 z e.1) allowed.0 in
      chain-faultless e.0 words e.2 (λ x m. bijection_of (grid_in_force s) x
      (All-contains (IsStateOf (grid_in_force s)) e.0 x all m))
      (repeated-none e.0 z e.1 allowed.1)
  faultless words (command.Commute Cols c v) e allowed =
      exact-faultless (command.Commute Cols c v) words e refl
      (arguments-allowed (grid_in_force s) (command.Commute Cols c v) allowed)
      (ap (λ b. b || false) (commutes-number Cols c allowed.0 allowed.1)) refl refl
  faultless words (command.Commute Rows c v) e allowed =
      exact-faultless (command.Commute Rows c v) words e refl
      (arguments-allowed (grid_in_force s) (command.Commute Rows c v) allowed)
      (commutes-number Rows c allowed.0 allowed.1) refl refl
  faultless words (command.Stab c v) e allowed =
      exact-faultless (command.Stab c v) words e refl
      (arguments-allowed (grid_in_force s) (command.Stab c v) allowed) refl refl (below_greatest n allowed.1)
  faultless words (command.Destab c r v) e allowed =
      exact-faultless (command.Destab c r v) words e refl
      (arguments-allowed (grid_in_force s) (command.Destab c r v) allowed) refl
      (block-numbers c r v allowed.0 allowed.1 allowed.2) refl
  faultless words (command.Invert Cols c v) e allowed =
      exact-faultless (command.Invert Cols c v) words e refl
      (arguments-allowed (grid_in_force s) (command.Invert Cols c v) allowed)
      (ap (λ b. b || false) (commutes-number Cols c allowed.0 allowed.1)) refl refl
  faultless words (command.Invert Rows c v) e allowed =
      exact-faultless (command.Invert Rows c v) words e refl
      (arguments-allowed (grid_in_force s) (command.Invert Rows c v) allowed)
      (commutes-number Rows c allowed.0 allowed.1) refl refl
  faultless words (command.Symm v) e allowed =
      exact-faultless (command.Symm v) words e (form_at-command s (command.Symm v)) tt refl refl
      (ap (λ b. b && (n == greatest_size)) (not_stab v))
  faultless words c e allowed =
      exact-faultless c words e refl (arguments-allowed (grid_in_force s) c allowed) refl refl refl

-- then the last row decides
pub fault_in_table-faultless : (s : GridScript) (h : IsScript s) (words : List Word) → IsFaultless s h words
    → fault_in_table (body s) words ≡ cond (nat_le max_commands (length s.commands)) (Some fault.TooMany) None
fault_in_table-faultless s h words f =
    ap (fault_in_table (body s)) f.is
    ∙ fault_in_table-last (body s) f.form (f.first ∷ f.arguments) f.arguments refl f.known refl f.rows
    ∙ ap (λ b. cond (not b && nat_le max_commands (length s.commands)) (Some fault.TooMany) None) f.no_end

-- the line `end`
pub fault_in_table-end : (s : GridScript) (words : List Word) → words ≡ end_word ∷ []
    → fault_in_table (body s) words ≡ None
fault_in_table-end s words e =
    ap (fault_in_table (body s)) e
    ∙ fault_in_table-last (body s) (exactly []) (end_word ∷ []) [] refl refl refl
    (record {
      count = refl;
      choice = refl;
      number = refl;
      permutation = refl;
      square = refl;
      state = refl;
      repeated = refl;
      commuting = refl;
      block = refl;
      limit = refl;
    })

-- the line of a command is not `end`
pub command-not_end : (s : GridScript) → IsScript s → (words : List Word) (c : Command) → IsLineOf words c
    → IsAllowed (grid_in_force s) c → words ≡ end_word ∷ [] → ⊥
command-not_end s h words c line allowed e =
    let f = faultless s h words c line allowed in
    let whole : f.first ∷ f.arguments ≡ end_word ∷ [] = sym f.is ∙ e in
    let first : f.first ≡ end_word = cc in
    true≢false (sym (is_word-same end_word) ∙ ap (is_word end_word) (sym first) ∙ f.no_end)
