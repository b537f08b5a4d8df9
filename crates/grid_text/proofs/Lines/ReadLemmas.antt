-- A line of a body without a fault is `end` or that of a command that may stand there. It begins with a keyword,
-- since the table knows its first word; no row of the table holds, so that its other words are as many as the
-- form's and good for their kinds, and what they stand for makes the command.
use Rattle.std.proofs.Common.{◌≡◌, ◌⊎◌, ℕ, ◌-◌, ◌<◌, false, not, ◌||◌, List, [], ◌∷◌, length, map, get_or, None, Some, refl, ap, subst, ◌∙◌, sym, arith, inl, inr, true≢false}
use Rattle.std.specs.Prelude.{nat_le}
use Rattle.std.specs.Option.{option_map_or}
use Rattle.std.specs.List.{list_any, find, Contains}
use Rattle.std.proofs.lemmas.List.Sorted.{IsPermutation-refl, All-permutation}
use Rattle.std.proofs.lemmas.List.Elements.{Contains-get_or}
use Rattle.std.proofs.lemmas.Bool.{cases_lt, le-leb, or_parts, not-false}
use Rattle.std.proofs.Math.Bool.{or-false}
use Rattle.std.proofs.lemmas.List.{nil_from_length}
use Rattle.state_rank.specs.States.{state_word}
use Rattle.state_rank.specs.Bijection.{IsSize, IsBijection}
use Rattle.state_rank.proofs.MemberLemmas.{member_cases, no_member}
use Rattle.torus_geom.specs.Marks.{size}
use Rattle.grid_moves.specs.Moves.{are_commuting}
use Rattle.grid_moves.specs.declared.commutations.Axis.{Axis}
use Rattle.grid_moves.specs.declared.commutations.Axis.TheVariants.{Cols, Rows}
use Rattle.grid_text.specs.Limits.{max_commands}
use Rattle.stabilise.specs.Stabilised.{is_block}
use Rattle.grid_text.specs.Words.{Word, is_word, numeral}
use Rattle.grid_text.specs.Commands.{sign_word, signs, side_word, sides, corner_word, corners, square_word, squares, axis_word, axes, stab_word, destab_word, IsLineOf, IsAllowed, IsStateOf}
use Rattle.grid_text.specs.Script.{GridScript, IsScript, grid_in_force}
use Rattle.grid_text.specs.Document.{body, end_word}
use Rattle.grid_text.specs.Faults.{exactly, choice_of, number_between, state_of_size, is_bad_count, has_bad, has_repeated, fails_to_commute, is_not_commuting, is_not_block, is_one_too_many, fault_in_table}
use Rattle.grid_text.specs.Inner.Kinds.{is_bad}
use Rattle.grid_text.specs.Inner.Reading.{example, keyword_word, keyword_form}
use Rattle.grid_text.specs.declared.keywords.Keyword.{Keyword}
use Rattle.grid_text.specs.declared.keywords.Keyword.TheVariants as keyword
use Rattle.grid_text.specs.declared.commands.Command.{Command}
use Rattle.grid_text.specs.declared.commands.Command.TheVariants as command
use Rattle.grid_text.specs.declared.faults.TextFault.TheVariants as fault
use Rattle.grid_text.proofs.Lines.WordLemmas.{numeral-decimal}
use Rattle.grid_text.proofs.Lines.KindLemmas.{count-exact, one_word, two_words, three_words, value_of_word, number_of_word, state_of_word, square-found}
use Rattle.grid_text.proofs.Lines.BlockLemmas.{has_no_block-read, room_below_greatest}
use Rattle.grid_text.proofs.Lines.KeywordLemmas.{keyword_cases, form_at-keyword, keyword_of_axis}
use Rattle.grid_text.proofs.Lines.ScriptLemmas.{IsGrid-grid_in_force}
use Rattle.grid_text.proofs.Lines.FaultLemmas.{NoRowHolds, NoRowHolds-from_none, fault_in_table-no_word, fault_in_table-bad_word}
use Rattle.grid_text.proofs.Lines.CommandLemmas.{chain_words}
use Rattle.grid_text.proofs.States.ChainLemmas.{apart-states, ascending_of}

-- words none of which is bad are those of states
states_of_words : (n : ℕ) (words : List Word) → list_any (is_bad (state_of_size n)) words ≡ false
    → (xs : List (List ℕ)) × (words ≡ map state_word xs) × ((x : List ℕ) → Contains xs x → IsBijection n x)
states_of_words n [] good = ([], refl, λ x m. absurd (no_member x m))
states_of_words n (w ∷ words) good =
    let parts = or_parts (is_bad (state_of_size n) w) (list_any (is_bad (state_of_size n)) words) good in
    let first = state_of_word n w parts.0 in
    let rest = states_of_words n words parts.1 in (
      first.0 ∷ rest.0,
      (λ i. first.1.0 i ∷ rest.1 i),
      (λ x m. elim (member_cases first.0 rest.0 x m) [
        | inl e ↦ subst (IsBijection n) e first.1.1
        | inr later ↦ rest.2 x later
      ]),
    )

-- a bijection of the size is a state of the grid in force
pub IsStateOf-from_bijection : (s : GridScript) → IsScript s → (x : List ℕ) → IsBijection (size (grid_in_force s)) x
    → IsStateOf (grid_in_force s) x
IsStateOf-from_bijection s h x bijection = record {
  state = record {
    size = subst IsSize (sym bijection.long) (IsGrid-grid_in_force s h).is_size;
    bijection = subst (λ m. IsBijection m x) (sym bijection.long) bijection;
  };
  same_size = bijection.long;
}

module _ (s : GridScript) (h : IsScript s) where
  -- the commands are not too many
  few : nat_le max_commands (length s.commands) ≡ false → length s.commands < max_commands
  few e = elim (cases_lt (length s.commands) max_commands) [
    | inl less ↦ less
    | inr many ↦ absurd (true≢false (sym (le-leb max_commands (length s.commands) many) ∙ e))
  ]

  -- the size of the grid in force
  abbrev n : ℕ
  n = size (grid_in_force s)

  -- what a line of the body without a fault is
  abbrev IsGood : List Word → Type 0
  IsGood words =
      (words ≡ end_word ∷ [])
      ⊎ ((c : Command) × (IsLineOf words c × IsAllowed (grid_in_force s) c × (length s.commands < max_commands)))

  -- what is known of the words after a keyword
  abbrev Rest : Keyword → List Word → Type 0
  Rest k arguments =
      NoRowHolds (body s) (keyword_form n k) (keyword_word k ∷ arguments) arguments
      × (is_one_too_many (body s) (keyword_word k ∷ arguments) ≡ false)

  rest_of : (k : Keyword) (arguments : List Word) → fault_in_table (body s) (keyword_word k ∷ arguments) ≡ None
      → Rest k arguments
  rest_of k arguments none =
      NoRowHolds-from_none (body s) (keyword_form n k) (keyword_word k ∷ arguments) arguments refl
      (form_at-keyword s k) refl none

  -- a keyword that stands alone
  alone-good : (k : Keyword) (c : Command) (arguments : List Word) → keyword_form n k ≡ exactly []
      → IsLineOf (keyword_word k ∷ []) c
      → IsAllowed (grid_in_force s) c
      → is_one_too_many (body s) (keyword_word k ∷ arguments) ≡ nat_le max_commands (length s.commands)
      → Rest k arguments → IsGood (keyword_word k ∷ arguments)
  alone-good k c arguments form line allowed last r =
      let none = nil_from_length arguments (count-exact 0 arguments (subst
      (λ f. is_bad_count f arguments ≡ false) form r.0.count)) in
      inr (c, (subst (λ a. IsLineOf (keyword_word k ∷ a) c) (sym none) line, allowed, few (sym last ∙ r.1)))

  -- `cols` and `rows`
  commute-good : (axis : Axis) (arguments : List Word) → Rest (keyword_of_axis axis) arguments
      → ((v w : Word) → arguments ≡ v ∷ w ∷ [] → fails_to_commute axis (grid_in_force s) v ≡ false)
      → axis_word axis ≡ keyword_word (keyword_of_axis axis)
      → keyword_form n (keyword_of_axis axis) ≡ exactly
      (number_between 0 (n - 1) ∷ choice_of (map corner_word corners) ∷ [])
      → length s.commands < max_commands → IsGood (axis_word axis ∷ arguments)
  commute-good axis arguments r commuting is form room =
      let count = subst (λ f. is_bad_count f arguments ≡ false) form r.0.count in
      let words = two_words arguments (count-exact 2 arguments count) in
      let choice : is_bad (choice_of (map corner_word corners)) words.1 ≡ false =
      sym (or-false _) ∙ subst (λ a. has_bad fault.BadChoice (exactly
      (number_between 0 (n - 1) ∷ choice_of (map corner_word corners) ∷ [])) a ≡ false) words.2
      (subst (λ f. has_bad fault.BadChoice f arguments ≡ false) form r.0.choice) in
      let numbered : is_bad (number_between 0 (n - 1)) words.0 ≡ false =
      sym (or-false _) ∙ subst (λ a. has_bad fault.BadNumber (exactly
      (number_between 0 (n - 1) ∷ choice_of (map corner_word corners) ∷ [])) a ≡ false) words.2
      (subst (λ f. has_bad fault.BadNumber f arguments ≡ false) form r.0.number) in
      let v = value_of_word corner_word corners words.1 choice in
      let c = number_of_word 0 (n - 1) words.0 numbered in
      let least = (IsGrid-grid_in_force s h).is_size.least in
      let most = (IsGrid-grid_in_force s h).is_size.greatest in
      let high = c.1.2 in
      let is_c : numeral 0 (n - 1) words.0 ≡ Some c.0 =
      numeral-decimal 0 (n - 1) c.0 words.0 c.1.0 (omega arith) (omega arith) (omega arith) in
      let fails : not (are_commuting axis (grid_in_force s) c.0) ≡ false =
      sym (ap (λ o. option_map_or (λ d. not (are_commuting axis (grid_in_force s) d)) o false) is_c)
      ∙ commuting words.0 words.1 words.2 in
      inr (
        command.Commute axis c.0 v.0,
        (
          ap (λ a. axis_word axis ∷ a) words.2 ∙ (λ i. axis_word axis ∷ c.1.0 i ∷ v.1 i ∷ []),
          (omega arith, not-false (are_commuting axis (grid_in_force s) c.0) fails),
          room,
        ),
      )

  -- `stab`
  stab-good : (arguments : List Word) → Rest keyword.Stab arguments → IsGood (stab_word ∷ arguments)
  stab-good arguments r =
      let words = two_words arguments (count-exact 2 arguments r.0.count) in
      let choice : is_bad (choice_of (map square_word squares)) words.1 ≡ false =
      sym (or-false _)
      ∙ subst (λ a. has_bad fault.BadChoice (keyword_form n keyword.Stab) a ≡ false) words.2 r.0.choice in
      let numbered : is_bad (number_between 0 (n - 1)) words.0 ≡ false =
      sym (or-false _)
      ∙ subst (λ a. has_bad fault.BadNumber (keyword_form n keyword.Stab) a ≡ false) words.2 r.0.number in
      let v = value_of_word square_word squares words.1 choice in
      let c = number_of_word 0 (n - 1) words.0 numbered in
      let least = (IsGrid-grid_in_force s h).is_size.least in
      let high = c.1.2 in
      inr (
        command.Stab c.0 v.0,
        (
          ap (λ a. stab_word ∷ a) words.2 ∙ (λ i. stab_word ∷ c.1.0 i ∷ v.1 i ∷ []),
          (omega arith, room_below_greatest n (IsGrid-grid_in_force s h).is_size.greatest r.0.limit),
          few r.1,
        ),
      )

  -- `destab`
  destab-good : (arguments : List Word) → Rest keyword.Destab arguments → IsGood (destab_word ∷ arguments)
  destab-good arguments r =
      let words = three_words arguments (count-exact 3 arguments r.0.count) in
      let choice : is_bad (choice_of (map square_word squares)) words.2 ≡ false =
      sym (or-false _)
      ∙ subst (λ a. has_bad fault.BadChoice (keyword_form n keyword.Destab) a ≡ false) words.3 r.0.choice in
      let numbered = or_parts (is_bad (number_between 0 (n - 2)) words.0)
      (is_bad (number_between 0 (n - 2)) words.1 || false)
      (subst (λ a. has_bad fault.BadNumber (keyword_form n keyword.Destab) a ≡ false) words.3 r.0.number) in
      let v = value_of_word square_word squares words.2 choice in
      let c = number_of_word 0 (n - 2) words.0 numbered.0 in
      let q = number_of_word 0 (n - 2) words.1 (sym (or-false _) ∙ numbered.1) in
      let least = (IsGrid-grid_in_force s h).is_size.least in
      let most = (IsGrid-grid_in_force s h).is_size.greatest in
      let column_high = c.1.2 in
      let row_high = q.1.2 in
      let none : not (is_block (grid_in_force s) c.0 q.0 v.0) ≡ false =
      sym (has_no_block-read (grid_in_force s) words.0 words.1 words.2 c.0 q.0 v.0
      (numeral-decimal 0 (n - 2) c.0 words.0 c.1.0 (omega arith) (omega arith) (omega arith))
      (numeral-decimal 0 (n - 2) q.0 words.1 q.1.0 (omega arith) (omega arith) (omega arith))
      (ap (λ w. find (λ e. is_word (square_word e) w) squares) v.1 ∙ square-found v.0))
      ∙ subst (λ a. is_not_block (body s) (destab_word ∷ a) ≡ false) words.3 r.0.block in
      inr (
        command.Destab c.0 q.0 v.0,
        (
          ap (λ a. destab_word ∷ a) words.3 ∙ (λ i. destab_word ∷ c.1.0 i ∷ q.1.0 i ∷ v.1 i ∷ []),
          (omega arith, omega arith, not-false (is_block (grid_in_force s) c.0 q.0 v.0) none),
          few r.1,
        ),
      )

  -- `invert`
  invert-good : (arguments : List Word) → Rest keyword.Invert arguments → length s.commands < max_commands
      → IsGood (keyword_word keyword.Invert ∷ arguments)
  invert-good arguments r room =
      let words = three_words arguments (count-exact 3 arguments r.0.count) in
      let line = words.3 in
      let choices = or_parts (is_bad (choice_of (map axis_word axes)) words.0)
      (is_bad (choice_of (map corner_word corners)) words.2 || false)
      (subst (λ a. has_bad fault.BadChoice (keyword_form n keyword.Invert) a ≡ false) line r.0.choice) in
      let numbered : is_bad (number_between 0 (n - 1)) words.1 ≡ false =
      sym (or-false _)
      ∙ subst (λ a. has_bad fault.BadNumber (keyword_form n keyword.Invert) a ≡ false) line r.0.number in
      let i = value_of_word axis_word axes words.0 choices.0 in
      let v = value_of_word corner_word corners words.2 (sym (or-false _) ∙ choices.1) in
      let c = number_of_word 0 (n - 1) words.1 numbered in
      let least = (IsGrid-grid_in_force s h).is_size.least in
      let most = (IsGrid-grid_in_force s h).is_size.greatest in
      let high = c.1.2 in
      let is_c : numeral 0 (n - 1) words.1 ≡ Some c.0 =
      numeral-decimal 0 (n - 1) c.0 words.1 c.1.0 (omega arith) (omega arith) (omega arith) in
      let whole = line ∙ (λ k. i.1 k ∷ words.1 ∷ words.2 ∷ []) in
      let fails : not (are_commuting i.0 (grid_in_force s) c.0) ≡ false =
      sym (ap (λ o. option_map_or (λ d. not (are_commuting i.0 (grid_in_force s) d)) o false) is_c)
      ∙ at i.0 words.1 words.2 (subst (λ a. is_not_commuting (body s) (keyword_word keyword.Invert ∷ a) ≡ false) whole
      r.0.commuting) in
      inr (
        command.Invert i.0 c.0 v.0,
        (
          ap (λ a. keyword_word keyword.Invert ∷ a) line
              ∙ (λ k. keyword_word keyword.Invert ∷ i.1 k ∷ c.1.0 k ∷ v.1 k ∷ []),
          (omega arith, not-false (are_commuting i.0 (grid_in_force s) c.0) fails),
          room,
        ),
      )
    where
      at : (a : Axis) (w u : Word)
          → is_not_commuting (body s) (keyword_word keyword.Invert ∷ axis_word a ∷ w ∷ u ∷ []) ≡ false
          → fails_to_commute a (grid_in_force s) w ≡ false
      at Cols w u e = sym (or-false (fails_to_commute Cols (grid_in_force s) w)) ∙ e
      at Rows w u e = e

  -- by the keyword
  key-good : (k : Keyword) (arguments : List Word) → Rest k arguments → IsGood (keyword_word k ∷ arguments)
  key-good keyword.Class arguments r =
      let one = one_word arguments (count-exact 1 arguments r.0.count) in
      let good = subst (λ a. has_bad fault.BadChoice (keyword_form n keyword.Class) a ≡ false) one.1 r.0.choice in
      let v = value_of_word sign_word signs one.0 (sym (or-false _) ∙ good) in
      inr (command.Class v.0, (ap (λ a. keyword_word keyword.Class ∷ a) (one.1 ∙ ap (λ w. w ∷ []) v.1), tt, few r.1))
  key-good keyword.Border arguments r =
      let one = one_word arguments (count-exact 1 arguments r.0.count) in
      let good = subst (λ a. has_bad fault.BadState (keyword_form n keyword.Border) a ≡ false) one.1 r.0.state in
      let x = state_of_word n one.0 (sym (or-false _) ∙ good) in
      inr (
        command.Border x.0,
        (
          ap (λ a. keyword_word keyword.Border ∷ a) (one.1 ∙ ap (λ w. w ∷ []) x.1.0),
          IsStateOf-from_bijection s h x.0
              x.1.1,
          few r.1,
        ),
      )
  key-good keyword.Chain arguments r =
      let xs = states_of_words n arguments r.0.state in
      let once = subst (λ a. has_repeated a ≡ false) xs.1 r.0.repeated in
      let z = ascending_of n xs.0 xs.2 (apart-states xs.0 xs.0 (IsPermutation-refl xs.0) once) in
      inr (
        command.Chain z.0,
        (
          (xs.0, z.1, ap (λ a. keyword_word keyword.Chain ∷ a) xs.1 ∙ sym (chain_words xs.0)),
          (
            All-permutation (IsStateOf (grid_in_force s)) xs.0 z.0 z.1
                (λ k d l. IsStateOf-from_bijection s h (get_or xs.0 k d)
                (xs.2 (get_or xs.0 k d) (Contains-get_or xs.0 k d l))),
            z.2,
          ),
          few r.1,
        ),
      )
  key-good keyword.Turn arguments r =
      let one = one_word arguments (count-exact 1 arguments r.0.count) in
      let good = subst (λ a. has_bad fault.BadChoice (keyword_form n keyword.Turn) a ≡ false) one.1 r.0.choice in
      let v = value_of_word side_word sides one.0 (sym (or-false _) ∙ good) in
      inr (command.Turn v.0, (ap (λ a. keyword_word keyword.Turn ∷ a) (one.1 ∙ ap (λ w. w ∷ []) v.1), tt, few r.1))
  key-good keyword.Cols arguments r =
      commute-good Cols arguments r
      (λ v w e. sym (or-false (fails_to_commute Cols (grid_in_force s) v))
      ∙ subst (λ a. is_not_commuting (body s) (axis_word Cols ∷ a) ≡ false) e r.0.commuting)
      refl refl (few r.1)
  key-good keyword.Rows arguments r =
      commute-good Rows arguments r (λ v w e. subst (λ a. is_not_commuting (body s) (axis_word Rows ∷ a) ≡ false) e
      r.0.commuting) refl refl (few r.1)
  key-good keyword.Stab arguments r = stab-good arguments r
  key-good keyword.Destab arguments r = destab-good arguments r
  key-good keyword.Invert arguments r = invert-good arguments r (few r.1)
  key-good keyword.End arguments r =
      inl (ap (λ a. end_word ∷ a) (nil_from_length arguments (count-exact 0 arguments r.0.count)))
  key-good k arguments r = alone-good k (option_map_or (λ c. c) (example k) command.Front) arguments refl refl tt refl r

  -- a line without a fault is `end`, or that of a command that may stand there
  pub body-read : (words : List Word) → fault_in_table (body s) words ≡ None
      → (words ≡ end_word ∷ []) ⊎ ((c : Command) × (IsLineOf words c × IsAllowed (grid_in_force s) c
      × (length s.commands < max_commands)))
  body-read [] none = let clash : Some fault.BadWord ≡ None = sym (fault_in_table-no_word (body s) refl) ∙ none in cc
  body-read (w ∷ arguments) none = elim (keyword_cases n w) [
    | inl k ↦ subst (λ v. IsGood (v ∷ arguments)) (sym k.1)
        (key-good k.0 arguments (rest_of k.0 arguments
        (ap (λ v. fault_in_table (body s) (v ∷ arguments)) (sym k.1) ∙ none)))
    | inr unknown ↦ let clash : Some fault.BadWord ≡ None =
        sym (fault_in_table-bad_word (body s) w arguments refl unknown) ∙ none in cc
  ]
