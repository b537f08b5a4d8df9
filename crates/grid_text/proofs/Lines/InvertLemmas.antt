-- What the reader of a body has read at `invert`: a line with a fault, row by row of the table, or the words of the
-- command, which may stand there.
use Rattle.std.proofs.Common.{◌≡◌, ◌≢◌, ℕ, ◌-◌, true, false, not, ◌||◌, List, [], ◌∷◌, length, map, Option, None, Some, refl, ap, ◌∙◌, sym, arith}
use Rattle.std.specs.Prelude.{is_none}
use Rattle.std.specs.Option.{option_map_or}
use Rattle.std.specs.List.{find}
use Rattle.torus_geom.specs.Marks.{Marks, size}
use Rattle.grid_moves.specs.Moves.{are_commuting}
use Rattle.grid_moves.specs.declared.commutations.Axis.{Axis}
use Rattle.grid_moves.specs.declared.commutations.Axis.TheVariants.{Cols, Rows}
use Rattle.pentagon_map.specs.declared.Corner.{Corner}
use Rattle.grid_text.specs.Words.{Word, is_word, numeral}
use Rattle.grid_text.specs.Commands.{corner_word, corners, axis_word, axes}
use Rattle.grid_text.specs.Script.{GridScript, IsScript, grid_in_force}
use Rattle.grid_text.specs.Document.{body}
use Rattle.grid_text.specs.Faults.{Form, exactly, choice_of, number_between, has_bad, fails_to_commute, is_not_commuting, fault_in_table}
use Rattle.grid_text.specs.Inner.Kinds.{is_bad}
use Rattle.grid_text.specs.Inner.Reading.{keyword_word, IsReadLine}
use Rattle.grid_text.specs.declared.commands.Command.TheVariants as command
use Rattle.grid_text.specs.declared.keywords.Keyword.TheVariants as keyword
use Rattle.grid_text.specs.declared.faults.TextFault.TheVariants as fault
use Rattle.grid_text.proofs.Lines.WordLemmas.{numeral-found}
use Rattle.grid_text.proofs.Lines.KindLemmas.{count-other, word-find, bad-find, axis-good, corner-good}
use Rattle.grid_text.proofs.Lines.FaultLemmas.{fault_in_table-count, fault_in_table-choice, fault_in_table-number, fault_in_table-commuting}
use Rattle.grid_text.proofs.Lines.ScriptLemmas.{IsGrid-grid_in_force}

module _ (s : GridScript) (arguments : List Word) where
  -- the form of its lines
  abbrev invert_form : Form
  invert_form =
      exactly (choice_of (map axis_word axes) ∷ number_between 0 (size (grid_in_force s) - 1)
      ∷ choice_of (map corner_word corners) ∷ [])

  -- too few or too many words
  pub invert-count : length arguments ≢ 3
      → fault_in_table (body s) (keyword_word keyword.Invert ∷ arguments) ≡ Some fault.BadCount
  invert-count other =
      fault_in_table-count (body s) invert_form (keyword_word keyword.Invert ∷ arguments) arguments refl refl refl
      (count-other 3 arguments other)

  module _ (t w u : Word) (found_axis : Option Axis) (e : arguments ≡ t ∷ w ∷ u ∷ [])
      (axis_is : found_axis ≡ find (λ a. is_word (axis_word a) t) axes) where
    -- an axis that is none
    pub invert-axis : found_axis ≡ None
        → fault_in_table (body s) (keyword_word keyword.Invert ∷ arguments) ≡ Some fault.BadChoice
    invert-axis none =
        ap (λ a. fault_in_table (body s) (keyword_word keyword.Invert ∷ a)) e
        ∙ fault_in_table-choice (body s) invert_form (keyword_word keyword.Invert ∷ t ∷ w ∷ u ∷ []) (t ∷ w ∷ u ∷ [])
        refl refl refl refl
        (ap (λ b. b || (is_bad (choice_of (map corner_word corners)) u || false))
        (bad-find axis_word axes t (sym axis_is ∙ none)))

    module _ (i : Axis) (some_axis : found_axis ≡ Some i) (corner : Option Corner)
        (chosen : corner ≡ find (λ c. is_word (corner_word c) u) corners) where
      -- the words of the line, but for the last
      begun : arguments ≡ axis_word i ∷ w ∷ u ∷ []
      begun = e ∙ ap (λ a. a ∷ w ∷ u ∷ []) (word-find axis_word axes t i (sym axis_is ∙ some_axis))

      -- a corner that is none
      pub invert-corner : corner ≡ None
          → fault_in_table (body s) (keyword_word keyword.Invert ∷ arguments) ≡ Some fault.BadChoice
      invert-corner none =
          ap (λ a. fault_in_table (body s) (keyword_word keyword.Invert ∷ a)) begun
          ∙ fault_in_table-choice (body s) invert_form (keyword_word keyword.Invert ∷ axis_word i ∷ w ∷ u ∷ [])
          (axis_word i ∷ w ∷ u ∷ []) refl refl refl refl
          (λ k. axis-good i k || (bad-find corner_word corners u (sym chosen ∙ none) k || false))

      module _ (g : Marks) (m : ℕ) (v : Corner) (r : Option ℕ) (some : corner ≡ Some v) (long : m ≡ size g)
          (is : g ≡ grid_in_force s) (value : r ≡ numeral 0 (m - 1) w) where
        -- the words of the line
        inverted : arguments ≡ axis_word i ∷ w ∷ corner_word v ∷ []
        inverted = begun ∙ ap (λ c. axis_word i ∷ w ∷ c ∷ []) (word-find corner_word corners u v (sym chosen ∙ some))

        -- the number that is read
        number_is : (o : Option ℕ) → r ≡ o → numeral 0 (size (grid_in_force s) - 1) w ≡ o
        number_is o known = ap (λ k. numeral 0 (k - 1) w) (sym (long ∙ ap size is)) ∙ sym value ∙ known

        good_choices : has_bad fault.BadChoice invert_form (axis_word i ∷ w ∷ corner_word v ∷ []) ≡ false
        good_choices = λ k. axis-good i k || (corner-good v k || false)

        -- a number that is none
        pub invert-number : r ≡ None
            → fault_in_table (body s) (keyword_word keyword.Invert ∷ arguments) ≡ Some fault.BadNumber
        invert-number none =
            ap (λ a. fault_in_table (body s) (keyword_word keyword.Invert ∷ a)) inverted
            ∙ fault_in_table-number (body s) invert_form
            (keyword_word keyword.Invert ∷ axis_word i ∷ w ∷ corner_word v ∷ []) (axis_word i ∷ w ∷ corner_word v ∷ [])
            refl refl refl refl good_choices (ap (λ o. is_none o || false) (number_is None none))

        -- columns or rows that do not commute
        pub invert-commuting : (c : ℕ) → r ≡ Some c → are_commuting i g c ≡ false
            → fault_in_table (body s) (keyword_word keyword.Invert ∷ arguments) ≡ Some fault.NotCommuting
        invert-commuting c found fails =
            ap (λ a. fault_in_table (body s) (keyword_word keyword.Invert ∷ a)) inverted
            ∙ fault_in_table-commuting (body s) invert_form
            (keyword_word keyword.Invert ∷ axis_word i ∷ w ∷ corner_word v ∷ []) (axis_word i ∷ w ∷ corner_word v ∷ [])
            refl refl refl refl good_choices (ap (λ o. is_none o || false) (number_is (Some c) found))
            refl refl refl refl (at i (ap (λ k. are_commuting i k c) (sym is) ∙ fails))
          where
            fails_at : (a : Axis) → are_commuting a (grid_in_force s) c ≡ false
                → fails_to_commute a (grid_in_force s) w ≡ true
            fails_at a f =
                ap (λ o. option_map_or (λ d. not (are_commuting a (grid_in_force s) d)) o false)
                (number_is (Some c) found)
                ∙ ap not f

            at : (a : Axis) → are_commuting a (grid_in_force s) c ≡ false
                → is_not_commuting (body s) (keyword_word keyword.Invert ∷ axis_word a ∷ w ∷ corner_word v ∷ []) ≡ true
            at Cols f = ap (λ b. b || false) (fails_at Cols f)
            at Rows f = fails_at Rows f

        -- columns or rows that commute
        pub invert-read : IsScript s → (c : ℕ) → r ≡ Some c → are_commuting i g c ≡ true
            → IsReadLine s (keyword_word keyword.Invert ∷ arguments) (Some (command.Invert i c v))
        invert-read h c found commuting =
            let read = numeral-found 0 (size (grid_in_force s) - 1) c w (number_is (Some c) found) in
            let high = read.2 in
            let least = (IsGrid-grid_in_force s h).is_size.least in (
              ap (λ a. keyword_word keyword.Invert ∷ a)
                  (inverted ∙ ap (λ d. axis_word i ∷ d ∷ corner_word v ∷ []) read.0),
              (omega arith, ap (λ k. are_commuting i k c) (sym is) ∙ commuting),
            )
