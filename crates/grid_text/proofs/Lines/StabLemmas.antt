-- What the reader of a body has read at a line `stab` or `destab`: each lemma takes what the reader knows where it
-- answers.
use Rattle.std.proofs.Common.{◌≡◌, ◌≢◌, ℕ, ◌-◌, true, false, not, ◌||◌, List, [], ◌∷◌, map, Option, None, Some, refl, ap, subst, ◌∙◌, sym, arith}
use Rattle.std.specs.Prelude.{is_none}
use Rattle.std.specs.List.{find}
use Rattle.std.proofs.lemmas.Bool.{eq-eqb, ne_eqb}
use Rattle.std.proofs.Math.Bool.{or-false}
use Rattle.state_rank.specs.Bijection.{greatest_size}
use Rattle.torus_geom.specs.Marks.{Marks, size}
use Rattle.stabilise.specs.Stabilised.{is_block}
use Rattle.stabilise.specs.declared.squares.Square.{Square}
use Rattle.grid_text.specs.Words.{Word, is_word, numeral}
use Rattle.grid_text.specs.Commands.{square_word, squares, stab_word, destab_word}
use Rattle.grid_text.specs.Script.{GridScript, IsScript, grid_in_force}
use Rattle.grid_text.specs.Document.{body}
use Rattle.grid_text.specs.Faults.{Form, choice_of, has_bad, fault_in_table}
use Rattle.grid_text.specs.Inner.Kinds.{is_bad}
use Rattle.grid_text.specs.Inner.Reading.{keyword_form, IsReadLine}
use Rattle.grid_text.specs.declared.commands.Command.TheVariants as command
use Rattle.grid_text.specs.declared.keywords.Keyword.TheVariants as keyword
use Rattle.grid_text.specs.declared.faults.TextFault.TheVariants as fault
use Rattle.grid_text.proofs.Lines.WordLemmas.{numeral-found}
use Rattle.grid_text.proofs.Lines.KindLemmas.{word-find, bad-find, square-good}
use Rattle.grid_text.proofs.Lines.BlockLemmas.{has_no_block-read, room_below_greatest}
use Rattle.grid_text.proofs.Lines.ScriptLemmas.{IsGrid-grid_in_force}
use Rattle.grid_text.proofs.Lines.FaultLemmas.{fault_in_table-choice, fault_in_table-number, fault_in_table-block, fault_in_table-limit}

-- ---- the words of both

-- the word for a square that was found is good
good_square : (u : Word) (v : Square) → u ≡ square_word v → is_bad (choice_of (map square_word squares)) u ≡ false
good_square u v named = subst (λ e. is_bad (choice_of (map square_word squares)) e ≡ false) (sym named) (square-good v)

-- a number below the size of the grid in force, less j, if the reader knows the grid and the size by other names
numeral_in_force : (s : GridScript) (g : Marks) (m j : ℕ) (w : Word) (r o : Option ℕ) → m ≡ size g
    → g ≡ grid_in_force s → r ≡ numeral 0 (m - j) w → r ≡ o → numeral 0 (size (grid_in_force s) - j) w ≡ o
numeral_in_force s g m j w r o long is value known =
    ap (λ k. numeral 0 (k - j) w) (sym (long ∙ ap size is)) ∙ sym value ∙ known

-- ---- `stab`

module _ (s : GridScript) (arguments : List Word) (w u : Word) (two : arguments ≡ w ∷ u ∷ []) where
  -- the form of its lines
  abbrev stab_form : Form
  stab_form = keyword_form (size (grid_in_force s)) keyword.Stab

  -- a choice that is none
  pub stab-choice : (r : Option Square) → r ≡ find (λ v. is_word (square_word v) u) squares → r ≡ None
      → fault_in_table (body s) (stab_word ∷ arguments) ≡ Some fault.BadChoice
  stab-choice r is none =
      ap (λ a. fault_in_table (body s) (stab_word ∷ a)) two
      ∙ fault_in_table-choice (body s) stab_form (stab_word ∷ w ∷ u ∷ []) (w ∷ u ∷ []) refl refl refl refl
      (ap (λ b. b || false) (bad-find square_word squares u (sym is ∙ none)))

  module _ (g : Marks) (m : ℕ) (v : Square) (r : Option ℕ) (empty : Option Square)
      (chosen : empty ≡ find (λ e. is_word (square_word e) u) squares) (some : empty ≡ Some v)
      (long : m ≡ size g) (is : g ≡ grid_in_force s) (value : r ≡ numeral 0 (m - 1) w) where
    -- the word for the square
    stab_square : u ≡ square_word v
    stab_square = word-find square_word squares u v (sym chosen ∙ some)

    good_stab_choice : has_bad fault.BadChoice stab_form (w ∷ u ∷ []) ≡ false
    good_stab_choice = or-false _ ∙ good_square u v stab_square

    -- a number that is none
    pub stab-number : r ≡ None → fault_in_table (body s) (stab_word ∷ arguments) ≡ Some fault.BadNumber
    stab-number none =
        ap (λ a. fault_in_table (body s) (stab_word ∷ a)) two
        ∙ fault_in_table-number (body s) stab_form (stab_word ∷ w ∷ u ∷ []) (w ∷ u ∷ []) refl refl refl refl
        good_stab_choice (ap (λ o. is_none o || false) (numeral_in_force s g m 1 w r None long is value none))

    -- a grid of the greatest size
    pub stab-limit : (c : ℕ) → r ≡ Some c → m ≡ greatest_size
        → fault_in_table (body s) (stab_word ∷ arguments) ≡ Some fault.SizeLimit
    stab-limit c found greatest =
        ap (λ a. fault_in_table (body s) (stab_word ∷ a)) two
        ∙ fault_in_table-limit (body s) stab_form (stab_word ∷ w ∷ u ∷ []) (w ∷ u ∷ []) refl refl refl refl
        good_stab_choice (ap (λ o. is_none o || false) (numeral_in_force s g m 1 w r (Some c) long is value found))
        refl refl refl refl refl refl (eq-eqb _ _ (sym (long ∙ ap size is) ∙ greatest))

    -- the stabilisation
    pub stab-read : IsScript s → (c : ℕ) → r ≡ Some c → m ≢ greatest_size
        → IsReadLine s (stab_word ∷ arguments) (Some (command.Stab c v))
    stab-read h c found other =
        let read = numeral-found 0 (size (grid_in_force s) - 1) c w
        (numeral_in_force s g m 1 w r (Some c) long is value found) in
        let high = read.2 in
        let is_size = (IsGrid-grid_in_force s h).is_size in
        let least = is_size.least in (
          ap (λ a. stab_word ∷ a) (two ∙ (λ i. read.0 i ∷ stab_square i ∷ [])),
          (
            omega arith,
            room_below_greatest (size (grid_in_force s)) is_size.greatest
                (ne_eqb _ _ (λ e. other (long ∙ ap size is ∙ e))),
          ),
        )

-- ---- `destab`

module _ (s : GridScript) (arguments : List Word) (w t u : Word) (three : arguments ≡ w ∷ t ∷ u ∷ []) where
  -- the form of its lines
  abbrev destab_form : Form
  destab_form = keyword_form (size (grid_in_force s)) keyword.Destab

  -- a choice that is none
  pub destab-choice : (r : Option Square) → r ≡ find (λ v. is_word (square_word v) u) squares → r ≡ None
      → fault_in_table (body s) (destab_word ∷ arguments) ≡ Some fault.BadChoice
  destab-choice r is none =
      ap (λ a. fault_in_table (body s) (destab_word ∷ a)) three
      ∙ fault_in_table-choice (body s) destab_form (destab_word ∷ w ∷ t ∷ u ∷ []) (w ∷ t ∷ u ∷ []) refl refl refl refl
      (ap (λ b. b || false) (bad-find square_word squares u (sym is ∙ none)))

  module _ (g : Marks) (m : ℕ) (v : Square) (empty : Option Square)
      (chosen : empty ≡ find (λ e. is_word (square_word e) u) squares) (some : empty ≡ Some v)
      (long : m ≡ size g) (is : g ≡ grid_in_force s) (r : Option ℕ) (value : r ≡ numeral 0 (m - 2) w) where
    -- the word for the square
    destab_square : u ≡ square_word v
    destab_square = word-find square_word squares u v (sym chosen ∙ some)

    good_destab_choice : has_bad fault.BadChoice destab_form (w ∷ t ∷ u ∷ []) ≡ false
    good_destab_choice = or-false _ ∙ good_square u v destab_square

    -- a column that is none
    pub destab-column : r ≡ None → fault_in_table (body s) (destab_word ∷ arguments) ≡ Some fault.BadNumber
    destab-column none =
        ap (λ a. fault_in_table (body s) (destab_word ∷ a)) three
        ∙ fault_in_table-number (body s) destab_form (destab_word ∷ w ∷ t ∷ u ∷ []) (w ∷ t ∷ u ∷ [])
        refl refl refl refl good_destab_choice
        (ap (λ o. is_none o || (is_none (numeral 0 (size (grid_in_force s) - 2) t) || false))
        (numeral_in_force s g m 2 w r None long is value none))

    module _ (c : ℕ) (found : r ≡ Some c) (q : Option ℕ) (row_value : q ≡ numeral 0 (m - 2) t) where
      column_read : numeral 0 (size (grid_in_force s) - 2) w ≡ Some c
      column_read = numeral_in_force s g m 2 w r (Some c) long is value found

      -- a row that is none
      pub destab-row : q ≡ None → fault_in_table (body s) (destab_word ∷ arguments) ≡ Some fault.BadNumber
      destab-row none =
          ap (λ a. fault_in_table (body s) (destab_word ∷ a)) three
          ∙ fault_in_table-number (body s) destab_form (destab_word ∷ w ∷ t ∷ u ∷ []) (w ∷ t ∷ u ∷ [])
          refl refl refl refl good_destab_choice
          (ap (λ o. is_none o || (is_none (numeral 0 (size (grid_in_force s) - 2) t) || false)) column_read
          ∙ ap (λ o. is_none o || false) (numeral_in_force s g m 2 t q None long is row_value none))

      module _ (d : ℕ) (row_found : q ≡ Some d) where
        row_read : numeral 0 (size (grid_in_force s) - 2) t ≡ Some d
        row_read = numeral_in_force s g m 2 t q (Some d) long is row_value row_found

        -- no block
        pub destab-block : is_block g c d v ≡ false
            → fault_in_table (body s) (destab_word ∷ arguments) ≡ Some fault.NotBlock
        destab-block none =
            ap (λ a. fault_in_table (body s) (destab_word ∷ a)) three
            ∙ fault_in_table-block (body s) destab_form (destab_word ∷ w ∷ t ∷ u ∷ []) (w ∷ t ∷ u ∷ [])
            refl refl refl refl good_destab_choice
            (ap (λ o. is_none o || (is_none (numeral 0 (size (grid_in_force s) - 2) t) || false)) column_read
            ∙ ap (λ o. is_none o || false) row_read) refl refl refl refl refl
            (has_no_block-read (grid_in_force s) w t u c d v column_read row_read (sym chosen ∙ some)
            ∙ ap not (ap (λ k. is_block k c d v) (sym is) ∙ none))

        -- a stabilisation that is undone
        pub destab-read : IsScript s → is_block g c d v ≡ true
            → IsReadLine s (destab_word ∷ arguments) (Some (command.Destab c d v))
        destab-read h block =
            let column = numeral-found 0 (size (grid_in_force s) - 2) c w column_read in
            let row = numeral-found 0 (size (grid_in_force s) - 2) d t row_read in
            let column_high = column.2 in
            let row_high = row.2 in
            let least = (IsGrid-grid_in_force s h).is_size.least in (
              ap (λ a. destab_word ∷ a) (three ∙ (λ i. column.0 i ∷ row.0 i ∷ destab_square i ∷ [])),
              (omega arith, omega arith, ap (λ k. is_block k c d v) (sym is) ∙ block),
            )
