-- The table of faults, row by row. The fault of a line is that of the first row that holds: a row that does not hold
-- is passed (`pass`), one that holds decides (`hit`). So each row has a lemma that asks that the rows before it do not
-- hold, and a line has no fault exactly if no row holds (`NoRowHolds`, but for the last row).
use Rattle.std.proofs.Common.{◌≡◌, Bool, true, false, cond, List, [], ◌∷◌, Option, None, Some, refl, ap, ◌∙◌, sym}
use Rattle.std.specs.Prelude.{is_none}
use Rattle.std.specs.Option.{option_map_or}
use Rattle.grid_text.specs.Words.{Word}
use Rattle.grid_text.specs.Document.{Place}
use Rattle.grid_text.specs.Faults.{Form, form_at, form_of_line, arguments_at, is_after_end, is_bad_count, has_bad, is_not_permutation, has_same_square, has_repeated_state, is_not_commuting, is_not_block, is_at_limit, is_one_too_many, rows_of_form, first_passed, fault_in_table}
use Rattle.grid_text.specs.declared.faults.TextFault.{TextFault}
use Rattle.grid_text.specs.declared.faults.TextFault.TheVariants as fault

-- a choice if the test fails, and if it passes
pass : {A : Type 0} (b : Bool) (x y o : A) → b ≡ false → y ≡ o → cond b x y ≡ o
pass b x y o fails later = ap (λ t. cond t x y) fails ∙ later

hit : {A : Type 0} (b : Bool) (x y : A) → b ≡ true → cond b x y ≡ x
hit b x y passes = ap (λ t. cond t x y) passes

-- if a row gives no fault, its test fails, and the later rows give none
no_hit : (b : Bool) (f : TextFault) (y : Option TextFault) → cond b (Some f) y ≡ None → (b ≡ false) × (y ≡ None)
no_hit true f y e = cc
no_hit false f y e = (refl, e)

-- none of the rows from the number of words on holds, but for the last
pub record NoRowHolds (p : Place) (form : Form) (words arguments : List Word) : Type 0 where
  pub count : is_bad_count form arguments ≡ false
  pub choice : has_bad fault.BadChoice form arguments ≡ false
  pub number : has_bad fault.BadNumber form arguments ≡ false
  pub permutation : is_not_permutation p arguments ≡ false
  pub square : has_same_square p arguments ≡ false
  pub state : has_bad fault.BadState form arguments ≡ false
  pub repeated : has_repeated_state form arguments ≡ false
  pub commuting : is_not_commuting p words ≡ false
  pub block : is_not_block p words ≡ false
  pub limit : is_at_limit p words ≡ false

-- the rows from the first word on
abbrev rows_from_word : Place → Option Form → List Word → List (TextFault × Bool)
rows_from_word p form words =
    (fault.BadWord, is_none form) ∷ option_map_or (λ f. rows_of_form p f (arguments_at p words) words) form []

-- after the end each line has a fault
pub fault_in_table-ended : (p : Place) (words : List Word) → is_after_end p ≡ true
    → fault_in_table p words ≡ Some fault.AfterEnd
unfolding fault_in_table
fault_in_table-ended p words e = hit _ _ _ e

-- a line without words
pub fault_in_table-no_word : (p : Place) → is_after_end p ≡ false → fault_in_table p [] ≡ Some fault.BadWord
unfolding fault_in_table
fault_in_table-no_word p here = pass _ _ _ _ here refl

-- a first word that is none of those that may stand there
pub fault_in_table-bad_word : (p : Place) (word : Word) (arguments : List Word) → is_after_end p ≡ false
    → form_at p word ≡ None → fault_in_table p (word ∷ arguments) ≡ Some fault.BadWord
unfolding fault_in_table
fault_in_table-bad_word p word arguments here unknown =
    pass _ _ _ _ here (ap (λ form. first_passed (rows_from_word p form (word ∷ arguments))) unknown)

module _ (p : Place) (form : Form) (words arguments : List Word) (here : is_after_end p ≡ false)
    (known : form_of_line p words ≡ Some form) (given : arguments_at p words ≡ arguments) where
  -- the rows of the form
  fault_in_table-rows : fault_in_table p words ≡ first_passed (rows_of_form p form arguments words)
  unfolding fault_in_table
  fault_in_table-rows =
      pass _ _ _ _ here (ap (λ f. first_passed (rows_from_word p f words)) known)
      ∙ ap (λ a. first_passed (rows_of_form p form a words)) given

  -- the last row decides if no other holds
  pub fault_in_table-last : NoRowHolds p form words arguments
      → fault_in_table p words ≡ cond (is_one_too_many p words) (Some fault.TooMany) None
  fault_in_table-last r =
      fault_in_table-rows
      ∙ pass _ _ _ _ r.count (pass _ _ _ _ r.choice (pass _ _ _ _ r.number
      (pass _ _ _ _ r.permutation (pass _ _ _ _ r.square (pass _ _ _ _ r.state
      (pass _ _ _ _ r.repeated (pass _ _ _ _ r.commuting
      (pass _ _ _ _ r.block (pass _ _ _ _ r.limit refl)))))))))

  -- and the other way round
  pub NoRowHolds-from_none : fault_in_table p words ≡ None
      → NoRowHolds p form words arguments × (is_one_too_many p words ≡ false)
  NoRowHolds-from_none e =
      let count = no_hit _ _ _ (sym fault_in_table-rows ∙ e) in
      let choice = no_hit _ _ _ count.1 in
      let number = no_hit _ _ _ choice.1 in
      let permutation = no_hit _ _ _ number.1 in
      let square = no_hit _ _ _ permutation.1 in
      let state = no_hit _ _ _ square.1 in
      let repeated = no_hit _ _ _ state.1 in
      let commuting = no_hit _ _ _ repeated.1 in
      let block = no_hit _ _ _ commuting.1 in
      let limit = no_hit _ _ _ block.1 in
      let many = no_hit _ _ _ limit.1 in (
        record {
          count = count.0;
          choice = choice.0;
          number = number.0;
          permutation = permutation.0;
          square = square.0;
          state = state.0;
          repeated = repeated.0;
          commuting = commuting.0;
          block = block.0;
          limit = limit.0;
        },
        many.0,
      )

  -- the number of words is not that of the form
  pub fault_in_table-count : is_bad_count form arguments ≡ true → fault_in_table p words ≡ Some fault.BadCount
  fault_in_table-count holds = fault_in_table-rows ∙ hit _ _ _ holds

  module _ (count : is_bad_count form arguments ≡ false) where
    -- a choice is none
    pub fault_in_table-choice : has_bad fault.BadChoice form arguments ≡ true
        → fault_in_table p words ≡ Some fault.BadChoice
    fault_in_table-choice holds = fault_in_table-rows ∙ pass _ _ _ _ count (hit _ _ _ holds)

    module _ (choice : has_bad fault.BadChoice form arguments ≡ false) where
      -- a number is none
      pub fault_in_table-number : has_bad fault.BadNumber form arguments ≡ true
          → fault_in_table p words ≡ Some fault.BadNumber
      fault_in_table-number holds = fault_in_table-rows ∙ pass _ _ _ _ count (pass _ _ _ _ choice (hit _ _ _ holds))

      module _ (number : has_bad fault.BadNumber form arguments ≡ false) where
        -- two numbers are the same
        pub fault_in_table-permutation : is_not_permutation p arguments ≡ true
            → fault_in_table p words ≡ Some fault.NotPermutation
        fault_in_table-permutation holds =
            fault_in_table-rows ∙ pass _ _ _ _ count (pass _ _ _ _ choice (pass _ _ _ _ number (hit _ _ _ holds)))

        module _ (permutation : is_not_permutation p arguments ≡ false) where
          -- an O and an X are in one square
          pub fault_in_table-square : has_same_square p arguments ≡ true
              → fault_in_table p words ≡ Some fault.SameSquare
          fault_in_table-square holds =
              fault_in_table-rows ∙ pass _ _ _ _ count (pass _ _ _ _ choice
              (pass _ _ _ _ number (pass _ _ _ _ permutation (hit _ _ _ holds))))

          module _ (square : has_same_square p arguments ≡ false) where
            -- a state is none
            pub fault_in_table-state : has_bad fault.BadState form arguments ≡ true
                → fault_in_table p words ≡ Some fault.BadState
            fault_in_table-state holds =
                fault_in_table-rows ∙ pass _ _ _ _ count (pass _ _ _ _ choice
                (pass _ _ _ _ number (pass _ _ _ _ permutation (pass _ _ _ _ square (hit _ _ _ holds)))))

            module _ (state : has_bad fault.BadState form arguments ≡ false) where
              -- two states are the same
              pub fault_in_table-repeated : has_repeated_state form arguments ≡ true
                  → fault_in_table p words ≡ Some fault.RepeatedState
              fault_in_table-repeated holds =
                  fault_in_table-rows
                  ∙ pass _ _ _ _ count (pass _ _ _ _ choice (pass _ _ _ _ number
                  (pass _ _ _ _ permutation (pass _ _ _ _ square (pass _ _ _ _ state (hit _ _ _ holds))))))

              module _ (repeated : has_repeated_state form arguments ≡ false) where
                -- the two columns or rows do not commute
                pub fault_in_table-commuting : is_not_commuting p words ≡ true
                    → fault_in_table p words ≡ Some fault.NotCommuting
                fault_in_table-commuting holds =
                    fault_in_table-rows
                    ∙ pass _ _ _ _ count (pass _ _ _ _ choice (pass _ _ _ _ number
                    (pass _ _ _ _ permutation (pass _ _ _ _ square (pass _ _ _ _ state
                    (pass _ _ _ _ repeated (hit _ _ _ holds)))))))

                module _ (commuting : is_not_commuting p words ≡ false) where
                  -- a block is none
                  pub fault_in_table-block : is_not_block p words ≡ true → fault_in_table p words ≡ Some fault.NotBlock
                  fault_in_table-block holds =
                      fault_in_table-rows
                      ∙ pass _ _ _ _ count (pass _ _ _ _ choice (pass _ _ _ _ number
                      (pass _ _ _ _ permutation (pass _ _ _ _ square (pass _ _ _ _ state
                      (pass _ _ _ _ repeated (pass _ _ _ _ commuting (hit _ _ _ holds))))))))

                  -- the grid has the greatest size
                  pub fault_in_table-limit : is_not_block p words ≡ false → is_at_limit p words ≡ true
                      → fault_in_table p words ≡ Some fault.SizeLimit
                  fault_in_table-limit block holds =
                      fault_in_table-rows
                      ∙ pass _ _ _ _ count (pass _ _ _ _ choice (pass _ _ _ _ number
                      (pass _ _ _ _ permutation (pass _ _ _ _ square (pass _ _ _ _ state
                      (pass _ _ _ _ repeated (pass _ _ _ _ commuting (pass _ _ _ _ block (hit _ _ _ holds)))))))))
