-- Rows of pictures. A row has a fault by the first of: another number of symbols, a symbol that is none, not exactly
-- one
-- O and one X, and a mark in a column where a row before it has one (`picture-count` to `picture-permutation`). Without
-- a fault its symbols are those of a row with its marks in two columns (`picture-read`), and such a row has no fault
-- (`picture-right`). The columns of the rows so far are different (`IsPartOfPicture`), so that those of all rows make a
-- grid.
use Rattle.std.proofs.Common.{◌≡◌, ◌≢◌, ◌⊎◌, ℕ, zero, suc, ◌<◌, ◌≤◌, Bool, true, false, ◌||◌, not, cond, List, [], ◌∷◌, length, replicate, get_or, slice_index, Some, refl, ap, subst, ◌∙◌, sym, arith, inl, inr, true≢false, None}
use Rattle.std.specs.List.{list_any, Contains, All}
use Rattle.std.proofs.lemmas.Bool.{cases_Bool, cases_eq, eq-eqb, ne_eqb, or_parts, or_right, not-false}
use Rattle.std.proofs.lemmas.List.{length-replicate}
use Rattle.std.proofs.lemmas.List.Elements.{All-cons, All-contains, Contains-get_or}
use Rattle.std.proofs.lemmas.List.Kept.{AllPairs-cons}
use Rattle.torus_geom.specs.Marks.{IsGrid}
use Rattle.torus_geom.proofs.TransposeLemmas.{IsGrid-transposed}
use Rattle.grid_text.specs.Words.{Word, symbols, is_word, is_blank}
use Rattle.grid_text.specs.Picture.{row_symbols, FitsRow, o_symbol, x_symbol, grid_of_rows}
use Rattle.grid_text.specs.Document.{Place, picture, body_of, below_row, LeadsOn, o_word, x_word}
use Rattle.grid_text.specs.Faults.{Form, exactly, choice_of, is_bad_by, is_bad_count, has_bad, symbol_words, form_of_line, stands_once, stands_in, is_not_permutation, fault_in_table}
use Rattle.grid_text.specs.Inner.Kinds.{is_bad}
use Rattle.grid_text.specs.Inner.Pictures.{AreColumns, IsPartOfPicture, IsOnly, row_words}
use Rattle.grid_text.specs.Inner.Reading.{IsPlace}
use Rattle.grid_text.specs.declared.faults.TextFault.TheVariants as fault
use Rattle.state_rank.specs.Bijection.{IsSize, IsBijection}
use Rattle.grid_text.proofs.Lines.ScriptLemmas.{IsScript-no_command}
use Rattle.grid_text.proofs.Lines.KindLemmas.{list_any-never, count-other, count-exact, count-right}
use Rattle.grid_text.proofs.Lines.FaultLemmas.{NoRowHolds-from_none, fault_in_table-last, fault_in_table-count, fault_in_table-choice, fault_in_table-permutation}
use Rattle.grid_text.proofs.States.RepeatedLemmas.{list_any-none, none-list_any, IsBijection-from_apart}
use Rattle.grid_text.proofs.Paths.MarkLemmas.{once-IsOnly, IsOnly-once, length-row_words, length-row_symbols, get_or-row_symbols, IsOnly-o, IsOnly-x, row_symbols-good, symbol-here, row_of_marks, no_comment}
use Rattle.grid_text.proofs.Paths.RowLemmas.{zip-replicate}

-- ---- the rows so far

-- none
pub IsPartOfPicture-none : (n : ℕ) → IsPartOfPicture n [] []
IsPartOfPicture-none n = record {
  o_columns = AreColumns-none n;
  x_columns = AreColumns-none n;
  same_length = refl;
  apart = λ r l. absurd (omega (arith, l));
}
  where
    AreColumns-none : (n : ℕ) → AreColumns n []
    AreColumns-none n = record {
      below = λ k d l. absurd (omega (arith, l));
      apart = λ i j d l m. absurd (omega (arith, m));
    }

-- one more column
AreColumns-more : (n : ℕ) (columns : List ℕ) (c : ℕ) → AreColumns n columns → c < n → ¬ Contains columns c
    → AreColumns n (c ∷ columns)
AreColumns-more n columns c h below new = record {
  below = All-cons (λ b. b < n) c columns below h.below;
  apart = AllPairs-cons (λ a b. a ≢ b) c columns
      (λ k d l e. new (subst (Contains columns) (sym e) (Contains-get_or columns k d l))) h.apart;
}

-- one more row
pub IsPartOfPicture-more : (n : ℕ) (o x : List ℕ) (c d : ℕ) → IsPartOfPicture n o x → FitsRow n o x c d
    → IsPartOfPicture n (c ∷ o) (d ∷ x)
IsPartOfPicture-more n o x c d h fits =
    let same = h.same_length in
    record {
      o_columns = AreColumns-more n o c h.o_columns fits.o_within fits.new_o;
      x_columns = AreColumns-more n x d h.x_columns fits.x_within fits.new_x;
      same_length = omega arith;
      apart = apart;
    }
  where
    apart : (r : ℕ) → r < length (c ∷ o) → slice_index (c ∷ o) r ≢ slice_index (d ∷ x) r
    apart zero l = fits.apart
    apart (suc r) l = h.apart r (omega (arith, l))

-- the marks of all rows are those of a grid
IsGrid-rows : (n : ℕ) (o x : List ℕ) → IsSize n → IsPartOfPicture n o x → length o ≡ n
    → IsGrid (record { o = o; x = x })
IsGrid-rows n o x small h all =
    let same = h.same_length in
    let bijection_o = IsBijection-from_apart n o all h.o_columns.below h.o_columns.apart in
    let bijection_x = IsBijection-from_apart n x (omega arith) h.x_columns.below h.x_columns.apart in
    record {
      is_size = subst IsSize (sym all) small;
      o = subst (λ m. IsBijection m o) (sym all) bijection_o;
      x = subst (λ m. IsBijection m x) (sym all) bijection_x;
      apart = h.apart;
    }

-- with the last row they are all
pub IsGrid-last_row : (n : ℕ) (o x : List ℕ) (c d : ℕ) → IsPlace (picture n o x) → FitsRow n o x c d
    → length (c ∷ o) ≡ n → IsGrid (record { o = c ∷ o; x = d ∷ x })
IsGrid-last_row n o x c d h fits all =
    IsGrid-rows n (c ∷ o) (d ∷ x) h.0 (IsPartOfPicture-more n o x c d h.1 fits) all

-- the place after the last row, and after another
pub below_row-last : (n : ℕ) (o x : List ℕ) → length o ≡ n → below_row n o x ≡ body_of 1 (grid_of_rows o x)
below_row-last n o x all = ap (λ b. cond b (body_of 1 (grid_of_rows o x)) (picture n o x)) (eq-eqb (length o) n all)

pub below_row-more : (n : ℕ) (o x : List ℕ) → length o ≢ n → below_row n o x ≡ picture n o x
below_row-more n o x more = ap (λ b. cond b (body_of 1 (grid_of_rows o x)) (picture n o x)) (ne_eqb (length o) n more)

-- the place after a row is right
pub IsPlace-below_row : (n : ℕ) (o x : List ℕ) → IsSize n → IsPartOfPicture n o x → length o ≤ n
    → IsPlace (below_row n o x)
IsPlace-below_row n o x small h few = elim (cases_eq (length o) n) [
  | inl all ↦
      subst IsPlace (sym (below_row-last n o x all))
      (IsScript-no_command 1 (grid_of_rows o x) (inl refl)
      (IsGrid-transposed (record { o = o; x = x }) (IsGrid-rows n o x small h all)))
  | inr more ↦ subst IsPlace (sym (below_row-more n o x more)) (small, h, omega (arith, few, more))
]

-- ---- the faults of a row

-- the form of a row of a picture of size n: its symbols are n of these words
abbrev picture_form : ℕ → Form
picture_form n = exactly (replicate n (choice_of symbol_words))

-- each first word may stand there
row-known : (n : ℕ) (o x : List ℕ) (words : List Word) → is_blank words ≡ false
    → form_of_line (picture n o x) words ≡ Some (picture_form n)
row-known n o x [] filled = absurd (true≢false filled)
row-known n o x (w ∷ words) filled = refl

module _ (n : ℕ) (o x : List ℕ) (words : List Word) (filled : is_blank words ≡ false) where
  -- the symbols, each as a word
  abbrev its_words : List Word
  its_words = row_words (symbols words)

  -- another number of symbols
  picture-count : length (symbols words) ≢ n → fault_in_table (picture n o x) words ≡ Some fault.BadCount
  picture-count other =
      fault_in_table-count (picture n o x) (picture_form n) words its_words refl (row-known n o x words filled) refl
      (count-other (length (replicate n (choice_of symbol_words))) its_words
      (λ same. other (sym (length-row_words (symbols words)) ∙ same ∙ length-replicate n (choice_of symbol_words))))

  module _ (long : length (symbols words) ≡ n) where
    row-long : length its_words ≡ n
    row-long = length-row_words (symbols words) ∙ long

    row-counted : is_bad_count (picture_form n) its_words ≡ false
    row-counted =
        count-right (length (replicate n (choice_of symbol_words))) its_words
        (row-long ∙ sym (length-replicate n (choice_of symbol_words)))

    -- a symbol that is none
    picture-choice : list_any (is_bad (choice_of symbol_words)) its_words ≡ true
        → fault_in_table (picture n o x) words ≡ Some fault.BadChoice
    picture-choice bad =
        fault_in_table-choice (picture n o x) (picture_form n) words its_words refl (row-known n o x words filled) refl
        row-counted
        (zip-replicate (is_bad_by fault.BadChoice) (choice_of symbol_words) n its_words row-long ∙ bad)

    row-numbers : has_bad fault.BadNumber (picture_form n) its_words ≡ false
    row-numbers = zip-replicate (is_bad_by fault.BadNumber) (choice_of symbol_words) n its_words row-long
        ∙ list_any-never (is_bad_by fault.BadNumber (choice_of symbol_words)) its_words (λ w. refl)

    row-states : has_bad fault.BadState (picture_form n) its_words ≡ false
    row-states = zip-replicate (is_bad_by fault.BadState) (choice_of symbol_words) n its_words row-long
        ∙ list_any-never (is_bad_by fault.BadState (choice_of symbol_words)) its_words (λ w. refl)

    module _ (good : list_any (is_bad (choice_of symbol_words)) its_words ≡ false) where
      row-choices : has_bad fault.BadChoice (picture_form n) its_words ≡ false
      row-choices =
          zip-replicate (is_bad_by fault.BadChoice) (choice_of symbol_words) n its_words row-long ∙ good

      -- marks that may not stand there
      picture-permutation : is_not_permutation (picture n o x) its_words ≡ true
          → fault_in_table (picture n o x) words ≡ Some fault.NotPermutation
      picture-permutation wrong =
          fault_in_table-permutation (picture n o x) (picture_form n) words its_words refl
          (row-known n o x words filled) refl row-counted row-choices row-numbers wrong

      -- marks that may
      row-right : is_not_permutation (picture n o x) its_words ≡ false → fault_in_table (picture n o x) words ≡ None
      row-right right =
          fault_in_table-last (picture n o x) (picture_form n) words its_words refl (row-known n o x words filled) refl
          (record {
            count = row-counted;
            choice = row-choices;
            number = row-numbers;
            permutation = right;
            square = refl;
            state = row-states;
            repeated = refl;
            commuting = refl;
            block = refl;
            limit = refl;
          })

-- the tests of the marks, for the four causes
marks-wrong : (b c d e : Bool) → (b ≡ true) ⊎ ((c ≡ true) ⊎ ((d ≡ true) ⊎ (e ≡ true))) → (b || c || d || e) ≡ true
marks-wrong b c d e (inl t) = ap (λ a. a || c || d || e) t
marks-wrong b c d e (inr (inl t)) = ap (λ a. a || d || e) (or_right b c t)
marks-wrong b c d e (inr (inr (inl t))) = ap (λ a. a || e) (or_right (b || c) d t)
marks-wrong b c d e (inr (inr (inr t))) = or_right (b || c || d) e t

marks-right : (b c d e : Bool) → b ≡ false → c ≡ false → d ≡ false → e ≡ false → (b || c || d || e) ≡ false
marks-right b c d e p q r t = (λ i. p i || q i || r i || t i)

-- not exactly one O, or X; an O, or X, in a column that has one
pub no_o : (n : ℕ) (o x : List ℕ) (arguments : List Word) → stands_once o_word arguments ≡ false
    → is_not_permutation (picture n o x) arguments ≡ true
no_o n o x arguments f = marks-wrong _ _ _ _ (inl (ap not f))

pub no_x : (n : ℕ) (o x : List ℕ) (arguments : List Word) → stands_once x_word arguments ≡ false
    → is_not_permutation (picture n o x) arguments ≡ true
no_x n o x arguments f = marks-wrong _ _ _ _ (inr (inl (ap not f)))

-- an element that passes a test
passes-list_any : (p : ℕ → Bool) (xs : List ℕ) (c : ℕ) → Contains xs c → p c ≡ true → list_any p xs ≡ true
passes-list_any p xs c m t = elim (cases_Bool (list_any p xs)) [
  | inl passes ↦ passes
  | inr none ↦ absurd (true≢false (sym t ∙ none-list_any p xs none c m))
]

pub second_o : (n : ℕ) (o x : List ℕ) (arguments : List Word) (c : ℕ) → IsOnly (is_word o_word) arguments c
    → Contains o c → is_not_permutation (picture n o x) arguments ≡ true
second_o n o x arguments c only m =
    marks-wrong (not (stands_once o_word arguments)) (not (stands_once x_word arguments))
    (stands_in o o_word arguments) (stands_in x x_word arguments)
    (inr (inr (inl (passes-list_any (λ i. is_word o_word (get_or arguments i [])) o c m only.here))))

pub second_x : (n : ℕ) (o x : List ℕ) (arguments : List Word) (d : ℕ) → IsOnly (is_word x_word) arguments d
    → Contains x d → is_not_permutation (picture n o x) arguments ≡ true
second_x n o x arguments d only m =
    marks-wrong (not (stands_once o_word arguments)) (not (stands_once x_word arguments))
    (stands_in o o_word arguments) (stands_in x x_word arguments)
    (inr (inr (inr (passes-list_any (λ i. is_word x_word (get_or arguments i [])) x d m only.here))))

-- one mark in a new column
stands_in-new : (w : Word) (columns : List ℕ) (arguments : List Word) (n c : ℕ) → length arguments ≡ n
    → All (λ b. b < n) columns → IsOnly (is_word w) arguments c → ¬ Contains columns c
    → stands_in columns w arguments ≡ false
stands_in-new w columns arguments n c long below only new =
    list_any-none (λ i. is_word w (get_or arguments i [])) columns (λ i m.
    let within : i < n = All-contains (λ b. b < n) columns i below m in
    only.elsewhere i (omega arith) (λ e. new (subst (Contains columns) e m)))

-- a right row has no fault
pub picture-right : (n : ℕ) (o x : List ℕ) (words : List Word) (c d : ℕ) → IsPartOfPicture n o x
    → FitsRow n o x c d → symbols words ≡ row_symbols n c d → is_blank words ≡ false
    → fault_in_table (picture n o x) words ≡ None
picture-right n o x words c d h fits e filled =
    let long : length (symbols words) ≡ n = ap length e ∙ length-row_symbols n c d in
    let only_o = subst (λ r. IsOnly (is_word o_word) (row_words r) c) (sym e) (IsOnly-o n c d fits.o_within) in
    let only_x = subst (λ r. IsOnly (is_word x_word) (row_words r) d) (sym e)
    (IsOnly-x n c d fits.x_within fits.apart) in
    let long_words = length-row_words (symbols words) ∙ long in
    row-right n o x words filled long
    (ap (λ r. list_any (is_bad (choice_of symbol_words)) (row_words r)) e ∙ row_symbols-good n c d)
    (marks-right _ _ _ _ (ap not (once-IsOnly o_word (row_words (symbols words)) c only_o))
    (ap not (once-IsOnly x_word (row_words (symbols words)) d only_x))
    (stands_in-new o_word o (row_words (symbols words)) n c long_words h.o_columns.below only_o fits.new_o)
    (stands_in-new x_word x (row_words (symbols words)) n d long_words h.x_columns.below only_x fits.new_x))

-- ---- a row without a fault

-- and its marks are in two columns
marks_apart : (c d : ℕ) (row : List ℕ) → IsOnly (is_word o_word) (row_words row) c
    → IsOnly (is_word x_word) (row_words row) d → c ≢ d
marks_apart c d row only_o only_x e =
    let one = symbol-here o_symbol row c only_o in
    let other = symbol-here x_symbol row d only_x in
    omega (arith, sym one ∙ ap (λ k. get_or row k 0) e ∙ other)

-- marks in new columns
FitsRow-marks : (n : ℕ) (o x row : List ℕ) (c d : ℕ) → length row ≡ n → IsOnly (is_word o_word) (row_words row) c
    → IsOnly (is_word x_word) (row_words row) d → ¬ Contains o c → ¬ Contains x d → FitsRow n o x c d
FitsRow-marks n o x row c d long only_o only_x new_o new_x =
    let within = only_o.within in
    let within_x = only_x.within in
    let long_words = length-row_words row in
    record {
      o_within = omega arith;
      x_within = omega arith;
      apart = marks_apart c d row only_o only_x;
      new_o = new_o;
      new_x = new_x;
    }

-- a column is new if the word stands in none of the others
new_column : (w : Word) (columns : List ℕ) (arguments : List Word) (c : ℕ) → IsOnly (is_word w) arguments c
    → stands_in columns w arguments ≡ false → ¬ Contains columns c
new_column w columns arguments c only none m =
    true≢false (sym only.here ∙ none-list_any (λ i. is_word w (get_or arguments i [])) columns none c m)

-- a row without a fault has its marks in new columns
pub picture-read : (n : ℕ) (o x : List ℕ) (words : List Word) → is_blank words ≡ false
    → fault_in_table (picture n o x) words ≡ None
    → (c : ℕ) × ((d : ℕ) × (FitsRow n o x c d × (symbols words ≡ row_symbols n c d)))
picture-read n o x words filled none =
    let row = symbols words in
    let rows = NoRowHolds-from_none (picture n o x) (picture_form n) words (row_words row) refl
    (row-known n o x words filled) refl none in
    let long_words : length (row_words row) ≡ n =
    count-exact (length (replicate n (choice_of symbol_words))) (row_words row) rows.0.count
    ∙ length-replicate n (choice_of symbol_words) in
    let long : length row ≡ n = sym (length-row_words row) ∙ long_words in
    let good = sym (zip-replicate (is_bad_by fault.BadChoice) (choice_of symbol_words) n (row_words row) long_words)
    ∙ rows.0.choice in
    let last = or_parts (not (stands_once o_word (row_words row)) || not (stands_once x_word (row_words row))
    || stands_in o o_word (row_words row)) (stands_in x x_word (row_words row)) rows.0.permutation in
    let third = or_parts (not (stands_once o_word (row_words row)) || not (stands_once x_word (row_words row)))
    (stands_in o o_word (row_words row)) last.0 in
    let both = or_parts (not (stands_once o_word (row_words row))) (not (stands_once x_word (row_words row))) third.0 in
    let one_o = IsOnly-once o_word (row_words row) (not-false (stands_once o_word (row_words row)) both.0) in
    let one_x = IsOnly-once x_word (row_words row) (not-false (stands_once x_word (row_words row)) both.1) in (
      one_o.0,
      (
        one_x.0,
        (
          FitsRow-marks n o x row one_o.0 one_x.0 long one_o.1 one_x.1
              (new_column o_word o (row_words row) one_o.0 one_o.1 third.1)
              (new_column x_word x (row_words row) one_x.0 one_x.1 last.1),
          row_of_marks n one_o.0 one_x.0 row long good one_o.1 one_x.1,
        ),
      ),
    )

-- a right row is not blank
pub filled-row : (n : ℕ) (words : List Word) (c d : ℕ) → 0 < n → symbols words ≡ row_symbols n c d
    → is_blank words ≡ false
filled-row n [] c d some e = absurd (omega (arith, some, ap length e, length-row_symbols n c d))
filled-row n ([] ∷ words) c d some e = refl
filled-row n ((b ∷ w) ∷ words) c d some e =
    ne_eqb b 35 (λ comment. no_comment c d 0 (sym (get_or-row_symbols n c d 0 some)
    ∙ ap (λ r. get_or r 0 0) (sym e) ∙ comment))

-- ---- what the reader has read

-- a test of each symbol
list_any-row_words : (p : Word → Bool) (row : List ℕ) → list_any p (row_words row) ≡ list_any (λ b. p (b ∷ [])) row
list_any-row_words p [] = refl
list_any-row_words p (b ∷ row) = ap (λ t. p (b ∷ []) || t) (list_any-row_words p row)

module _ (n : ℕ) (o x row : List ℕ) (words : List Word) (filled : is_blank words ≡ false)
    (its_symbols : symbols words ≡ row) where
  pub read-count : length row ≢ n → fault_in_table (picture n o x) words ≡ Some fault.BadCount
  read-count other = picture-count n o x words filled (λ same. other (ap length (sym its_symbols) ∙ same))

  module _ (long : length row ≡ n) where
    pub read-choice : list_any (λ b. is_bad (choice_of symbol_words) (b ∷ [])) row ≡ true
        → fault_in_table (picture n o x) words ≡ Some fault.BadChoice
    read-choice bad =
        picture-choice n o x words filled (ap length its_symbols ∙ long)
        (ap (λ r. list_any (is_bad (choice_of symbol_words)) (row_words r)) its_symbols
        ∙ list_any-row_words (is_bad (choice_of symbol_words)) row ∙ bad)

    pub read-permutation : list_any (λ b. is_bad (choice_of symbol_words) (b ∷ [])) row ≡ false
        → is_not_permutation (picture n o x) (row_words row) ≡ true
        → fault_in_table (picture n o x) words ≡ Some fault.NotPermutation
    read-permutation good wrong =
        picture-permutation n o x words filled (ap length its_symbols ∙ long)
        (ap (λ r. list_any (is_bad (choice_of symbol_words)) (row_words r)) its_symbols
        ∙ list_any-row_words (is_bad (choice_of symbol_words)) row ∙ good)
        (ap (λ r. is_not_permutation (picture n o x) (row_words r)) its_symbols ∙ wrong)

-- a row without a fault
pub read-row : (n : ℕ) (o x row : List ℕ) (c d : ℕ) → length row ≡ n
    → list_any (λ b. is_bad (choice_of symbol_words) (b ∷ [])) row ≡ false
    → IsOnly (is_word o_word) (row_words row) c → IsOnly (is_word x_word) (row_words row) d
    → ¬ Contains o c → ¬ Contains x d → FitsRow n o x c d × (row ≡ row_symbols n c d)
read-row n o x row c d long good only_o only_x new_o new_x = (
  FitsRow-marks n o x row c d long only_o only_x new_o new_x,
  row_of_marks n c d row long (list_any-row_words (is_bad (choice_of symbol_words)) row ∙ good) only_o only_x,
)

-- where it leads
pub picture-next : (n : ℕ) (o x row : List ℕ) (words : List Word) (c d : ℕ) (q : Place) → IsPlace (picture n o x)
    → FitsRow n o x c d × (row ≡ row_symbols n c d) → symbols words ≡ row → q ≡ below_row n (c ∷ o) (d ∷ x)
    → LeadsOn (picture n o x) words q × IsPlace q
picture-next n o x row words c d q h fits its_symbols is = (
  (c, d, fits.0, its_symbols ∙ fits.1, is),
  subst IsPlace (sym is) (IsPlace-below_row n (c ∷ o) (d ∷ x) h.0 (IsPartOfPicture-more n o x c d h.1 fits.0)
      (omega (arith, h.2))),
)
