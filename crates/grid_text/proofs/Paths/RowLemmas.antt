-- The O and X lines. Such a line has a fault by the first of: another first word, another number of words, a word that
-- is no row, a row that stands twice, and, on the X line, a square with both marks (`row-word` to `row-square`);
-- without a fault its words are those of a bijection (`row-read`).
use Rattle.std.proofs.Common.{◌≡◌, ◌≢◌, ℕ, zero, suc, ◌+◌, ◌-◌, ◌<◌, ◌^◌, Bool, true, false, ◌||◌, cond, List, [], ◌∷◌, ◌++◌, length, map, replicate, take, set, Bor, get_or, slice_index, None, Some, refl, ap, subst, ◌∙◌, sym, arith, inl, inr, true≢false}
use Rattle.std.specs.List.{list_any, zip, Contains, All}
use Rattle.std.specs.Fmt.{decimal}
use Rattle.std.proofs.lemmas.Bool.{cases_Bool, or_parts}
use Rattle.std.proofs.lemmas.List.{length-map, length-replicate, map-append, take_more_set}
use Rattle.std.proofs.lemmas.List.Elements.{All-push, All-contains, Contains-get_or}
use Rattle.state_rank.specs.Bijection.{IsSize, IsBijection}
use Rattle.state_rank.specs.States.{IsState}
use Rattle.state_rank.proofs.MemberLemmas.{member_cases, member_head, member_tail, no_member}
use Rattle.grid_text.specs.Words.{Word, is_word}
use Rattle.torus_geom.specs.Marks.{AreBijections, SharesSquare}
use Rattle.torus_geom.specs.declared.grids.GridFault.{GridFault}
use Rattle.torus_geom.specs.declared.grids.GridFault.TheVariants.{NotPermutation, SameSquare}
use Rattle.std.proofs.lemmas.Fmt.{decimal_injective}
use Rattle.grid_text.specs.Document.{Place, o_line, x_line, o_word, x_word}
use Rattle.grid_text.specs.Faults.{Kind, Form, number_between, is_bad_by, form_at, form_among, row_form, is_after_end, is_not_commuting, is_not_block, is_at_limit, has_same_square, has_repeated, is_bad_count, has_bad, fault_in_table}
use Rattle.grid_text.specs.Inner.Kinds.{is_bad}
use Rattle.grid_text.specs.Inner.Reading.{IsRowPlace, AreNumerals}
use Rattle.grid_text.specs.declared.faults.TextFault.TheVariants as fault
use Rattle.grid_text.proofs.Lines.WordLemmas.{is_word-same, same_word, is_word-other}
use Rattle.grid_text.proofs.Lines.KindLemmas.{list_any-never, count-other, count-exact, count-right, number_of_word, number-good}
use Rattle.grid_text.proofs.Lines.SeenLemmas.{seen, seen-more, seen-all}
use Rattle.grid_text.proofs.States.RepeatedLemmas.{has_repeated-bijection, bijection-has_repeated, below-IsBijection}
use Rattle.grid_text.proofs.Lines.FaultLemmas.{NoRowHolds, NoRowHolds-from_none, fault_in_table-no_word, fault_in_table-bad_word, fault_in_table-last, fault_in_table-count, fault_in_table-number, fault_in_table-permutation, fault_in_table-square}

-- ---- a first word that is not the one expected

pub fault_in_table-other_word : (p : Place) (expected : Word) (form : Form) → is_after_end p ≡ false
    → ((w : Word) → form_at p w ≡ form_among ((expected, form) ∷ []) w)
    → (words : List Word) → ((rest : List Word) → words ≢ expected ∷ rest) → fault_in_table p words ≡ Some fault.BadWord
fault_in_table-other_word p expected form here forms [] other = fault_in_table-no_word p here
fault_in_table-other_word p expected form here forms (w ∷ words) other =
    fault_in_table-bad_word p w words here
    (forms w ∙ ap (λ b. cond b (Some form) None)
    (is_word-other expected w (λ e. other words (ap (λ v. v ∷ words) (sym e)))))

-- the form of the word that is expected
pub form_at-expected : (p : Place) (expected : Word) (form : Form)
    → ((w : Word) → form_at p w ≡ form_among ((expected, form) ∷ []) w) → form_at p expected ≡ Some form
form_at-expected p expected form forms = forms expected ∙ ap (λ b. cond b (Some form) None) (is_word-same expected)

-- ---- O and X lines

-- a test of each word for its kind, if all kinds are one
pub zip-replicate : (test : Kind → Word → Bool) (kind : Kind) (n : ℕ) (words : List Word) → length words ≡ n
    → list_any (λ (a : Kind × Word). test a.0 a.1) (zip (replicate n kind) words) ≡ list_any (test kind) words
zip-replicate test kind zero [] e = refl
zip-replicate test kind zero (w ∷ words) e = absurd (omega arith)
zip-replicate test kind (suc n) [] e = absurd (omega arith)
zip-replicate test kind (suc n) (w ∷ words) e =
    ap (λ b. test kind w || b) (zip-replicate test kind n words (omega arith))

module _ (p : Place) (letter : Word) (n : ℕ) (place : IsRowPlace letter n p) where
  -- the form of the line
  row-known : form_at p letter ≡ Some (row_form n)
  row-known = form_at-expected p letter (row_form n) place.form

  -- another first word
  pub row-word : (words : List Word) → ((rest : List Word) → words ≢ letter ∷ rest)
      → fault_in_table p words ≡ Some fault.BadWord
  row-word words other = fault_in_table-other_word p letter (row_form n) place.not_ended place.form words other

  module _ (words arguments : List Word) (e : words ≡ letter ∷ arguments) where
    -- another number of words
    pub row-count : length arguments ≢ n → fault_in_table p words ≡ Some fault.BadCount
    row-count other =
        ap (fault_in_table p) e
        ∙ fault_in_table-count p (row_form n) (letter ∷ arguments) arguments place.not_ended row-known
        (place.arguments letter arguments)
        (count-other (length (replicate n (number_between 0 (n - 1)))) arguments
        (λ same. other (same ∙ length-replicate n (number_between 0 (n - 1)))))

    module _ (long : length arguments ≡ n) where
      row-counted : is_bad_count (row_form n) arguments ≡ false
      row-counted =
          count-right (length (replicate n (number_between 0 (n - 1)))) arguments
          (long ∙ sym (length-replicate n (number_between 0 (n - 1))))

      row-choices : has_bad fault.BadChoice (row_form n) arguments ≡ false
      row-choices = zip-replicate (is_bad_by fault.BadChoice) (number_between 0 (n - 1)) n arguments long
          ∙ list_any-never (is_bad_by fault.BadChoice (number_between 0 (n - 1))) arguments (λ w. refl)

      -- a word that is no number below n
      pub row-number : list_any (is_bad (number_between 0 (n - 1))) arguments ≡ true
          → fault_in_table p words ≡ Some fault.BadNumber
      row-number bad =
          ap (fault_in_table p) e
          ∙ fault_in_table-number p (row_form n) (letter ∷ arguments) arguments place.not_ended row-known
          (place.arguments letter arguments) row-counted row-choices
          (zip-replicate (is_bad_by fault.BadNumber) (number_between 0 (n - 1)) n arguments long ∙ bad)

      module _ (good : list_any (is_bad (number_between 0 (n - 1))) arguments ≡ false) where
        row-numbers : has_bad fault.BadNumber (row_form n) arguments ≡ false
        row-numbers = zip-replicate (is_bad_by fault.BadNumber) (number_between 0 (n - 1)) n arguments long ∙ good

        -- two rows that are the same
        pub row-permutation : has_repeated arguments ≡ true → fault_in_table p words ≡ Some fault.NotPermutation
        row-permutation twice =
            ap (fault_in_table p) e
            ∙ fault_in_table-permutation p (row_form n) (letter ∷ arguments) arguments place.not_ended row-known
            (place.arguments letter arguments) row-counted row-choices
            row-numbers (place.permutation arguments ∙ twice)

        -- an O and an X in one square
        pub row-square : has_repeated arguments ≡ false → has_same_square p arguments ≡ true
            → fault_in_table p words ≡ Some fault.SameSquare
        row-square once shared =
            ap (fault_in_table p) e
            ∙ fault_in_table-square p (row_form n) (letter ∷ arguments) arguments place.not_ended row-known
            (place.arguments letter arguments) row-counted row-choices
            row-numbers (place.permutation arguments ∙ once) shared

        row-states : has_bad fault.BadState (row_form n) arguments ≡ false
        row-states = zip-replicate (is_bad_by fault.BadState) (number_between 0 (n - 1)) n arguments long
            ∙ list_any-never (is_bad_by fault.BadState (number_between 0 (n - 1))) arguments (λ w. refl)

-- rows below n have good words
pub rows-good : (n : ℕ) (rows : List ℕ) → n < 2 ^ 64 → ((r : ℕ) → Contains rows r → r < n)
    → list_any (is_bad (number_between 0 (n - 1))) (map decimal rows) ≡ false
rows-good n [] fits below = refl
rows-good n (r ∷ rows) fits below =
    let small = below r (member_head r rows) in
    ap (λ b. b || list_any (is_bad (number_between 0 (n - 1))) (map decimal rows))
    (number-good 0 (n - 1) r (omega arith) (omega arith) (omega arith))
    ∙ rows-good n rows fits (λ q m. below q (member_tail r rows q m))

-- good words are those of rows below n
pub rows_of_words : (n : ℕ) (words : List Word) → 0 < n → list_any (is_bad (number_between 0 (n - 1))) words ≡ false
    → (rows : List ℕ) × ((words ≡ map decimal rows) × ((r : ℕ) → Contains rows r → r < n))
rows_of_words n [] some good = ([], (refl, λ r m. absurd (no_member r m)))
rows_of_words n (w ∷ words) some good =
    let parts = or_parts (is_bad (number_between 0 (n - 1)) w)
    (list_any (is_bad (number_between 0 (n - 1))) words) good in
    let first = number_of_word 0 (n - 1) w parts.0 in
    let rest = rows_of_words n words some parts.1 in
    let high = first.1.2 in (
      first.0 ∷ rest.0,
      (
        (λ i. first.1.0 i ∷ rest.1.0 i),
        (λ r m. elim (member_cases first.0 rest.0 r m) [
          | inl e ↦ subst (λ q. q < n) e (omega arith)
          | inr later ↦ rest.1.1 r later
        ]),
      ),
    )

-- ---- what the reader has read

-- one more number
pub AreNumerals-more : (n : ℕ) (rows : List ℕ) (words : List (Bor (List ℕ))) (k v : ℕ) (d : Bor (List ℕ))
    → AreNumerals n (take k rows) (seen (take k words))
    → k < length words → k < length rows → (get_or words k d).now ≡ decimal v → v < n
    → AreNumerals n (take (k + 1) (set rows k v)) (seen (take (k + 1) words))
AreNumerals-more n rows words k v d h within room e small = record {
  forms =
      seen-more words k d within ∙ (λ i. h.forms i ++ e i ∷ []) ∙ sym (map-append decimal (take k rows) (v ∷ []))
      ∙ ap (map decimal) (sym (take_more_set rows k v room));
  below =
      subst (All (λ r. r < n)) (sym (take_more_set rows k v room))
      (All-push (λ r. r < n) (take k rows) v h.below small);
}

-- all numbers
pub AreNumerals-all : (n : ℕ) (rows : List ℕ) (words : List (Bor (List ℕ))) (k : ℕ) → k ≡ length words
    → AreNumerals n (take k rows) (seen (take k words)) → AreNumerals n (take (length words) rows) (seen words)
AreNumerals-all n rows words k e h =
    subst (λ j. AreNumerals n (take j rows) (seen words)) e
    (subst (AreNumerals n (take k rows)) (seen-all words k (omega arith)) h)

module _ (n : ℕ) (rows : List ℕ) (words : List Word) (h : AreNumerals n rows words) where
  -- as many rows as words
  pub length-AreNumerals : length words ≡ n → length rows ≡ n
  length-AreNumerals long = sym (length-map rows decimal) ∙ sym (ap length h.forms) ∙ long

  -- the words are good
  pub good-AreNumerals : n < 2 ^ 64 → list_any (is_bad (number_between 0 (n - 1))) words ≡ false
  good-AreNumerals fits =
      ap (list_any (is_bad (number_between 0 (n - 1)))) h.forms
      ∙ rows-good n rows fits (λ r m. All-contains (λ q. q < n) rows r h.below m)

  -- some word stands twice if the rows are no state
  pub twice-AreNumerals : IsSize n → length words ≡ n → (IsState rows → ⊥) → has_repeated words ≡ true
  twice-AreNumerals small long none = elim (cases_Bool (has_repeated words)) [
    | inl t ↦ t
    | inr once ↦
        let size = length-AreNumerals long in
        let bijection = bijection-has_repeated n rows size h.below (subst (λ w. has_repeated w ≡ false) h.forms once) in
        absurd (none (record {
          size = subst IsSize (sym size) small;
          bijection = subst (λ m. IsBijection m rows) (sym size) bijection;
        }))
  ]

  -- if they are a state
  pub read-AreNumerals : (letter : Word) (all : List Word) (x : List ℕ) → length words ≡ n → all ≡ letter ∷ words
      → x ≡ rows → IsState rows → IsBijection n x × (all ≡ letter ∷ map decimal x)
  read-AreNumerals letter all x long e same is = (
    subst (IsBijection n) (sym same) (subst (λ m. IsBijection m rows) (length-AreNumerals long) is.bijection),
    e ∙ ap (λ w. letter ∷ w) (h.forms ∙ ap (map decimal) (sym same)),
  )

-- ---- the X line

-- the places of O and X lines
pub IsRowPlace-o_line : (v n : ℕ) → IsRowPlace o_word n (o_line v n)
IsRowPlace-o_line v n = record { not_ended = refl; form = λ w. refl; arguments = λ w a. refl; permutation = λ a. refl }

pub IsRowPlace-x_line : (v n : ℕ) (o : List ℕ) → IsRowPlace x_word n (x_line v n o)
IsRowPlace-x_line v n o =
    record { not_ended = refl; form = λ w. refl; arguments = λ w a. refl; permutation = λ a. refl }

-- no O is in the square of an X
pub squares-apart : (o x : List ℕ) → length o ≡ length x
    → ((c : ℕ) → c < length o → slice_index o c ≢ slice_index x c) → ((r : ℕ) → Contains o r → r < 2 ^ 64)
    → ((r : ℕ) → Contains x r → r < 2 ^ 64)
    → list_any (λ (a : ℕ × Word). is_word (decimal a.0) a.1) (zip o (map decimal x)) ≡ false
squares-apart [] x same apart small small_x = refl
squares-apart (q ∷ o) [] same apart small small_x = refl
squares-apart (q ∷ o) (r ∷ x) same apart small small_x =
    ap (λ b. b || list_any (λ (a : ℕ × Word). is_word (decimal a.0) a.1) (zip o (map decimal x)))
    (is_word-other (decimal q) (decimal r) (λ e. apart 0 (omega arith)
    (decimal_injective q r (small q (member_head q o)) (small_x r (member_head r x)) e)))
    ∙ squares-apart o x (omega arith) (λ c l. apart (suc c) (omega arith)) (λ a m. small a (member_tail q o a m))
    (λ a m. small_x a (member_tail r x a m))

-- some O is in the square of an X
pub squares-shared : (o x : List ℕ) → length o ≡ length x → (c : ℕ) → c < length o → slice_index o c ≡ slice_index x c
    → list_any (λ (a : ℕ × Word). is_word (decimal a.0) a.1) (zip o (map decimal x)) ≡ true
squares-shared [] x same c within e = absurd (omega arith)
squares-shared (q ∷ o) [] same c within e = absurd (omega arith)
squares-shared (q ∷ o) (r ∷ x) same zero within e =
    ap (λ b. b || list_any (λ (a : ℕ × Word). is_word (decimal a.0) a.1) (zip o (map decimal x)))
    (ap (λ w. is_word (decimal q) (decimal w)) (sym e) ∙ is_word-same (decimal q))
squares-shared (q ∷ o) (r ∷ x) same (suc c) within e =
    ap (λ b. is_word (decimal q) (decimal r) || b) (squares-shared o x (omega arith) c (omega arith) e)
    ∙ or_true (is_word (decimal q) (decimal r))
  where
    or_true : (b : Bool) → (b || true) ≡ true
    or_true true = refl
    or_true false = refl

-- they are apart if no square is shared
pub apart-squares : (o x : List ℕ) → length o ≡ length x
    → list_any (λ (a : ℕ × Word). is_word (decimal a.0) a.1) (zip o (map decimal x)) ≡ false → (c : ℕ) → c < length o
    → slice_index o c ≢ slice_index x c
apart-squares o x same none c within e = true≢false (sym (squares-shared o x same c within e) ∙ none)

-- the fault of an X line whose rows are right but for a square
pub square-read : (v : ℕ) (o x : List ℕ) (words : List Word) → IsState o → IsBijection (length o) x
    → words ≡ x_word ∷ map decimal x → SharesSquare (record { o = o; x = x })
    → fault_in_table (x_line v (length o) o) words ≡ Some fault.SameSquare
square-read v o x words state_o bijection e shares =
    let small = state_o.size.greatest in
    let same : length o ≡ length x = sym bijection.long in
    row-square (x_line v (length o) o) x_word (length o) (IsRowPlace-x_line v (length o) o) words (map decimal x) e
    (length-map x decimal ∙ bijection.long) (rows-good (length o) x (omega arith)
    (below-IsBijection (length o) x bijection))
    (has_repeated-bijection (length o) x (omega arith) bijection) (squares-shared o x same shares.0 shares.1 shares.2)

-- the marks of a grid whose O and X lines are read have no fault but that
pub fault_of_grid : (o x : List ℕ) (f : GridFault) → IsState o → IsBijection (length o) x
    → ((f ≡ NotPermutation) → ¬ AreBijections (record { o = o; x = x }))
    → ((f ≡ SameSquare) → SharesSquare (record { o = o; x = x })) → SharesSquare (record { o = o; x = x })
fault_of_grid o x NotPermutation state_o bijection none shares =
    absurd (none refl (record { is_size = state_o.size; o = state_o.bijection; x = bijection }))
fault_of_grid o x SameSquare state_o bijection none shares = shares refl

-- ---- right lines, and lines without a fault

module _ (p : Place) (letter : Word) (n : ℕ) (place : IsRowPlace letter n p) where
  -- a line without a fault has rows that are a bijection
  pub row-read : IsSize n → (words : List Word) → fault_in_table p words ≡ None
      → (x : List ℕ) × (IsBijection n x × (words ≡ letter ∷ map decimal x)
      × (has_same_square p (map decimal x) ≡ false))
  row-read small [] e = let none : Some fault.BadWord ≡ None = sym (fault_in_table-no_word p place.not_ended) ∙ e in cc
  row-read small (w ∷ arguments) e = elim (cases_Bool (is_word letter w)) [
    | inl t ↦
        let same = same_word letter w t in
        let rows = NoRowHolds-from_none p (row_form n) (letter ∷ arguments) arguments place.not_ended
        (row-known p letter n place) (place.arguments letter arguments)
        (ap (λ v. fault_in_table p (v ∷ arguments)) same ∙ e) in
        let long : length arguments ≡ n =
        count-exact (length (replicate n (number_between 0 (n - 1)))) arguments rows.0.count
        ∙ length-replicate n (number_between 0 (n - 1)) in
        let least = small.least in
        let read = rows_of_words n arguments (omega arith)
        (sym (zip-replicate (is_bad_by fault.BadNumber) (number_between 0 (n - 1)) n arguments long)
        ∙ rows.0.number) in
        let long_rows : length read.0 ≡ n = sym (length-map read.0 decimal) ∙ sym (ap length read.1.0) ∙ long in
        let once : has_repeated (map decimal read.0) ≡ false =
        ap has_repeated (sym read.1.0) ∙ sym (place.permutation arguments) ∙ rows.0.permutation in (
          read.0,
          (
            bijection-has_repeated n read.0 long_rows
                (λ k d l. read.1.1 (get_or read.0 k d) (Contains-get_or read.0 k d l)) once,
            (λ i. sym same i ∷ read.1.0 i),
            ap (has_same_square p) (sym read.1.0) ∙ rows.0.square,
          ),
        )
    | inr f ↦
        let none : Some fault.BadWord ≡ None =
        sym (fault_in_table-bad_word p w arguments place.not_ended
        (place.form w ∙ ap (λ b. cond b (Some (row_form n)) None) f)) ∙ e in cc
  ]

  -- the rows of the table, but for the squares
  row-right : IsSize n → (x : List ℕ) → IsBijection n x → has_same_square p (map decimal x) ≡ false
      → is_not_commuting p (letter ∷ map decimal x) ≡ false
      → is_not_block p (letter ∷ map decimal x) ≡ false
      → is_at_limit p (letter ∷ map decimal x) ≡ false
      → NoRowHolds p (row_form n) (letter ∷ map decimal x) (map decimal x)
  row-right small x bijection apart commuting block limit =
      let most = small.greatest in
      let long : length (map decimal x) ≡ n = length-map x decimal ∙ bijection.long in
      let good = rows-good n x (omega arith) (below-IsBijection n x bijection) in
      record {
        count = row-counted p letter n place (letter ∷ map decimal x) (map decimal x) refl long;
        choice = row-choices p letter n place (letter ∷ map decimal x) (map decimal x) refl long;
        number = row-numbers p letter n place (letter ∷ map decimal x) (map decimal x) refl long good;
        permutation = place.permutation (map decimal x) ∙ has_repeated-bijection n x (omega arith) bijection;
        square = apart;
        state = row-states p letter n place (letter ∷ map decimal x) (map decimal x) refl long good;
        repeated = refl;
        commuting = commuting;
        block = block;
        limit = limit;
      }

-- O lines
pub o_line-right : (v n : ℕ) (o : List ℕ) (words : List Word) → IsSize n → IsBijection n o
    → words ≡ o_word ∷ map decimal o → fault_in_table (o_line v n) words ≡ None
o_line-right v n o words small bijection e =
    ap (fault_in_table (o_line v n)) e
    ∙ fault_in_table-last (o_line v n) (row_form n) (o_word ∷ map decimal o) (map decimal o) refl
    (row-known (o_line v n) o_word n (IsRowPlace-o_line v n)) refl
    (row-right (o_line v n) o_word n (IsRowPlace-o_line v n) small o bijection refl refl refl refl)

pub o_line-read : (v n : ℕ) (words : List Word) → IsSize n → fault_in_table (o_line v n) words ≡ None
    → (o : List ℕ) × (IsBijection n o × (words ≡ o_word ∷ map decimal o))
o_line-read v n words small none =
    let r = row-read (o_line v n) o_word n (IsRowPlace-o_line v n) small words none in (r.0, (r.1.0, r.1.1))

-- X lines
pub x_line-right : (v n : ℕ) (o x : List ℕ) (words : List Word) → IsSize n → IsBijection n o → IsBijection n x
    → ((c : ℕ) → c < n → slice_index o c ≢ slice_index x c) → words ≡ x_word ∷ map decimal x
    → fault_in_table (x_line v n o) words ≡ None
x_line-right v n o x words small bijection_o bijection apart e =
    let most = small.greatest in
    let long = bijection_o.long in
    ap (fault_in_table (x_line v n o)) e
    ∙ fault_in_table-last (x_line v n o) (row_form n) (x_word ∷ map decimal x) (map decimal x) refl
    (row-known (x_line v n o) x_word n (IsRowPlace-x_line v n o)) refl
    (row-right (x_line v n o) x_word n (IsRowPlace-x_line v n o) small x bijection
    (squares-apart o x (bijection_o.long ∙ sym bijection.long) (λ c l. apart c (omega arith))
    (λ r m. let b = below-IsBijection n o bijection_o r m in omega arith)
    (λ r m. let b = below-IsBijection n x bijection r m in omega arith)) refl refl refl)

pub x_line-read : (v n : ℕ) (o : List ℕ) (words : List Word) → IsSize n → IsBijection n o
    → fault_in_table (x_line v n o) words ≡ None
    → (x : List ℕ) × (IsBijection n x × ((c : ℕ) → c < n → slice_index o c ≢ slice_index x c)
    × (words ≡ x_word ∷ map decimal x))
x_line-read v n o words small bijection_o none =
    let r = row-read (x_line v n o) x_word n (IsRowPlace-x_line v n o) small words none in
    let long = bijection_o.long in
    (r.0, (r.1.0, (λ c l. apart-squares o r.0 (bijection_o.long ∙ sym r.1.0.long) r.1.2 c (omega arith)), r.1.1))
