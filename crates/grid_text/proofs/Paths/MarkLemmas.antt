-- The marks of a row of a picture. If exactly one symbol is an O and one an X, and the others are those of empty
-- squares, the symbols are those of the row with its marks in these two columns (`row_of_marks`), and the other way
-- round (`IsOnly-o`, `IsOnly-x`).
use Rattle.std.proofs.Common.{◌≡◌, ◌≢◌, ℕ, zero, suc, ◌+◌, ◌<◌, Bool, true, false, ◌&&◌, ◌||◌, cond, List, [], ◌∷◌, length, get_or, Some, refl, ap, subst, ◌∙◌, sym, arith, inl, inr, true≢false, None}
use Rattle.std.specs.Prelude.{◌==◌, count_by}
use Rattle.std.specs.List.{list_any, Contains, position, position_from}
use Rattle.std.proofs.lemmas.Bool.{cases_Bool, cases_eq, eq-eqb, ne_eqb, not-false}
use Rattle.std.proofs.Math.Bool.{or-false}
use Rattle.std.proofs.lemmas.List.{length-map, get_or-map, get_or_default, ext_get_or}
use Rattle.std.proofs.lemmas.List.Elements.{Contains-get_or}
use Rattle.std.proofs.lemmas.List.Sums.{sum_by-cons}
use Rattle.std.proofs.lemmas.List.Quantifiers.{position-Some}
use Rattle.std.proofs.lemmas.Iterator.Adapters.{position_from-zero}
use Rattle.state_rank.proofs.OrderLemmas.{length-tabulate, get_or-tabulate}
use Rattle.grid_text.specs.Words.{Word, is_word}
use Rattle.grid_text.specs.Picture.{row_symbols, FitsRow, o_symbol, x_symbol, empty_symbol}
use Rattle.grid_text.specs.Document.{below_row, o_word, x_word}
use Rattle.grid_text.specs.Faults.{choice_of, symbol_words, stands_once}
use Rattle.grid_text.specs.Inner.Kinds.{is_bad}
use Rattle.grid_text.specs.Inner.Pictures.{IsOnly, row_words}
use Rattle.grid_text.proofs.Lines.WordLemmas.{same_word}
use Rattle.grid_text.proofs.States.RepeatedLemmas.{list_any-none, none-list_any}

-- ---- one word alone passes a test

-- one more word
count-cons : (p : Word → Bool) (w : Word) (words : List Word)
    → count_by p (w ∷ words) ≡ cond (p w) 1 0 + count_by p words
count-cons p w words = sum_by-cons (λ v. cond (p v) 1 0) w words

count-passes : (p : Word → Bool) (w : Word) (words : List Word) → p w ≡ true
    → count_by p (w ∷ words) ≡ 1 + count_by p words
count-passes p w words t = count-cons p w words ∙ ap (λ b. cond b 1 0 + count_by p words) t

count-fails : (p : Word → Bool) (w : Word) (words : List Word) → p w ≡ false
    → count_by p (w ∷ words) ≡ 0 + count_by p words
count-fails p w words f = count-cons p w words ∙ ap (λ b. cond b 1 0 + count_by p words) f

-- none passes
count-none : (p : Word → Bool) (words : List Word) → ((i : ℕ) → i < length words → p (get_or words i []) ≡ false)
    → count_by p words ≡ 0
count-none p [] none = refl
count-none p (w ∷ words) none =
    let first = count-fails p w words (none 0 (omega arith)) in
    let later = count-none p words (λ i l. none (suc i) (omega arith)) in
    omega (arith, first, later)

none-count_parts : (p : Word → Bool) (w : Word) (words : List Word) → count_by p (w ∷ words) ≡ 0
    → (p w ≡ false) × (count_by p words ≡ 0)
none-count_parts p w words e = elim (cases_Bool (p w)) [
  | inl t ↦ absurd (omega (arith, count-passes p w words t, e))
  | inr f ↦ (f, omega (arith, count-fails p w words f, e))
]

none-count : (p : Word → Bool) (words : List Word) → count_by p words ≡ 0 → (i : ℕ) → i < length words
    → p (get_or words i []) ≡ false
none-count p [] e i within = absurd (omega (arith, within))
none-count p (w ∷ words) e zero within = (none-count_parts p w words e).0
none-count p (w ∷ words) e (suc i) within =
    none-count p words (none-count_parts p w words e).1 i (omega (arith, within))

-- one passes
count-IsOnly : (p : Word → Bool) (words : List Word) (c : ℕ) → IsOnly p words c → count_by p words ≡ 1
count-IsOnly p [] c h = let within = h.within in absurd (omega (arith, within))
count-IsOnly p (w ∷ words) zero h =
    let first = count-passes p w words h.here in
    let later = count-none p words (λ i l. h.elsewhere (suc i) (omega arith) (λ e. omega (arith, e))) in
    omega (arith, first, later)
count-IsOnly p (w ∷ words) (suc c) h =
    let within = h.within in
    let first = count-fails p w words (h.elsewhere 0 (omega arith) (λ e. omega (arith, e))) in
    let later = count-IsOnly p words c (record {
      within = omega (arith, within);
      here = h.here;
      elsewhere = λ i l other. h.elsewhere (suc i) (omega arith) (λ e. other (omega (arith, e)));
    }) in
    omega (arith, first, later)

-- the first, or a later one
IsOnly-first : (p : Word → Bool) (w : Word) (words : List Word) → p w ≡ true → count_by p words ≡ 0
    → IsOnly p (w ∷ words) 0
IsOnly-first p w words t none = record { within = omega arith; here = t; elsewhere = elsewhere }
  where
    elsewhere : (i : ℕ) → i < length (w ∷ words) → i ≢ 0 → p (get_or (w ∷ words) i []) ≡ false
    elsewhere zero l other = absurd (other refl)
    elsewhere (suc i) l other = none-count p words none i (omega (arith, l))

IsOnly-later : (p : Word → Bool) (w : Word) (words : List Word) (c : ℕ) → p w ≡ false → IsOnly p words c
    → IsOnly p (w ∷ words) (suc c)
IsOnly-later p w words c f h =
    let within = h.within in
    record { within = omega arith; here = h.here; elsewhere = elsewhere }
  where
    elsewhere : (i : ℕ) → i < length (w ∷ words) → i ≢ suc c → p (get_or (w ∷ words) i []) ≡ false
    elsewhere zero l other = f
    elsewhere (suc i) l other = h.elsewhere i (omega (arith, l)) (λ e. other (ap suc e))

IsOnly-count : (p : Word → Bool) (words : List Word) → count_by p words ≡ 1 → (c : ℕ) × IsOnly p words c
IsOnly-count p [] e = absurd (omega (arith, e))
IsOnly-count p (w ∷ words) e = elim (cases_Bool (p w)) [
  | inl t ↦ (0, IsOnly-first p w words t (omega (arith, count-passes p w words t, e)))
  | inr f ↦
      let later = IsOnly-count p words (omega (arith, count-fails p w words f, e)) in
      (suc later.0, IsOnly-later p w words later.0 f later.1)
]

-- the test of the table
pub once-IsOnly : (w : Word) (words : List Word) (c : ℕ) → IsOnly (is_word w) words c → stands_once w words ≡ true
once-IsOnly w words c h =
    eq-eqb (count_by (is_word w) words) 1 (count-IsOnly (is_word w) words c h)

pub IsOnly-once : (w : Word) (words : List Word) → stands_once w words ≡ true → (c : ℕ) × IsOnly (is_word w) words c
IsOnly-once w words t = elim (cases_eq (count_by (is_word w) words) 1) [
  | inl e ↦ IsOnly-count (is_word w) words e
  | inr other ↦ absurd (true≢false (sym t ∙ ne_eqb (count_by (is_word w) words) 1 other))
]

-- ---- symbols as words

get_or-row_words : (row : List ℕ) (i : ℕ) → i < length row → get_or (row_words row) i [] ≡ get_or row i 0 ∷ []
get_or-row_words row i within = get_or-map (λ (b : ℕ). b ∷ []) row i 0 [] within

pub length-row_words : (row : List ℕ) → length (row_words row) ≡ length row
length-row_words row = length-map row (λ (b : ℕ). b ∷ [])

-- a symbol is another, or not
symbol-same : (m b : ℕ) → b ≡ m → is_word (m ∷ []) (b ∷ []) ≡ true
symbol-same m b e = ap (λ t. t && true) (eq-eqb m b (sym e))

symbol-other : (m b : ℕ) → b ≢ m → is_word (m ∷ []) (b ∷ []) ≡ false
symbol-other m b other = ap (λ t. t && true) (ne_eqb m b (λ e. other (sym e)))

symbol_of_word : (m b : ℕ) → is_word (m ∷ []) (b ∷ []) ≡ true → b ≡ m
symbol_of_word m b t = let e : m ∷ [] ≡ b ∷ [] = same_word (m ∷ []) (b ∷ []) t in cc

-- ---- the symbols of a row

abbrev pub symbol_at : ℕ → ℕ → ℕ → ℕ
symbol_at c d i = cond (i == c) o_symbol (cond (i == d) x_symbol empty_symbol)

symbol_at-o : (c d i : ℕ) → i ≡ c → symbol_at c d i ≡ o_symbol
symbol_at-o c d i e = ap (λ b. cond b o_symbol (cond (i == d) x_symbol empty_symbol)) (eq-eqb i c e)

symbol_at-other : (c d i : ℕ) → i ≢ c → symbol_at c d i ≡ cond (i == d) x_symbol empty_symbol
symbol_at-other c d i other = ap (λ b. cond b o_symbol (cond (i == d) x_symbol empty_symbol)) (ne_eqb i c other)

symbol_at-x : (c d i : ℕ) → i ≢ c → i ≡ d → symbol_at c d i ≡ x_symbol
symbol_at-x c d i other e = symbol_at-other c d i other ∙ ap (λ b. cond b x_symbol empty_symbol) (eq-eqb i d e)

symbol_at-empty : (c d i : ℕ) → i ≢ c → i ≢ d → symbol_at c d i ≡ empty_symbol
symbol_at-empty c d i no_o no_x =
    symbol_at-other c d i no_o ∙ ap (λ b. cond b x_symbol empty_symbol) (ne_eqb i d no_x)

-- it is an O in column c alone, and an X in column d alone
o-elsewhere : (c d i : ℕ) → i ≢ c → symbol_at c d i ≢ o_symbol
o-elsewhere c d i other e = elim (cases_eq i d) [
  | inl at ↦ absurd (omega (arith, sym (symbol_at-x c d i other at) ∙ e))
  | inr empty ↦ absurd (omega (arith, sym (symbol_at-empty c d i other empty) ∙ e))
]

x-elsewhere : (c d i : ℕ) → i ≢ d → symbol_at c d i ≢ x_symbol
x-elsewhere c d i other e = elim (cases_eq i c) [
  | inl at ↦ absurd (omega (arith, sym (symbol_at-o c d i at) ∙ e))
  | inr empty ↦ absurd (omega (arith, sym (symbol_at-empty c d i empty other) ∙ e))
]

-- each is a symbol
symbol_at-good : (c d i : ℕ) → is_bad (choice_of symbol_words) (symbol_at c d i ∷ []) ≡ false
symbol_at-good c d i = elim (cases_eq i c) [
  | inl o ↦ ap (λ b. is_bad (choice_of symbol_words) (b ∷ [])) (symbol_at-o c d i o)
  | inr no_o ↦ elim (cases_eq i d) [
    | inl x ↦ ap (λ b. is_bad (choice_of symbol_words) (b ∷ [])) (symbol_at-x c d i no_o x)
    | inr no_x ↦ ap (λ b. is_bad (choice_of symbol_words) (b ∷ [])) (symbol_at-empty c d i no_o no_x)
  ]
]

-- and none begins a comment
pub no_comment : (c d i : ℕ) → symbol_at c d i ≢ 35
no_comment c d i is = elim (cases_eq i c) [
  | inl o ↦ omega (arith, sym (symbol_at-o c d i o) ∙ is)
  | inr no_o ↦ elim (cases_eq i d) [
    | inl x ↦ omega (arith, sym (symbol_at-x c d i no_o x) ∙ is)
    | inr no_x ↦ omega (arith, sym (symbol_at-empty c d i no_o no_x) ∙ is)
  ]
]

-- a good symbol that is no O and no X is that of an empty square
empty_of_good : (b : ℕ) → is_bad (choice_of symbol_words) (b ∷ []) ≡ false → b ≢ o_symbol → b ≢ x_symbol
    → b ≡ empty_symbol
empty_of_good b good no_o no_x =
    let rest : (is_word o_word (b ∷ []) || (is_word x_word (b ∷ []) || false)) ≡ false =
    ap (λ t. t || (is_word x_word (b ∷ []) || false)) (symbol-other o_symbol b no_o)
    ∙ ap (λ t. t || false) (symbol-other x_symbol b no_x) in
    symbol_of_word empty_symbol b
    (sym (or-false (is_word (empty_symbol ∷ []) (b ∷ [])))
    ∙ ap (λ t. is_word (empty_symbol ∷ []) (b ∷ []) || t) (sym rest)
    ∙ not-false (list_any (λ w. is_word w (b ∷ [])) symbol_words) good)

module _ (n c d : ℕ) where
  pub length-row_symbols : length (row_symbols n c d) ≡ n
  length-row_symbols = length-tabulate n (symbol_at c d)

  pub get_or-row_symbols : (i : ℕ) → i < n → get_or (row_symbols n c d) i 0 ≡ symbol_at c d i
  get_or-row_symbols i below = get_or-tabulate n (symbol_at c d) i 0 below

  -- as words
  word-row_symbols : (i : ℕ) → i < length (row_words (row_symbols n c d))
      → get_or (row_words (row_symbols n c d)) i [] ≡ symbol_at c d i ∷ []
  word-row_symbols i within =
      let below : i < n = omega (arith, within, length-row_words (row_symbols n c d), length-row_symbols) in
      get_or-row_words (row_symbols n c d) i (omega (arith, below, length-row_symbols))
      ∙ ap (λ b. b ∷ []) (get_or-row_symbols i below)

  -- one O and one X
  pub IsOnly-o : c < n → IsOnly (is_word o_word) (row_words (row_symbols n c d)) c
  IsOnly-o below =
      let within : c < length (row_words (row_symbols n c d)) =
      omega (arith, below, length-row_words (row_symbols n c d), length-row_symbols) in
      record {
        within = within;
        here = ap (is_word o_word) (word-row_symbols c within)
            ∙ symbol-same o_symbol (symbol_at c d c) (symbol_at-o c d c refl);
        elsewhere = λ i l other. ap (is_word o_word) (word-row_symbols i l)
            ∙ symbol-other o_symbol (symbol_at c d i) (o-elsewhere c d i other);
      }

  pub IsOnly-x : d < n → c ≢ d → IsOnly (is_word x_word) (row_words (row_symbols n c d)) d
  IsOnly-x below apart =
      let within : d < length (row_words (row_symbols n c d)) =
      omega (arith, below, length-row_words (row_symbols n c d), length-row_symbols) in
      record {
        within = within;
        here = ap (is_word x_word) (word-row_symbols d within)
            ∙ symbol-same x_symbol (symbol_at c d d) (symbol_at-x c d d (λ e. apart (sym e)) refl);
        elsewhere = λ i l other. ap (is_word x_word) (word-row_symbols i l)
            ∙ symbol-other x_symbol (symbol_at c d i) (x-elsewhere c d i other);
      }

  -- each is a symbol
  pub row_symbols-good : list_any (is_bad (choice_of symbol_words)) (row_words (row_symbols n c d)) ≡ false
  row_symbols-good = list_any-none (is_bad (choice_of symbol_words)) (row_words (row_symbols n c d))
      (λ w m. ap (is_bad (choice_of symbol_words))
      (sym m.2 ∙ get_or_default (row_words (row_symbols n c d)) m.0 w [] m.1 ∙ word-row_symbols m.0 m.1)
      ∙ symbol_at-good c d m.0)

-- the marks of a row stand in one column each
one_o : (n c d a b : ℕ) → c < n → row_symbols n c d ≡ row_symbols n a b → c ≡ a
one_o n c d a b below e = elim (cases_eq c a) [
  | inl same ↦ same
  | inr other ↦ absurd (o-elsewhere a b c other
      (sym (get_or-row_symbols n a b c below) ∙ ap (λ r. get_or r c 0) (sym e) ∙ get_or-row_symbols n c d c below
      ∙ symbol_at-o c d c refl))
]

one_x : (n c d a b : ℕ) → d < n → c ≢ d → row_symbols n c d ≡ row_symbols n a b → d ≡ b
one_x n c d a b below apart e = elim (cases_eq d b) [
  | inl same ↦ same
  | inr other ↦ absurd (x-elsewhere a b d other
      (sym (get_or-row_symbols n a b d below) ∙ ap (λ r. get_or r d 0) (sym e) ∙ get_or-row_symbols n c d d below
      ∙ symbol_at-x c d d (λ same. apart (sym same)) refl))
]

-- rows of the same symbols lead on to one place
pub one_row : (n : ℕ) (o x : List ℕ) (c d a b : ℕ) (row : List ℕ) → FitsRow n o x c d → row ≡ row_symbols n c d
    → row ≡ row_symbols n a b → below_row n (c ∷ o) (d ∷ x) ≡ below_row n (a ∷ o) (b ∷ x)
one_row n o x c d a b row fits e f =
    let same : row_symbols n c d ≡ row_symbols n a b = sym e ∙ f in
    let same_o = one_o n c d a b fits.o_within same in
    let same_x = one_x n c d a b fits.x_within fits.apart same in
    (λ i. below_row n (same_o i ∷ o) (same_x i ∷ x))

-- ---- marks that stand once

-- a symbol if one word alone passes
pub symbol-here : (m : ℕ) (row : List ℕ) (c : ℕ) → IsOnly (is_word (m ∷ [])) (row_words row) c → get_or row c 0 ≡ m
symbol-here m row c only =
    let within = only.within in
    let l : c < length row = omega (arith, within, length-row_words row) in
    symbol_of_word m (get_or row c 0) (ap (is_word (m ∷ [])) (sym (get_or-row_words row c l)) ∙ only.here)

symbol-elsewhere : (m : ℕ) (row : List ℕ) (c i : ℕ) → IsOnly (is_word (m ∷ [])) (row_words row) c → i < length row
    → i ≢ c → get_or row i 0 ≢ m
symbol-elsewhere m row c i only l other e =
    true≢false (sym (symbol-same m (get_or row i 0) e) ∙ ap (is_word (m ∷ [])) (sym (get_or-row_words row i l))
    ∙ only.elsewhere i (omega (arith, l, length-row_words row)) other)

-- good symbols with one O and one X are those of such a row
pub row_of_marks : (n c d : ℕ) (row : List ℕ) → length row ≡ n
    → list_any (is_bad (choice_of symbol_words)) (row_words row) ≡ false → IsOnly (is_word o_word) (row_words row) c
    → IsOnly (is_word x_word) (row_words row) d → row ≡ row_symbols n c d
row_of_marks n c d row long good only_o only_x =
    ext_get_or 0 row (row_symbols n c d) (long ∙ sym (length-row_symbols n c d))
    (λ i l. here i l ∙ sym (get_or-row_symbols n c d i (omega (arith, l, long))))
  where
    good_at : (i : ℕ) → i < length row → is_bad (choice_of symbol_words) (get_or row i 0 ∷ []) ≡ false
    good_at i l =
        none-list_any (is_bad (choice_of symbol_words)) (row_words row) good (get_or row i 0 ∷ [])
        (subst (Contains (row_words row)) (get_or-row_words row i l)
        (Contains-get_or (row_words row) i [] (omega (arith, l, length-row_words row))))

    here : (i : ℕ) → i < length row → get_or row i 0 ≡ symbol_at c d i
    here i l = elim (cases_eq i c) [
      | inl o ↦ ap (λ k. get_or row k 0) o ∙ symbol-here o_symbol row c only_o ∙ sym (symbol_at-o c d i o)
      | inr no_o ↦ elim (cases_eq i d) [
        | inl x ↦ ap (λ k. get_or row k 0) x ∙ symbol-here x_symbol row d only_x ∙ sym (symbol_at-x c d i no_o x)
        | inr no_x ↦
            empty_of_good (get_or row i 0) (good_at i l) (symbol-elsewhere o_symbol row c i only_o l no_o)
            (symbol-elsewhere x_symbol row d i only_x l no_x) ∙ sym (symbol_at-empty c d i no_o no_x)
      ]
    ]

-- ---- what the reader has found

-- it counts symbols
count-symbols : (m : ℕ) (row : List ℕ) → count_by (is_word (m ∷ [])) (row_words row) ≡ count_by (λ b. b == m) row
count-symbols m [] = refl
count-symbols m (b ∷ row) =
    count-cons (is_word (m ∷ [])) (b ∷ []) (row_words row)
    ∙ (λ i. cond (same i) 1 0 + count-symbols m row i)
    ∙ sym (sum_by-cons (λ a. cond (a == m) 1 0) b row)
  where
    same : is_word (m ∷ []) (b ∷ []) ≡ (b == m)
    same = elim (cases_eq b m) [
      | inl e ↦ symbol-same m b e ∙ sym (eq-eqb b m e)
      | inr other ↦ symbol-other m b other ∙ sym (ne_eqb b m other)
    ]

-- another number of marks than one
pub once-other : (m : ℕ) (row : List ℕ) → count_by (λ b. b == m) row ≢ 1 → stands_once (m ∷ []) (row_words row) ≡ false
once-other m row other =
    ne_eqb (count_by (is_word (m ∷ [])) (row_words row)) 1 (λ e. other (sym (count-symbols m row) ∙ e))

-- one mark, in the column where it is found
pub IsOnly-position : (m : ℕ) (row : List ℕ) (c : ℕ) → count_by (λ b. b == m) row ≡ 1
    → position (λ b. b == m) row ≡ Some c → IsOnly (is_word (m ∷ [])) (row_words row) c
IsOnly-position m row c one first =
    let found = position-Some (λ b. b == m) row c 0 first in
    let only = IsOnly-count (is_word (m ∷ [])) (row_words row) (count-symbols m row ∙ one) in
    elim (cases_eq c only.0) [
      | inl same ↦ subst (IsOnly (is_word (m ∷ [])) (row_words row)) (sym same) only.1
      | inr other ↦
          let no_mark = symbol-elsewhere m row only.0 c only.1 found.0 other in
          absurd (true≢false (sym found.1 ∙ ne_eqb (get_or row c 0) m no_mark))
    ]

-- if none is found, there is none
pub count-position_none : (p : ℕ → Bool) (row : List ℕ) → position p row ≡ None → count_by p row ≡ 0
count-position_none p row none = from_place 0 row (sym (position_from-zero p row) ∙ none)
  where
    from_place : (i : ℕ) (row : List ℕ) → position_from p i row ≡ None → count_by p row ≡ 0
    from_place i [] none = refl
    from_place i (b ∷ row) none = elim (cases_Bool (p b)) [
      | inl t ↦
          let clash : Some i ≡ None =
          sym (ap (λ t. cond t (Some i) (position_from p (i + 1) row)) t) ∙ none in cc
      | inr f ↦
          let later = from_place (i + 1) row (sym (ap (λ t. cond t (Some i) (position_from p (i + 1) row)) f) ∙ none) in
          sum_by-cons (λ a. cond (p a) 1 0) b row ∙ ap (λ t. cond t 1 0 + count_by p row) f ∙ ap (λ k. 0 + k) later
    ]
