-- The kinds of words: which words are bad for their kind, and the number of the words of a line. A word that is
-- looked for among the words of some values is that of the value that is found; so a good word of a kind is that of
-- a sign, side, corner or square, of a number, or of a state, and the words of good arguments are good.
use Rattle.std.proofs.Common.{◌≡◌, ◌≢◌, ℕ, ◌+◌, ◌-◌, ◌<◌, ◌≤◌, ◌^◌, Bool, true, false, not, ◌||◌, cond, List, [], ◌∷◌, length, map, Option, None, Some, refl, ap, ◌∙◌, sym, arith, inl, inr, true≢false}
use Rattle.std.specs.Prelude.{is_none, ◌==◌}
use Rattle.std.specs.List.{list_any, find, zip}
use Rattle.std.specs.Fmt.{decimal}
use Rattle.std.proofs.lemmas.Bool.{cases_Bool, eq-eqb, cases_eq, ne_eqb, not-false}
use Rattle.std.proofs.lemmas.List.{length-map}
use Rattle.state_rank.specs.States.{state_word}
use Rattle.state_rank.specs.Bijection.{IsBijection}
use Rattle.grid_moves.specs.declared.turns.Side.{Side}
use Rattle.grid_moves.specs.declared.turns.Side.TheVariants.{Left, Right, Up, Down}
use Rattle.grid_moves.specs.declared.commutations.Axis.{Axis}
use Rattle.grid_moves.specs.declared.commutations.Axis.TheVariants.{Cols, Rows}
use Rattle.pentagon_map.specs.declared.Corner.{Corner}
use Rattle.pentagon_map.specs.declared.Corner.TheVariants.{Over, Under}
use Rattle.stabilise.specs.declared.squares.Square.{Square}
use Rattle.stabilise.specs.declared.squares.Square.TheVariants.{Nw, Ne, Sw, Se}
use Rattle.grid_text.specs.Words.{Word, is_word, numeral, state_of}
use Rattle.grid_text.specs.Commands.{sign_word, signs, side_word, sides, corner_word, corners, square_word, squares, axis_word, axes, Argument, sign, side, corner, square, axis, number, first_of_two, state, argument_word}
use Rattle.grid_text.specs.Faults.{Kind, choice_of, number_between, state_of_size, kind_of, is_bad_by, has_bad, exactly, is_bad_count}
use Rattle.grid_text.specs.Inner.Kinds.{is_bad}
use Rattle.grid_text.specs.declared.commands.Sign.{Sign}
use Rattle.grid_text.specs.declared.commands.Sign.TheVariants.{Plus, Minus}
use Rattle.grid_text.specs.declared.faults.TextFault.{TextFault}
use Rattle.grid_text.specs.declared.faults.TextFault.TheVariants as fault
use Rattle.grid_text.proofs.Lines.WordLemmas.{same_word, found, numeral-decimal, numeral-found, state_of-state_word, state_of-found}

-- ---- the number of words

-- another number of words than k
pub count-other : (k : ℕ) (words : List Word) → length words ≢ k → not (k == length words) ≡ true
count-other k words other = ap not (ne_eqb k (length words) (λ e. other (sym e)))

-- no other number of words than k
pub count-exact : (k : ℕ) (words : List Word) → not (k == length words) ≡ false → length words ≡ k
count-exact k words e = elim (cases_eq k (length words)) [
  | inl same ↦ sym same
  | inr other ↦ absurd (true≢false (sym (ap not (ne_eqb k (length words) other)) ∙ e))
]

-- and the other way round
pub count-right : (k : ℕ) (words : List Word) → length words ≡ k → not (k == length words) ≡ false
count-right k words e = ap not (eq-eqb k (length words) (sym e))

-- lists of one, two and three words
pub one_word : (words : List Word) → length words ≡ 1 → (w : Word) × (words ≡ w ∷ [])
one_word [] e = absurd (omega arith)
one_word (w ∷ []) e = (w, refl)
one_word (w ∷ v ∷ words) e = absurd (omega arith)

pub two_words : (words : List Word) → length words ≡ 2 → (v : Word) × (w : Word) × (words ≡ v ∷ w ∷ [])
two_words [] e = absurd (omega arith)
two_words (w ∷ []) e = absurd (omega arith)
two_words (v ∷ w ∷ []) e = (v, w, refl)
two_words (v ∷ w ∷ u ∷ words) e = absurd (omega arith)

pub three_words : (words : List Word) → length words ≡ 3
    → (u : Word) × (v : Word) × (w : Word) × (words ≡ u ∷ v ∷ w ∷ [])
three_words [] e = absurd (omega arith)
three_words (w ∷ []) e = absurd (omega arith)
three_words (v ∷ w ∷ []) e = absurd (omega arith)
three_words (u ∷ v ∷ w ∷ []) e = (u, v, w, refl)
three_words (t ∷ u ∷ v ∷ w ∷ words) e = absurd (omega arith)

-- ---- tests

-- a list has no element that passes a test that never does
pub list_any-never : {A : Type 0} (p : A → Bool) (xs : List A) → ((x : A) → p x ≡ false) → list_any p xs ≡ false
list_any-never p [] never = refl
list_any-never p (x ∷ xs) never = ap (λ b. b || list_any p xs) (never x) ∙ list_any-never p xs never

-- a word of the kind has none of the faults of a word that is not
is_bad_by-good : (f : TextFault) (kind : Kind) (w : Word) → is_bad kind w ≡ false → is_bad_by f kind w ≡ false
is_bad_by-good fault.BadChoice (choice_of words) w good = good
is_bad_by-good fault.BadNumber (number_between low high) w good = good
is_bad_by-good fault.BadState (state_of_size n) w good = good
is_bad_by-good f kind w good = refl

-- ---- choices

-- each value of a type has a word
module _ {A : Type 0} (word : A → Word) where
  -- what is found has the word
  pub word-find : (values : List A) (w : Word) (v : A) → find (λ u. is_word (word u) w) values ≡ Some v → w ≡ word v
  word-find values w v e = sym (same_word (word v) w (found (λ u. is_word (word u) w) values v e).1)

  -- if none is found, the word is none of theirs
  pub bad-find : (values : List A) (w : Word) → find (λ u. is_word (word u) w) values ≡ None
      → is_bad (choice_of (map word values)) w ≡ true
  bad-find values w none = ap not (none_among values none)
    where
      none_among : (vs : List A) → find (λ u. is_word (word u) w) vs ≡ None
          → list_any (λ u. is_word u w) (map word vs) ≡ false
      none_among [] e = refl
      none_among (v ∷ vs) e = elim (cases_Bool (is_word (word v) w)) [
        | inl t ↦ let clash : Some v ≡ None =
            sym (ap (λ b. cond b (Some v) (find (λ u. is_word (word u) w) vs)) t) ∙ e in cc
        | inr f ↦
            ap (λ b. b || list_any (λ u. is_word u w) (map word vs)) f
            ∙ none_among vs (sym (ap (λ b. cond b (Some v) (find (λ u. is_word (word u) w) vs)) f) ∙ e)
      ]

  -- a good word is that of a value
  pub value_of_word : (values : List A) (w : Word) → is_bad (choice_of (map word values)) w ≡ false
      → (v : A) × (w ≡ word v)
  value_of_word values w good = among values (not-false (list_any (λ u. is_word u w) (map word values)) good)
    where
      among : (vs : List A) → list_any (λ u. is_word u w) (map word vs) ≡ true → (v : A) × (w ≡ word v)
      among [] t = absurd (true≢false (sym t))
      among (v ∷ vs) t = elim (cases_Bool (is_word (word v) w)) [
        | inl same ↦ (v, sym (same_word (word v) w same))
        | inr other ↦ among vs (sym (ap (λ b. b || list_any (λ u. is_word u w) (map word vs)) other) ∙ t)
      ]

-- the words for choices are not bad
pub sign-good : (v : Sign) → is_bad (choice_of (map sign_word signs)) (sign_word v) ≡ false
sign-good Plus = refl
sign-good Minus = refl

pub side-good : (v : Side) → is_bad (choice_of (map side_word sides)) (side_word v) ≡ false
side-good Left = refl
side-good Right = refl
side-good Up = refl
side-good Down = refl

pub corner-good : (v : Corner) → is_bad (choice_of (map corner_word corners)) (corner_word v) ≡ false
corner-good Over = refl
corner-good Under = refl

pub square-good : (v : Square) → is_bad (choice_of (map square_word squares)) (square_word v) ≡ false
square-good Nw = refl
square-good Ne = refl
square-good Sw = refl
square-good Se = refl

-- and a square is found by its word
pub square-found : (v : Square) → find (λ u. is_word (square_word u) (square_word v)) squares ≡ Some v
square-found Nw = refl
square-found Ne = refl
square-found Sw = refl
square-found Se = refl

pub axis-good : (v : Axis) → is_bad (choice_of (map axis_word axes)) (axis_word v) ≡ false
axis-good Cols = refl
axis-good Rows = refl

-- ---- numbers and states

-- if there is a value it is something
some_value : {A : Type 0} (o : Option A) → is_none o ≡ false → (x : A) × (o ≡ Some x)
some_value None e = absurd (true≢false e)
some_value (Some x) e = (x, refl)

-- the number that a word is
pub number_of_word : (low high : ℕ) (w : Word) → is_bad (number_between low high) w ≡ false
    → (v : ℕ) × ((w ≡ decimal v) × (low ≤ v) × (v ≤ high))
number_of_word low high w good =
    let r = some_value (numeral low high w) good in (r.0, numeral-found low high r.0 w r.1)

-- the decimal form of a number in the bounds is not bad
pub number-good : (low high v : ℕ) → low ≤ v → v ≤ high → high < 2 ^ 64
    → is_bad (number_between low high) (decimal v) ≡ false
number-good low high v above below fits = ap is_none (numeral-decimal low high v (decimal v) refl above below fits)

-- the state that a word is
pub state_of_word : (n : ℕ) (w : Word) → is_bad (state_of_size n) w ≡ false
    → (x : List ℕ) × ((w ≡ state_word x) × IsBijection n x)
state_of_word n w good =
    let r = some_value (state_of n w) good in (r.0, state_of-found n r.0 w r.1)

-- the word of a state is not bad
pub state-good : (n : ℕ) (x : List ℕ) → IsBijection n x → is_bad (state_of_size n) (state_word x) ≡ false
state-good n x bijection = ap is_none (state_of-state_word n x (state_word x) refl bijection)

-- ---- arguments

-- an argument that may stand in a grid of size n
abbrev pub IsGood : ℕ → Argument → Type 0
IsGood n (number c) = c < n
IsGood n (first_of_two c) = c + 1 < n
IsGood n (state x) = IsBijection n x
IsGood n a = Unit {0}

abbrev pub AreGood : ℕ → List Argument → Type 0
AreGood n [] = Unit {0}
AreGood n (a ∷ arguments) = IsGood n a × AreGood n arguments

module _ (n : ℕ) (fits : n < 2 ^ 64) where
  -- its word is not bad
  argument-good : (a : Argument) → IsGood n a → is_bad (kind_of n a) (argument_word a) ≡ false
  argument-good (sign v) h = sign-good v
  argument-good (side v) h = side-good v
  argument-good (corner v) h = corner-good v
  argument-good (square v) h = square-good v
  argument-good (axis v) h = axis-good v
  argument-good (number c) h = number-good 0 (n - 1) c (omega arith) (omega arith) (omega arith)
  argument-good (first_of_two c) h = number-good 0 (n - 2) c (omega arith) (omega arith) (omega arith)
  argument-good (state x) h = state-good n x h

  -- neither are all their words
  pub arguments-good : (f : TextFault) (arguments : List Argument) → AreGood n arguments
      → has_bad f (exactly (map (kind_of n) arguments)) (map argument_word arguments) ≡ false
  arguments-good f [] h = refl
  arguments-good f (a ∷ arguments) h =
      let here = is_bad_by-good f (kind_of n a) (argument_word a) (argument-good a h.0) in
      ap (λ b. b || list_any (λ (p : Kind × Word). is_bad_by f p.0 p.1)
      (zip (map (kind_of n) arguments) (map argument_word arguments))) here
      ∙ arguments-good f arguments h.1

-- there are as many words as kinds
pub arguments-count : (n : ℕ) (arguments : List Argument)
    → is_bad_count (exactly (map (kind_of n) arguments)) (map argument_word arguments) ≡ false
arguments-count n arguments =
    count-right (length (map (kind_of n) arguments)) (map argument_word arguments)
    (length-map arguments argument_word ∙ sym (length-map arguments (kind_of n)))
