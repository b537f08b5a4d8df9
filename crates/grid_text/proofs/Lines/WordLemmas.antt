-- Words: which number or state a word is. What is looked for in a list is found there exactly if one element
-- passes the test (`find-one`, `find-none`, `found`). Numbers of at most 64 bits and states have words of their own,
-- so that each word is that of one number between two bounds, or of one state of a size, or of none.
use Rattle.std.proofs.Common.{◌≡◌, ◌≢◌, ◌⊎◌, ℕ, zero, suc, ◌+◌, ◌-◌, ◌<◌, ◌≤◌, ◌^◌, Bool, true, false, ◌&&◌, cond, List, [], ◌∷◌, length, get_or, None, Some, Result, Ok, Err, IfSome, IfNone, refl, ap, subst, ◌∙◌, sym, arith, inl, inr, true≢false, Option}
use Rattle.std.proofs.lemmas.Bool.{cases_Bool, eq-eqb, cases_eq, ne_eqb}
use Rattle.std.proofs.lemmas.List.Elements.{Contains-get_or}
use Rattle.std.specs.List.{Contains, find}
use Rattle.std.specs.Fmt.{decimal}
use Rattle.std.specs.Str.Parse.{ParsesUnsigned, AllDigits}
use Rattle.std.specs.Result.{result_ok}
use Rattle.std.proofs.lemmas.Fmt.{decimal_injective, decimal_digit, decimal_nonempty, first_decimal, decimal-digits_value, parse-decimal}
use Rattle.std.proofs.lemmas.Str.Parse.{numerals_by_value, tells_digits, parse_plain}
use Rattle.state_rank.specs.Bijection.{tabulate, numbers, IsBijection, IsSize}
use Rattle.state_rank.specs.States.{states, IsState, state_word}
use Rattle.state_rank.proofs.MemberLemmas.{member_cases, member_head, member_tail, no_member}
use Rattle.state_rank.proofs.WordLemmas.{state_word_injective}
use Rattle.state_rank.proofs.OrderLemmas.{length-tabulate, get_or-tabulate, member_of_states, Contains-states}
use Rattle.grid_text.specs.Words.{Word, is_word, numeral, state_of}

-- ---- the same word

-- a word is itself
pub is_word-same : (v : Word) → is_word v v ≡ true
is_word-same [] = refl
is_word-same (b ∷ v) = ap (λ t. t && is_word v v) (eq-eqb b b refl) ∙ is_word-same v

-- words that pass are one
pub same_word : (v w : Word) → is_word v w ≡ true → v ≡ w
same_word [] [] t = refl
same_word [] (c ∷ w) t = absurd (true≢false (sym t))
same_word (b ∷ v) [] t = absurd (true≢false (sym t))
same_word (b ∷ v) (c ∷ w) t = elim (cases_eq b c) [
  | inl e ↦ ap (λ d. d ∷ v) e ∙ ap (λ u. c ∷ u) (same_word v w (sym (ap (λ s. s && is_word v w) (eq-eqb b c e)) ∙ t))
  | inr other ↦ absurd (true≢false (sym t ∙ ap (λ s. s && is_word v w) (ne_eqb b c other)))
]

-- words that are not one do not pass
pub is_word-other : (v w : Word) → v ≢ w → is_word v w ≡ false
is_word-other v w other = elim (cases_Bool (is_word v w)) [
  | inl t ↦ absurd (other (same_word v w t))
  | inr f ↦ f
]

-- ---- the first element that passes

-- none does
pub find-none : {A : Type 0} (p : A → Bool) (xs : List A) → ((x : A) → Contains xs x → p x ≡ false) → find p xs ≡ None
find-none p [] none = refl
find-none p (x ∷ xs) none =
    ap (λ b. cond b (Some x) (find p xs)) (none x (member_head x xs))
    ∙ find-none p xs (λ y m. none y (member_tail x xs y m))

-- one does, and no other
pub find-one : {A : Type 0} (p : A → Bool) (xs : List A) (x : A) → Contains xs x → p x ≡ true
    → ((y : A) → Contains xs y → p y ≡ true → y ≡ x) → find p xs ≡ Some x
find-one p [] x m passes only = absurd (no_member x m)
find-one p (y ∷ xs) x m passes only = elim (cases_Bool (p y)) [
  | inl t ↦ ap (λ b. cond b (Some y) (find p xs)) t ∙ ap Some (only y (member_head y xs) t)
  | inr f ↦ elim (member_cases y xs x m) [
    | inl e ↦ absurd (true≢false (sym passes ∙ ap p (sym e) ∙ f))
    | inr later ↦ ap (λ b. cond b (Some y) (find p xs)) f
        ∙ find-one p xs x later passes (λ z n. only z (member_tail y xs z n))
  ]
]

-- what is found is in the list and passes
pub found : {A : Type 0} (p : A → Bool) (xs : List A) (x : A) → find p xs ≡ Some x → Contains xs x × (p x ≡ true)
found p [] x e = cc
found p (y ∷ xs) x e = elim (cases_Bool (p y)) [
  | inl t ↦
      let same : Some y ≡ Some x = sym (ap (λ b. cond b (Some y) (find p xs)) t) ∙ e in
      let is : y ≡ x = cc in
      (subst (λ z. Contains (y ∷ xs) z) is (member_head y xs), ap p (sym is) ∙ t)
  | inr f ↦
      let later = found p xs x (sym (ap (λ b. cond b (Some y) (find p xs)) f) ∙ e) in
      (member_tail y xs x later.0, later.1)
]

-- ---- numbers

-- a value of the function is in the list made from it
pub Contains-tabulate : {A : Type 0} (n : ℕ) (f : ℕ → A) (i : ℕ) → i < n → Contains (tabulate n f) (f i)
Contains-tabulate n f i below =
    subst (λ x. Contains (tabulate n f) x) (get_or-tabulate n f i (f i) below)
    (Contains-get_or (tabulate n f) i (f i) (omega (arith, length-tabulate n f)))

-- and nothing else
pub member_of_tabulate : {A : Type 0} (n : ℕ) (f : ℕ → A) (x : A) → Contains (tabulate n f) x
    → (i : ℕ) × (i < n) × (f i ≡ x)
member_of_tabulate n f x (k, within, e) =
    let below : k < n = omega (arith, length-tabulate n f) in (k, below, sym (get_or-tabulate n f k x below) ∙ e)

-- a number between two is in their list
Contains-numbers : (low high v : ℕ) → low ≤ v → v ≤ high → Contains (numbers low (high + 1)) v
Contains-numbers low high v above below =
    let e : low + (v - low) ≡ v = omega arith in
    subst (λ x. Contains (numbers low (high + 1)) x) e
    (Contains-tabulate (high + 1 - low) (λ i. low + i) (v - low) (omega arith))

-- the word of a number in its bounds
pub numeral-decimal : (low high v : ℕ) (word : Word) → word ≡ decimal v → low ≤ v → v ≤ high → high < 2 ^ 64
    → numeral low high word ≡ Some v
unfolding numeral
numeral-decimal low high v word e above below fits =
    find_below v word (numbers low (high + 1)) e (Contains-numbers low high v above below) (λ u m.
    let r = member_of_tabulate (high + 1 - low) (λ i. low + i) u m in
    let bound = r.1 in
    let value = r.2 in
    omega arith) (omega arith)
  where
    -- of numbers that are not too long, one alone has the word
    find_below : (v : ℕ) (word : Word) (xs : List ℕ) → word ≡ decimal v → Contains xs v
        → ((u : ℕ) → Contains xs u → u < 2 ^ 64) → v < 2 ^ 64 → find (λ u. is_word (decimal u) word) xs ≡ Some v
    find_below v word xs e m fit v_fits =
        find-one (λ u. is_word (decimal u) word) xs v m (ap (is_word (decimal v)) e ∙ is_word-same (decimal v))
        (λ u n t. decimal_injective u v (fit u n) v_fits (same_word (decimal u) word t ∙ e))

-- a word of no number in the bounds
pub numeral-none : (low high : ℕ) (word : Word) → ((v : ℕ) → low ≤ v → v ≤ high → word ≢ decimal v)
    → numeral low high word ≡ None
unfolding numeral
numeral-none low high word none =
    find-none (λ v. is_word (decimal v) word) (numbers low (high + 1)) (λ v m.
    let r = member_of_tabulate (high + 1 - low) (λ i. low + i) v m in
    let bound = r.1 in
    let value = r.2 in
    is_word-other (decimal v) word (λ e. none v (omega arith) (omega arith) (sym e)))

-- a number out of the bounds is none in them
pub decimal-out_of_bounds : (low high u : ℕ) (word : Word) → word ≡ decimal u → u < 2 ^ 64 → high < 2 ^ 64
    → (u < low) ⊎ ((low ≤ u) × (high < u))
    → (v : ℕ) → low ≤ v → v ≤ high → word ≢ decimal v
decimal-out_of_bounds low high u word e fits high_fits out v above below e' =
    let same = decimal_injective u v fits (omega arith) (sym e ∙ e') in
    elim out [
      | inl lower ↦ absurd (omega (arith, lower, same))
      | inr higher ↦ let over = higher.1 in absurd (omega (arith, over, same))
    ]

-- what a numeral says of its word
pub numeral-found : (low high v : ℕ) (word : Word) → numeral low high word ≡ Some v
    → (word ≡ decimal v) × (low ≤ v) × (v ≤ high)
unfolding numeral
numeral-found low high v word e =
    let r = found (λ u. is_word (decimal u) word) (numbers low (high + 1)) v e in
    let m = member_of_tabulate (high + 1 - low) (λ i. low + i) v r.0 in
    let bound = m.1 in
    let value = m.2 in
    (sym (same_word (decimal v) word r.1), omega arith, omega arith)

-- what the start of a word has to be for a numeral
abbrev pub HasPlainStart : Word → Type 0
HasPlainStart word = (0 < length word) × (get_or word 0 0 ≢ 43) × (get_or word 0 0 ≡ 48 → length word ≡ 1)

-- the decimal form of a number has a plain start
pub decimal-plain_start : (v : ℕ) → v < 2 ^ 64 → HasPlainStart (decimal v)
decimal-plain_start zero fits =
    rw (decimal_digit zero (omega arith)) (omega arith, (λ e. omega (arith, e)), (λ e. omega arith))
decimal-plain_start (suc v) fits =
    let first = first_decimal (suc v) (omega arith) fits in
    (decimal_nonempty (suc v) fits, (λ e. omega (arith, e, first)), (λ e. absurd (omega (arith, e, first))))

module _ {E : Type 0} (word : Word) (r : Result ℕ E) (parses : ParsesUnsigned 32 10 word r) where
  -- a number that `parse` reads in a word with a plain start has it as its decimal form
  pub parsed-decimal : HasPlainStart word → IfSome (result_ok r) (λ v. word ≡ decimal v)
  parsed-decimal start = read r parses
    where
      read : (r : Result ℕ E) → ParsesUnsigned 32 10 word r → IfSome (result_ok r) (λ v. word ≡ decimal v)
      read (Ok x) parses =
          let own = numerals_by_value (AllDigits 10) tells_digits in
          let value = parse_plain own {E = E} 32 word (Ok x) parses start.1 in
          sym (ap decimal value.1 ∙ decimal-digits_value own word value.0.0 value.0.1 start.2
          (omega (arith, value.0.2)))
      read (Err e) parses = tt

  -- if `parse` fails, there is none
  pub parsed-none : IfNone (result_ok r) ((v : ℕ) → v < 2 ^ 32 → word ≢ decimal v)
  parsed-none = read r parses
    where
      read : (r : Result ℕ E) → ParsesUnsigned 32 10 word r
          → IfNone (result_ok r) ((v : ℕ) → v < 2 ^ 32 → word ≢ decimal v)
      read (Ok x) parses = tt
      read (Err d) parses =
          λ v small e. let same = parse-decimal {E = E} 32 v word (Err d) small (omega arith) e parses in cc

-- ---- states

-- the word of a state
pub state_of-state_word : (n : ℕ) (x : List ℕ) (word : Word) → word ≡ state_word x → IsBijection n x
    → state_of n word ≡ Some x
unfolding state_of
state_of-state_word n x word e bijection =
    find-one (λ y. is_word (state_word y) word) (states n) x (Contains-states n x bijection)
    (ap (is_word (state_word x)) e ∙ is_word-same (state_word x))
    (λ y m t. state_word_injective y x (same_word (state_word y) word t ∙ e))

-- a word of no state of the size
pub state_of-none : (n : ℕ) (word : Word) → ((x : List ℕ) → IsBijection n x → word ≢ state_word x)
    → state_of n word ≡ None
unfolding state_of
state_of-none n word none =
    find-none (λ y. is_word (state_word y) word) (states n)
    (λ y m. is_word-other (state_word y) word (λ e. none y (member_of_states n y m) (sym e)))

-- what a state says of its word
pub state_of-found : (n : ℕ) (x : List ℕ) (word : Word) → state_of n word ≡ Some x
    → (word ≡ state_word x) × IsBijection n x
unfolding state_of
state_of-found n x word e =
    let r = found (λ y. is_word (state_word y) word) (states n) x e in
    (sym (same_word (state_word x) word r.1), member_of_states n x r.0)

-- what is read of a word that is a state's: the state, if it has the size
pub state_of-read : (n : ℕ) (word : Word) (x : List ℕ) → IsState x → length x ≡ n → word ≡ state_word x
    → Some x ≡ state_of n word
state_of-read n word x state size is =
    sym (state_of-state_word n x word is (subst (λ m. IsBijection m x) size state.bijection))

-- the word of a state of another size
pub state_of-other_size : (n : ℕ) (word : Word) (x : List ℕ) → length x ≢ n → word ≡ state_word x
    → None ≡ state_of n word
state_of-other_size n word x other is =
    sym (state_of-none n word (λ y bijection e.
    other (ap length (state_word_injective x y (sym is ∙ e)) ∙ bijection.long)))

-- the word of no state
pub state_of-no_state : (n : ℕ) (word : Word) → IsSize n → ((x : List ℕ) → IsState x → word ≢ state_word x)
    → None ≡ state_of n word
state_of-no_state n word size none =
    sym (state_of-none n word (λ x bijection. none x (record {
      size = subst IsSize (sym bijection.long) size;
      bijection = subst (λ m. IsBijection m x) (sym bijection.long) bijection;
    })))

-- a number below n, if the reader knows n by another name
pub numeral-at : (m n : ℕ) (w : Word) (r o : Option ℕ) → m ≡ n → r ≡ numeral 0 (m - 1) w → r ≡ o
    → numeral 0 (n - 1) w ≡ o
numeral-at m n w r o same value is = ap (λ k. numeral 0 (k - 1) w) (sym same) ∙ sym value ∙ is
