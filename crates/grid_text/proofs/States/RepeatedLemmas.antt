-- Lists of words in which no word stands twice. It is so exactly if no word occurs more than once, which the order
-- of the words does not touch; numbers below n, all different and n of them, are a bijection.
use Rattle.std.proofs.Common.{◌≡◌, ◌≢◌, ℕ, ◌+◌, ◌<◌, ◌≤◌, ◌^◌, Bool, true, false, ◌||◌, cond, List, [], ◌∷◌, length, map, get_or, refl, ap, ◌∙◌, sym, arith, inl, inr, true≢false}
use Rattle.std.proofs.lemmas.List.Sums.{sum_by-cons}
use Rattle.std.specs.List.Sorted.{IsPermutation}
use Rattle.std.proofs.lemmas.List.Sorted.{sum_by-IsPermutation}
use Rattle.std.specs.List.{list_any, sum_by, Contains, All, AllPairs}
use Rattle.std.specs.Fmt.{decimal}
use Rattle.std.proofs.lemmas.Fmt.{decimal_injective}
use Rattle.std.proofs.lemmas.Bool.{cases_Bool, cases_order, or_parts}
use Rattle.std.proofs.lemmas.List.{get_or_default}
use Rattle.state_rank.specs.Bijection.{IsBijection}
use Rattle.state_rank.proofs.MemberLemmas.{member_cases, member_head, member_tail, no_member, Contains-map, member_of_map, pairs_cons, pairs_head, pairs_tail}
use Rattle.grid_text.specs.Words.{Word, is_word}
use Rattle.grid_text.specs.Faults.{has_repeated}
use Rattle.grid_text.proofs.Lines.WordLemmas.{same_word, is_word-same, is_word-other}

-- ---- a list has no element that passes a test

-- none of its elements does
pub list_any-none : {A : Type 0} (p : A → Bool) (xs : List A) → ((x : A) → Contains xs x → p x ≡ false)
    → list_any p xs ≡ false
list_any-none p [] none = refl
list_any-none p (x ∷ xs) none =
    ap (λ b. b || list_any p xs) (none x (member_head x xs)) ∙ list_any-none p xs (λ y m. none y (member_tail x xs y m))

-- then each element fails it
pub none-list_any : {A : Type 0} (p : A → Bool) (xs : List A) → list_any p xs ≡ false → (x : A) → Contains xs x
    → p x ≡ false
none-list_any p [] none x m = absurd (no_member x m)
none-list_any p (y ∷ xs) none x m =
    let parts = or_parts (p y) (list_any p xs) none in
    elim (member_cases y xs x m) [
      | inl e ↦ ap p (sym e) ∙ parts.0
      | inr later ↦ none-list_any p xs parts.1 x later
    ]

-- ---- no word twice

-- words all different
pub has_repeated-apart : (words : List Word) → AllPairs (λ v w. v ≢ w) words → has_repeated words ≡ false
has_repeated-apart [] apart = refl
has_repeated-apart (w ∷ words) apart =
    ap (λ b. b || has_repeated words) (list_any-none (is_word w) words
    (λ v m. is_word-other w v (pairs_head (λ v w. v ≢ w) w words apart v m)))
    ∙ has_repeated-apart words (pairs_tail (λ v w. v ≢ w) w words apart)

-- and the other way round
pub apart-has_repeated : (words : List Word) → has_repeated words ≡ false → AllPairs (λ v w. v ≢ w) words
apart-has_repeated [] once = λ i j d l m. absurd (omega arith)
apart-has_repeated (w ∷ words) once =
    let parts = or_parts (list_any (is_word w) words) (has_repeated words) once in
    pairs_cons (λ v w. v ≢ w) w words
    (λ v m e. true≢false (sym (is_word-same w) ∙ ap (is_word w) e ∙ none-list_any (is_word w) words parts.0 v m))
    (apart-has_repeated words parts.1)

-- ---- the words of different things

-- things with different words are different
pub AllPairs-unmap : {A : Type 0} (f : A → Word) (xs : List A) → AllPairs (λ v w. v ≢ w) (map f xs)
    → AllPairs (λ a b. a ≢ b) xs
AllPairs-unmap f [] apart = λ i j d l m. absurd (omega arith)
AllPairs-unmap f (x ∷ xs) apart =
    pairs_cons (λ a b. a ≢ b) x xs
    (λ y m e. pairs_head (λ v w. v ≢ w) (f x) (map f xs) apart (f y) (Contains-map f xs y m) (ap f e))
    (AllPairs-unmap f xs (pairs_tail (λ v w. v ≢ w) (f x) (map f xs) apart))

-- different things have different words, if each word is that of one of them
pub AllPairs-map : {A : Type 0} (f : A → Word) (xs : List A)
    → ((a b : A) → Contains xs a → Contains xs b → f a ≡ f b → a ≡ b) → AllPairs (λ a b. a ≢ b) xs
    → AllPairs (λ v w. v ≢ w) (map f xs)
AllPairs-map f [] one apart = λ i j d l m. absurd (omega arith)
AllPairs-map f (x ∷ xs) one apart =
    pairs_cons (λ v w. v ≢ w) (f x) (map f xs)
    (λ w m e. let r = member_of_map f xs w m in
    pairs_head (λ a b. a ≢ b) x xs apart r.0 r.1
    (one x r.0 (member_head x xs) (member_tail x xs r.0 r.1) (e ∙ sym r.2)))
    (AllPairs-map f xs (λ a b m n. one a b (member_tail x xs a m) (member_tail x xs b n))
    (pairs_tail (λ a b. a ≢ b) x xs apart))

-- ---- rows

-- rows below n, all different, are a bijection
pub IsBijection-from_apart : (n : ℕ) (rows : List ℕ) → length rows ≡ n → All (λ r. r < n) rows
    → AllPairs (λ a b. a ≢ b) rows → IsBijection n rows
IsBijection-from_apart n rows long small apart = record {
  long = long;
  small = λ c l. small c 0 (omega arith);
  apart = λ b c l m other. elim (cases_order b c) [
    | inl same ↦ absurd (other same)
    | inr (inl before) ↦ apart b c 0 before (omega arith)
    | inr (inr after) ↦ λ e. apart c b 0 after (omega arith) (sym e)
  ];
}

-- and the other way round
pub apart-IsBijection : (n : ℕ) (rows : List ℕ) → IsBijection n rows → AllPairs (λ a b. a ≢ b) rows
apart-IsBijection n rows h i j d l m e =
    let long = h.long in
    h.apart i j (omega arith) (omega arith) (λ same. omega (arith, same, l))
    (get_or_default rows i 0 d (omega arith) ∙ e ∙ get_or_default rows j d 0 m)

-- each is below n
pub below-IsBijection : (n : ℕ) (rows : List ℕ) → IsBijection n rows → (r : ℕ) → Contains rows r → r < n
below-IsBijection n rows h r (k, l, e) =
    let long = h.long in
    let small = h.small k (omega arith) in
    let same : get_or rows k 0 ≡ r = get_or_default rows k 0 r l ∙ e in
    omega (arith, small, same)

-- the rows of a bijection have different decimal forms
pub has_repeated-bijection : (n : ℕ) (rows : List ℕ) → n < 2 ^ 64 → IsBijection n rows
    → has_repeated (map decimal rows) ≡ false
has_repeated-bijection n rows fits h =
    has_repeated-apart (map decimal rows)
    (AllPairs-map decimal rows
    (λ a b m k e. let small = below-IsBijection n rows h a m in let small_b = below-IsBijection n rows h b k in
    decimal_injective a b (omega arith) (omega arith) e)
    (apart-IsBijection n rows h))

-- rows with different decimal forms are a bijection
pub bijection-has_repeated : (n : ℕ) (rows : List ℕ) → length rows ≡ n → All (λ r. r < n) rows
    → has_repeated (map decimal rows) ≡ false → IsBijection n rows
bijection-has_repeated n rows long small once =
    IsBijection-from_apart n rows long small (AllPairs-unmap decimal rows (apart-has_repeated (map decimal rows) once))

-- ---- how often a word stands in a list

-- as often as it is an element
abbrev pub occurrences : Word → List Word → ℕ
occurrences w words = sum_by (λ v. cond (is_word w v) 1 0) words

-- one more word
occurrences-cons : (w v : Word) (words : List Word)
    → ◌≡◌ {A = ℕ} (occurrences w (v ∷ words)) (cond (is_word w v) 1 0 + occurrences w words)
occurrences-cons w v words = sum_by-cons (λ u. cond (is_word w u) 1 0) v words

-- a word that is no element
occurrences-none : (w : Word) (words : List Word) → list_any (is_word w) words ≡ false → occurrences w words ≡ 0
occurrences-none w [] none = refl
occurrences-none w (v ∷ words) none =
    let parts = or_parts (is_word w v) (list_any (is_word w) words) none in
    let here : ◌≡◌ {A = ℕ} (cond (is_word w v) 1 0) 0 = ap (λ b. cond b 1 0) parts.0 in
    let rest = occurrences-none w words parts.1 in
    occurrences-cons w v words ∙ omega (arith, here, rest)

-- an element
occurrences-some : (w : Word) (words : List Word) → list_any (is_word w) words ≡ true → 1 ≤ occurrences w words
occurrences-some w [] some = absurd (true≢false (sym some))
occurrences-some w (v ∷ words) some = elim (cases_Bool (is_word w v)) [
  | inl t ↦ let here : ◌≡◌ {A = ℕ} (cond (is_word w v) 1 0) 1 = ap (λ b. cond b 1 0) t in
      omega (arith, occurrences-cons w v words, here)
  | inr f ↦ let rest = occurrences-some w words (sym (ap (λ b. b || list_any (is_word w) words) f) ∙ some) in
      omega (arith, occurrences-cons w v words, rest)
]

-- no word stands twice if none occurs more than once
pub has_repeated-occurrences : (words : List Word) → ((w : Word) → occurrences w words ≤ 1) → has_repeated words ≡ false
has_repeated-occurrences [] once = refl
has_repeated-occurrences (v ∷ words) once = elim (cases_Bool (list_any (is_word v) words)) [
  | inl t ↦
      let twice = once v in
      let here : ◌≡◌ {A = ℕ} (cond (is_word v v) 1 0) 1 = ap (λ b. cond b 1 0) (is_word-same v) in
      let more = occurrences-some v words t in
      absurd (omega (arith, occurrences-cons v v words, twice, here, more))
  | inr f ↦ ap (λ b. b || has_repeated words) f
      ∙ has_repeated-occurrences words (λ w. let h = once w in omega (arith, occurrences-cons w v words, h))
]

-- and the other way round
pub occurrences-has_repeated : (words : List Word) → has_repeated words ≡ false → (w : Word) → occurrences w words ≤ 1
occurrences-has_repeated [] once w = omega arith
occurrences-has_repeated (v ∷ words) once w =
    let parts = or_parts (list_any (is_word v) words) (has_repeated words) once in
    let rest = occurrences-has_repeated words parts.1 w in
    elim (cases_Bool (is_word w v)) [
      | inl t ↦
          let here : ◌≡◌ {A = ℕ} (cond (is_word w v) 1 0) 1 = ap (λ b. cond b 1 0) t in
          let none : occurrences w words ≡ 0 =
          occurrences-none w words (ap (λ u. list_any (is_word u) words) (same_word w v t) ∙ parts.0) in
          omega (arith, occurrences-cons w v words, here, none)
      | inr f ↦ let here : ◌≡◌ {A = ℕ} (cond (is_word w v) 1 0) 0 = ap (λ b. cond b 1 0) f in
          omega (arith, occurrences-cons w v words, here, rest)
    ]

-- the order of the words is the same to it
pub has_repeated-IsPermutation : (words other : List Word) → IsPermutation words other → has_repeated words ≡ false
    → has_repeated other ≡ false
has_repeated-IsPermutation words other permutation once =
    has_repeated-occurrences other (λ w. let h = occurrences-has_repeated words once w in
    let same = sum_by-IsPermutation (λ v. cond (is_word w v) 1 0) words other permutation in omega (arith, h, same))
