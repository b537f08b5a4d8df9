-- The words of states: each digit is the byte 48 and more, so that no two lists have one word.
use Rattle.std.proofs.Common.{IsAscii, slice_index, inl, inr, ◌≡◌, ◌≢◌, ℕ, zero, suc, ◌+◌, ◌<◌, ◌≤◌, List, [], ◌∷◌, ◌++◌, length, get_or, set, take, Option, None, Some, IfSome, IfNone, IsNone, refl, sym, ap, subst, ◌∙◌, arith}
use Rattle.std.proofs.lemmas.List.{take_more, take_more_set, take_all, map-append, length-map, get_or-map, get_or_past}
use Rattle.std.proofs.lemmas.Bool.{cases_lt}
use Rattle.state_rank.specs.States.{IsState, state_word}

-- a word is that of one list alone
pub state_word_injective : (x y : List ℕ) → state_word x ≡ state_word y → x ≡ y
state_word_injective [] [] e = refl
state_word_injective [] (s ∷ y) e = cc
state_word_injective (r ∷ x) [] e = cc
state_word_injective (r ∷ x) (s ∷ y) e =
    let heads : 48 + r ≡ 48 + s = cc in
    let same : r ≡ s = omega (arith, heads) in
    let tails : state_word x ≡ state_word y = cc in
    ap (λ q. q ∷ x) same ∙ ap (λ q. s ∷ q) (state_word_injective x y tails)

-- a word has a digit for each row
pub length-state_word : (x : List ℕ) → length (state_word x) ≡ length x
length-state_word x = length-map x (λ (q : ℕ). 48 + q)

-- each byte of a word is a digit, or above
get_or-state_word : (x : List ℕ) (k : ℕ) → k < length (state_word x) → 48 ≤ get_or (state_word x) k 0
get_or-state_word [] k within = absurd (omega (arith, within))
get_or-state_word (r ∷ x) zero within = omega arith
get_or-state_word (r ∷ x) (suc k) within = get_or-state_word x k (omega (arith, within))

-- bytes of which one is below the digits are the word of no list
pub state_word-none : (word : List ℕ) (k : ℕ) → k < length word → get_or word k 0 < 48 → (x : List ℕ)
    → word ≢ state_word x
state_word-none word k within below x e =
    let high = get_or-state_word x k (subst (λ w. k < length w) e within) in
    absurd (omega (arith, high, subst (λ w. get_or w k 0 < 48) e below))

-- one more byte of the word
pub state_word-more : (word rows : List ℕ) (k r : ℕ) → k < length word → k < length rows → get_or word k 0 ≡ 48 + r
    → take k word ≡ state_word (take k rows) → take (k + 1) word ≡ state_word (take (k + 1) (set rows k r))
state_word-more word rows k r within room digit e =
    take_more word k 0 within ∙ ap (λ w. w ++ get_or word k 0 ∷ []) e
    ∙ ap (λ b. state_word (take k rows) ++ b ∷ []) digit
    ∙ sym (map-append (λ (q : ℕ). 48 + q) (take k rows) (r ∷ [])) ∙ ap state_word (sym (take_more_set rows k r room))

-- bytes of too great a number are the word of no state
pub state_word-too_long : (word x : List ℕ) → 10 < length word → IsState x → word ≢ state_word x
state_word-too_long word x long is e =
    let size = is.size.greatest in absurd (omega (arith, ap length e ∙ length-state_word x))

-- what is made of the rows that were read: the state of the word, if there is one
module _ (word rows : List ℕ) (r : Option (List ℕ)) (is_word : word ≡ state_word rows) where
  pub made-word : IfSome r (λ x. x ≡ rows) → IfSome r (λ x. word ≡ state_word x)
  made-word = of r
    where
      of : (r : Option (List ℕ)) → IfSome r (λ x. x ≡ rows) → IfSome r (λ x. word ≡ state_word x)
      of None same = tt
      of (Some x) same = is_word ∙ ap state_word (sym same)

  pub made-none : (IsNone r → IsState rows → ⊥) → IfNone r ((x : List ℕ) → IsState x → word ≢ state_word x)
  made-none = of r
    where
      of : (r : Option (List ℕ)) → (IsNone r → IsState rows → ⊥)
          → IfNone r ((x : List ℕ) → IsState x → word ≢ state_word x)
      of (Some y) none = tt
      of None none = λ x is e.
          none refl (subst IsState (sym (state_word_injective rows x (sym is_word ∙ e))) is)

-- the word of a state is read as the state
pub read_back-of : (word : List ℕ) (r : Option (List ℕ)) → IfSome r (λ x. word ≡ state_word x)
    → IfNone r ((x : List ℕ) → IsState x → word ≢ state_word x) → (x : List ℕ) → IsState x → word ≡ state_word x
    → r ≡ Some x
read_back-of word None is none x state e = absurd (none x state e)
read_back-of word (Some y) is none x state e = ap Some (state_word_injective y x (sym is ∙ e))

-- one more digit
pub digits-more : (digits rows : List ℕ) (k d : ℕ) → k < length digits → k < length rows
    → take k digits ≡ state_word (take k rows)
    → take (k + 1) (set digits k (48 + get_or rows k d)) ≡ state_word (take (k + 1) rows)
digits-more digits rows k d room within e =
    take_more_set digits k (48 + get_or rows k d) room
    ∙ ap (λ w. w ++ (48 + get_or rows k d) ∷ []) e
    ∙ sym (map-append (λ (q : ℕ). 48 + q) (take k rows) (get_or rows k d ∷ []))
    ∙ ap state_word (sym (take_more rows k d within))

-- all digits
pub digits-all : (digits rows x : List ℕ) (k : ℕ) → rows ≡ x → k ≡ length rows
    → take k digits ≡ state_word (take k rows) → take (length x) digits ≡ state_word x
digits-all digits rows x k same all e =
    ap (λ n. take n digits) (ap length (sym same) ∙ sym all) ∙ e
    ∙ ap state_word (take_all k rows (omega arith) ∙ same)

-- the word of a state is ASCII
pub IsAscii-state_word : (x : List ℕ) → IsState x → IsAscii (state_word x)
IsAscii-state_word x state i = elim (cases_lt i (length x)) [
  | inl within ↦
      let row : slice_index x i < 10 =
      omega (arith, state.bijection.small i within, state.size.greatest) in
      omega (arith, get_or-map (λ (q : ℕ). 48 + q) x i 0 0 within, row)
  | inr past ↦ omega (arith, get_or_past (state_word x) i 0 (omega (arith, past, length-state_word x)))
]
