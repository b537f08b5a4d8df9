-- The rows whose bits are set: those between two rows, and the lowest one with the others.
-- Route: tests of numbers are compared place by place along `tabulate`, so that each fact on a list of rows is one on
-- bits. The loop keeps "what was appended and the exchanges with the rows that are left are the whole".
use Rattle.std.proofs.Common.{◌≡◌, ◌≢◌, ℕ, zero, suc, ◌+◌, ◌-◌, ◌*◌, ◌%◌, ◌^◌, ◌<◌, ◌≤◌, Bool, true, false, List, [], ◌∷◌, ◌++◌, length, map, slice_index, swap, refl, ap, ap₂, ◌∙◌, sym, eqb, arith, inl, inr, cond, bit_and, min}
use Rattle.std.proofs.lemmas.Bool.{cases_eq, cases_lt, eq-eqb}
use Rattle.std.proofs.lemmas.List.{append-nil, append_assoc, length-append, length-map}
use Rattle.std.proofs.lemmas.Nat.{and_le_l}
use Rattle.std.proofs.lemmas.Nat.Bits.{bit_at_and, bit_at-lt, bit_at-zero, bit_at_above, bit_at-trailing_zeros, bit_at_clear_same, bit_at_clear_other}
use Rattle.std.specs.Int.{bit_at, bit_not, trailing_zeros, w16}
use Rattle.std.specs.List.{filter}
use Rattle.state_rank.specs.Bijection.{tabulate, ascending, numbers}
use Rattle.state_rank.specs.States.{rank}
use Rattle.rectangles.specs.Inner.Open.{AreRowsBetween, exchanges}

-- ---- the elements that pass a test
module _ {A : Type 0} where
  take_yes : (b : Bool) (x : A) (xs : List A) → b ≡ true → cond b (x ∷ xs) xs ≡ x ∷ xs
  take_yes b x xs e = ap (λ t. cond t (x ∷ xs) xs) e

  take_no : (b : Bool) (x : A) (xs : List A) → b ≡ false → cond b (x ∷ xs) xs ≡ xs
  take_no b x xs e = ap (λ t. cond t (x ∷ xs) xs) e

  -- a test that fails everywhere
  filter-tabulate_none : (p : A → Bool) (n : ℕ) (f : ℕ → A) → ((i : ℕ) → i < n → p (f i) ≡ false)
      → filter p (tabulate n f) ≡ []
  filter-tabulate_none p zero f h = refl
  filter-tabulate_none p (suc n) f h =
      take_no (p (f 0)) (f 0) (filter p (tabulate n (λ i. f (suc i)))) (h 0 (omega arith))
      ∙ filter-tabulate_none p n (λ i. f (suc i)) (λ i l. h (suc i) (omega arith))

  -- two tests that agree
  filter-tabulate_same : (p q : A → Bool) (n : ℕ) (f : ℕ → A) → ((i : ℕ) → i < n → p (f i) ≡ q (f i))
      → filter p (tabulate n f) ≡ filter q (tabulate n f)
  filter-tabulate_same p q zero f h = refl
  filter-tabulate_same p q (suc n) f h =
      ap₂ (λ b xs. cond b (f 0 ∷ xs) xs) (h 0 (omega arith))
      (filter-tabulate_same p q n (λ i. f (suc i)) (λ i l. h (suc i) (omega arith)))

  -- the first that passes, if q is p without it
  filter-tabulate_first : (p q : A → Bool) (n : ℕ) (f : ℕ → A) (i : ℕ) → i < n → p (f i) ≡ true → q (f i) ≡ false
      → ((j : ℕ) → j < i → p (f j) ≡ false) → ((j : ℕ) → j < n → j ≢ i → q (f j) ≡ p (f j))
      → filter p (tabulate n f) ≡ f i ∷ filter q (tabulate n f)
  filter-tabulate_first p q zero f i l passes fails before rest = absurd (omega arith)
  filter-tabulate_first p q (suc n) f zero l passes fails before rest =
      take_yes (p (f 0)) (f 0) (filter p (tabulate n (λ i. f (suc i)))) passes
      ∙ ap (λ xs. f 0 ∷ xs)
      (filter-tabulate_same p q n (λ i. f (suc i)) (λ i l. sym (rest (suc i) (omega arith) (λ e. absurd (omega arith))))
      ∙ sym (take_no (q (f 0)) (f 0) (filter q (tabulate n (λ i. f (suc i)))) fails))
  filter-tabulate_first p q (suc n) f (suc i) l passes fails before rest =
      let first : p (f 0) ≡ false = before 0 (omega arith) in
      let same : q (f 0) ≡ false = rest 0 (omega arith) (λ e. absurd (omega arith)) ∙ first in
      take_no (p (f 0)) (f 0) (filter p (tabulate n (λ i. f (suc i)))) first
      ∙ filter-tabulate_first p q n (λ i. f (suc i)) i (omega arith) passes fails (λ j m. before (suc j) (omega arith))
      (λ j m d. rest (suc j) (omega arith) (λ e. d (omega arith)))
      ∙ ap (λ xs. f (suc i) ∷ xs) (sym (take_no (q (f 0)) (f 0) (filter q (tabulate n (λ i. f (suc i)))) same))

  -- those of the first k places, if q is p there, and fails elsewhere
  filter-tabulate_start : (p q : A → Bool) (n : ℕ) (f : ℕ → A) (k : ℕ) → k ≤ n
      → ((i : ℕ) → i < k → q (f i) ≡ p (f i)) → ((i : ℕ) → k ≤ i → i < n → q (f i) ≡ false)
      → filter q (tabulate n f) ≡ filter p (tabulate k f)
  filter-tabulate_start p q n f zero l inside behind = filter-tabulate_none q n f (λ i m. behind i (omega arith) m)
  filter-tabulate_start p q zero f (suc k) l inside behind = absurd (omega arith)
  filter-tabulate_start p q (suc n) f (suc k) l inside behind =
      ap₂ (λ b xs. cond b (f 0 ∷ xs) xs) (inside 0 (omega arith))
      (filter-tabulate_start p q n (λ i. f (suc i)) k (omega arith) (λ i m. inside (suc i) (omega arith))
      (λ i m o. behind (suc i) (omega arith) (omega arith)))

  -- the same of k places from a place on
  filter-tabulate_within : (p q : A → Bool) (n : ℕ) (f : ℕ → A) (from k : ℕ) → from + k ≤ n
      → ((i : ℕ) → from ≤ i → i < from + k → q (f i) ≡ p (f i))
      → ((i : ℕ) → i < from → q (f i) ≡ false) → ((i : ℕ) → from + k ≤ i → i < n → q (f i) ≡ false)
      → filter q (tabulate n f) ≡ filter p (tabulate k (λ i. f (from + i)))
  filter-tabulate_within p q n f zero k l inside before behind =
      let place : (i : ℕ) → i ≡ 0 + i = λ i. omega arith in
      filter-tabulate_start p q n f k (omega arith) (λ i m. inside i (omega arith) (omega arith))
      (λ i m o. behind i (omega arith) o)
      ∙ (λ j. filter p (tabulate k (λ i. f (place i j))))
  filter-tabulate_within p q zero f (suc from) k l inside before behind = absurd (omega arith)
  filter-tabulate_within p q (suc n) f (suc from) k l inside before behind =
      let place : (i : ℕ) → suc (from + i) ≡ suc from + i = λ i. omega arith in
      take_no (q (f 0)) (f 0) (filter q (tabulate n (λ i. f (suc i)))) (before 0 (omega arith))
      ∙ filter-tabulate_within p q n (λ i. f (suc i)) from k (omega arith)
      (λ i m o. inside (suc i) (omega arith) (omega arith))
      (λ i m. before (suc i) (omega arith)) (λ i m o. behind (suc i) (omega arith) (omega arith))
      ∙ (λ j. filter p (tabulate k (λ i. f (place i j))))

-- ---- the bits of the rows between two

-- the test of a bit
abbrev is_set : ℕ → ℕ → Bool
is_set rows r = eqb (bit_at rows r) 1

set_no : (rows r : ℕ) → bit_at rows r ≡ 0 → is_set rows r ≡ false
set_no rows r e = ap (λ b. eqb b 1) e

module _ (odd mask from to : ℕ) (m : AreRowsBetween from to mask) where
  masked_none : (r : ℕ) → bit_at mask r ≡ 0 → bit_at (bit_and odd mask) r ≡ 0
  masked_none r e = bit_at_and odd mask r ∙ (let d : min (bit_at odd r) (bit_at mask r) ≡ 0 = omega arith in d)

  masked_same : (r : ℕ) → from ≤ r → r < to → bit_at (bit_and odd mask) r ≡ bit_at odd r
  masked_same r l h =
      let e = m.inside r l h in
      let s = bit_at-lt odd r in
      bit_at_and odd mask r ∙ (let d : min (bit_at odd r) (bit_at mask r) ≡ bit_at odd r = omega arith in d)

  -- a row that is left
  pub masked_row : (r : ℕ) → bit_at (bit_and odd mask) r ≡ 1 → (from ≤ r) × (r < to) × (bit_at odd r ≡ 1)
  masked_row r e = elim (cases_lt r from) [
    | inl l ↦ absurd (let d = masked_none r (m.below r l) in omega arith)
    | inr l ↦ elim (cases_lt r to) [
      | inl h ↦ (l, h, sym (masked_same r l h) ∙ e)
      | inr h ↦ absurd (let d = masked_none r (m.above r h) in omega arith)
    ]
  ]

  -- the exchanges with the rows that are left
  pub exchanges-masked : (x columns : List ℕ) (a n : ℕ) → from ≤ to → to ≤ n
      → exchanges x columns a (bit_and odd mask) (ascending n) ≡ exchanges x columns a odd (numbers from to)
  exchanges-masked x columns a n l h =
      ap (map (λ r. swap x a (slice_index columns r)))
      (filter-tabulate_within (is_set odd) (is_set (bit_and odd mask)) n (λ r. r) from (to - from) (omega arith)
      (λ i k o. ap (λ b. eqb b 1) (masked_same i k (omega arith)))
      (λ i k. set_no (bit_and odd mask) i (masked_none i (m.below i k)))
      (λ i k o. set_no (bit_and odd mask) i (masked_none i (m.above i (omega arith)))))

-- the exchange with the lowest row that is left comes first
pub exchanges-lowest : (x columns : List ℕ) (a n left next r : ℕ) → r < n → bit_at left r ≡ 1
    → ((i : ℕ) → i < r → bit_at left i ≡ 0) → bit_at next r ≡ 0
    → ((i : ℕ) → i < n → i ≢ r → bit_at next i ≡ bit_at left i)
    → exchanges x columns a left (ascending n)
    ≡ swap x a (slice_index columns r) ∷ exchanges x columns a next (ascending n)
exchanges-lowest x columns a n left next r l set lowest gone others =
    ap (map (λ r. swap x a (slice_index columns r)))
    (filter-tabulate_first (is_set left) (is_set next) n (λ r. r) r l (eq-eqb _ _ set) (set_no next r gone)
    (λ i k. set_no left i (lowest i k)) (λ i k d. ap (λ b. eqb b 1) (others i k d)))

-- no exchange is left
pub exchanges-none : (x columns : List ℕ) (a n left : ℕ) → left ≡ 0 → exchanges x columns a left (ascending n) ≡ []
exchanges-none x columns a n left e =
    ap (λ m. exchanges x columns a m (ascending n)) e
    ∙ ap (map (λ r. swap x a (slice_index columns r)))
    (filter-tabulate_none (is_set 0) n (λ r. r) (λ i k. set_no 0 i (bit_at-zero i)))

-- ---- the loop over the rows that are left

-- its items and those that are to come are all of them; each row that is left was there
pub record IsPushing (x columns : List ℕ) (a rows : ℕ) (old items : List ℕ) (left : ℕ) : Type 0 where
  pub whole : items ++ map rank (exchanges x columns a left (ascending (length x)))
      ≡ old ++ map rank (exchanges x columns a rows (ascending (length x)))
  pub among : (r : ℕ) → bit_at left r ≡ 1 → bit_at rows r ≡ 1

-- before the first
pub pushing_none : (x columns : List ℕ) (a rows : ℕ) (old : List ℕ) → IsPushing x columns a rows old old rows
pushing_none x columns a rows old = record { whole = refl; among = λ r e. e }

-- when none is left
pub pushing_all : (x columns : List ℕ) (a rows : ℕ) (old items : List ℕ) (left : ℕ)
    → IsPushing x columns a rows old items left → left ≡ 0
    → items ≡ old ++ map rank (exchanges x columns a rows (ascending (length x)))
pushing_all x columns a rows old items left p e =
    sym (append-nil items)
    ∙ ap (λ ys. items ++ map rank ys) (sym (exchanges-none x columns a (length x) left e)) ∙ p.whole

module _ (x columns : List ℕ) (a rows : ℕ) (old items : List ℕ) (left : ℕ)
    (p : IsPushing x columns a rows old items left) (some : left ≢ 0) (fits : left < 2 ^ 16)
    (within : (r : ℕ) → bit_at rows r ≡ 1 → r < length x) where
  row : ℕ
  row = trailing_zeros w16 left

  next : ℕ
  next = bit_and left (bit_not w16 (1 * 2 ^ row % 2 ^ 16))

  lowest : (row < 16) × (bit_at left row ≡ 1) × ((i : ℕ) → i < row → bit_at left i ≡ 0)
  unfolding row
  lowest = bit_at-trailing_zeros w16 left (omega (arith, some)) fits

  gone : bit_at next row ≡ 0
  unfolding next
  gone = bit_at_clear_same w16 left row lowest.0

  no_more : next ≤ left
  unfolding next
  no_more = and_le_l left (bit_not w16 (1 * 2 ^ row % 2 ^ 16))

  others : (i : ℕ) → i ≢ row → bit_at next i ≡ bit_at left i
  unfolding next
  others i d = elim (cases_lt i 16) [
    | inl l ↦ bit_at_clear_other w16 left row lowest.0 i l d
    | inr l ↦
        bit_at_above next 16 i (let m = no_more in omega (arith, fits)) l ∙ sym (bit_at_above left 16 i fits l)
  ]

  -- the lowest row is one of the rows
  pub pushing_row : bit_at rows (trailing_zeros w16 left) ≡ 1
  unfolding row
  pushing_row = p.among row lowest.1

  first : exchanges x columns a left (ascending (length x))
      ≡ swap x a (slice_index columns row) ∷ exchanges x columns a next (ascending (length x))
  unfolding row
  first =
      exchanges-lowest x columns a (length x) left next row (within row pushing_row) lowest.1 lowest.2 gone
      (λ i l d. others i d)

  -- there is room for its exchange
  pub pushing_room : length items + 1 ≤ length old + length (exchanges x columns a rows (ascending (length x)))
  pushing_room =
      let rest : List (List ℕ) = exchanges x columns a left (ascending (length x)) in
      let all : List (List ℕ) = exchanges x columns a rows (ascending (length x)) in
      let e = sym (length-append items (map rank rest)) ∙ ap length p.whole ∙ length-append old (map rank all) in
      let i = length-map rest rank in
      let j = length-map all rank in
      let k = ap length first in
      omega arith

  -- with its exchange
  pub pushing_more : (more : List ℕ) (index : ℕ) → more ≡ items ++ index ∷ []
      → index ≡ rank (swap x a (slice_index columns (trailing_zeros w16 left)))
      → IsPushing x columns a rows old more (bit_and left (bit_not w16 (1 * 2 ^ trailing_zeros w16 left % 2 ^ 16)))
  unfolding row next
  pushing_more more index is e = record {
    whole =
        ap (λ ys. ys ++ map rank (exchanges x columns a next (ascending (length x)))) is
        ∙ append_assoc items (index ∷ []) (map rank (exchanges x columns a next (ascending (length x))))
        ∙ ap (λ i. items ++ i ∷ map rank (exchanges x columns a next (ascending (length x)))) e
        ∙ ap (λ ys. items ++ map rank ys) (sym first)
        ∙ p.whole;
    among = λ r h. elim (cases_eq r row) [
      | inl i ↦ absurd (let g = sym (ap (bit_at next) i) ∙ h in let k = gone in omega arith)
      | inr d ↦ p.among r (sym (others r d) ∙ h)
    ];
  }

  -- and fewer are left
  pub pushing_fewer : bit_and left (bit_not w16 (1 * 2 ^ trailing_zeros w16 left % 2 ^ 16)) < left
  unfolding row next
  pushing_fewer = elim (cases_eq next left) [
    | inl e ↦ absurd (let g = sym gone ∙ ap (λ m. bit_at m row) e ∙ lowest.1 in omega (arith, g))
    | inr d ↦ let m = no_more in omega (arith, d)
  ]
