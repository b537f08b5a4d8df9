-- What the loops keep that collect the odd pairs and append the exchanges.
use Rattle.std.proofs.Common.{◌≡◌, ◌≢◌, ℕ, zero, suc, ◌+◌, ◌-◌, ◌*◌, ◌/◌, ◌%◌, ◌^◌, ◌<◌, ◌≤◌, Bool, true, false, not, ◌&&◌, ◌||◌, List, [], ◌∷◌, ◌++◌, length, map, take, set, slice_index, slice_index_or, reverse, refl, ap, ap₂, subst, ◌∙◌, sym, ltb, arith, inl, inr, cond, bit_and, bit_or}
use Rattle.std.proofs.lemmas.Bool.{cases_eq, lt-ltb, le-ltb}
use Rattle.std.proofs.lemmas.List.{get_or-set_same, get_or-set_other, length-append, length-map, map-append, append_assoc, append-nil, take_more, length-reverse, get_or-reverse}
use Rattle.std.proofs.lemmas.List.Folds.{length-flat_map-take}
use Rattle.std.proofs.lemmas.List.Concat.{flat_map-append}
use Rattle.std.proofs.lemmas.Nat.Bits.{shr_and_one, bit_at-lt, bit_at-zero, bit_at_set_same, bit_at_set_other}
use Rattle.std.specs.Int.{bit_at, w16}
use Rattle.std.specs.List.{flat_map}
use Rattle.state_rank.specs.Bijection.{IsBijection, ascending}
use Rattle.state_rank.proofs.OrderLemmas.{get_or-tabulate, length-ascending}
use Rattle.torus_geom.specs.Marks.{Marks}
use Rattle.rectangles.specs.Inner.Open.{is_open, is_odd_pair, odd_bit}
use Rattle.state_rank.specs.States.{rank}
use Rattle.state_rank.specs.declared.TheConstants.{MAX_SIZE}

-- ---- an array that is filled from 0 on

-- one element more
pub filled_more : {A : Type 0} (rows : List A) (c : ℕ) (v d : A) (P : ℕ → A → Type 0) → c < length rows
    → ((a : ℕ) → a < c → P a (slice_index_or rows a d)) → P c v → (a : ℕ) → a < c + 1
    → P a (slice_index_or (set rows c v) a d)
filled_more rows c v d P fits before here a l = elim (cases_eq a c) [
  | inl e ↦
      subst (λ i. P i (slice_index_or (set rows c v) i d)) (sym e)
      (subst (P c) (sym (get_or-set_same rows c v d fits)) here)
  | inr p ↦ subst (P a) (sym (get_or-set_other rows c a v d p)) (before a (omega arith))
]

-- ---- the odd pairs of a circle

-- the bits of the rows of the circles before c are those of the odd pairs with a
pub record IsOddRows (x opens : List ℕ) (a c rows : ℕ) : Type 0 where
  pub near : (b : ℕ) → b < length x → b < c → bit_at rows (slice_index x b) ≡ odd_bit opens a b
  pub far : (b : ℕ) → b < length x → c ≤ b → bit_at rows (slice_index x b) ≡ 0

-- before the first circle
pub odd_rows_none : (x opens : List ℕ) (a : ℕ) → IsOddRows x opens a (a + 1) 0
odd_rows_none x opens a = record {
  near = λ b l m. bit_at-zero (slice_index x b)
      ∙ sym (ap (λ t. cond t ((bit_at (slice_index opens a) b + bit_at (slice_index opens b) a) % 2) 0)
      (le-ltb a b (omega arith)));
  far = λ b l m. bit_at-zero (slice_index x b);
}

odd_bit-right : (opens : List ℕ) (a b : ℕ) → a < b
    → odd_bit opens a b ≡ (bit_at (slice_index opens a) b + bit_at (slice_index opens b) a) % 2
odd_bit-right opens a b l =
    ap (λ t. cond t ((bit_at (slice_index opens a) b + bit_at (slice_index opens b) a) % 2) 0) (lt-ltb a b l)

odd_sum : (p q : ℕ) → p < 2 → q < 2 → p ≢ q → (p + q) % 2 ≡ 1
odd_sum zero zero l m d = absurd (d refl)
odd_sum zero (suc zero) l m d = refl
odd_sum (suc zero) zero l m d = refl
odd_sum (suc zero) (suc zero) l m d = absurd (d refl)
odd_sum (suc (suc p)) q l m d = absurd (omega arith)
odd_sum zero (suc (suc q)) l m d = absurd (omega arith)
odd_sum (suc zero) (suc (suc q)) l m d = absurd (omega arith)

even_sum : (p q : ℕ) → p ≡ q → (p + q) % 2 ≡ 0
even_sum p q e = omega arith

module _ (x opens : List ℕ) (s : IsBijection (length x) x) (short : length x ≤ MAX_SIZE) (a c rows : ℕ)
    (h : IsOddRows x opens a c rows) (right : a < c) (l : c < length x) where
  -- one circle more, an odd pair with a
  pub odd_rows_yes : bit_and (slice_index opens a / 2 ^ c) 1 ≢ bit_and (slice_index opens c / 2 ^ a) 1 → (row : ℕ)
      → row ≡ slice_index x c → IsOddRows x opens a (c + 1) (bit_or rows (1 * 2 ^ row % 2 ^ 16))
  odd_rows_yes p row row_is =
      let low : row < 16 = let b = s.small c l in omega arith in
      record {
        near = λ b lb m. elim (cases_eq b c) [
          | inl e ↦
              ap (bit_at (bit_or rows (1 * 2 ^ row % 2 ^ 16))) (ap (slice_index x) e ∙ sym row_is)
              ∙ bit_at_set_same w16 rows row low
              ∙ sym (ap (odd_bit opens a) e ∙ odd_bit-right opens a c right
              ∙ odd_sum _ _ (bit_at-lt (slice_index opens a) c) (bit_at-lt (slice_index opens c) a)
              (λ i. p (shr_and_one (slice_index opens a) c ∙ i ∙ sym (shr_and_one (slice_index opens c) a))))
          | inr q ↦
              bit_at_set_other w16 rows row low (slice_index x b) (λ i. s.apart b c lb l q (i ∙ row_is))
              ∙ h.near b lb (omega arith)
        ];
        far = λ b lb m. bit_at_set_other w16 rows row low (slice_index x b)
            (λ i. s.apart b c lb l (omega arith) (i ∙ row_is)) ∙ h.far b lb (omega arith);
      }

  -- one circle more, not an odd pair with a
  pub odd_rows_no : bit_and (slice_index opens a / 2 ^ c) 1 ≡ bit_and (slice_index opens c / 2 ^ a) 1
      → IsOddRows x opens a (c + 1) rows
  odd_rows_no e = record {
    near = λ b lb m. elim (cases_eq b c) [
      | inl i ↦
          h.far b lb (omega arith)
          ∙ sym (ap (odd_bit opens a) i ∙ odd_bit-right opens a c right
          ∙ even_sum _ _ (sym (shr_and_one (slice_index opens a) c) ∙ e ∙ shr_and_one (slice_index opens c) a))
      | inr q ↦ h.near b lb (omega arith)
    ];
    far = λ b lb m. h.far b lb (omega arith);
  }

-- the bits of the odd pairs, if `opens` has those of the open rectangles
pub odd_bit-open : (g : Marks) (x opens : List ℕ) (n a b : ℕ) → a < n → b < n
    → ((a b : ℕ) → a < n → b < n → bit_at (slice_index opens a) b ≡ cond (is_open g x a b) 1 0)
    → odd_bit opens a b ≡ cond (ltb a b && is_odd_pair g x a b) 1 0
unfolding is_odd_pair
odd_bit-open g x opens n a b la lb has =
    (λ i. cond (ltb a b) ((has a b la lb i + has b a lb la i) % 2) 0)
    ∙ by (ltb a b) (is_open g x a b) (is_open g x b a)
  where
    by : (t u v : Bool)
        → ◌≡◌ {A = ℕ} (cond t ((cond u 1 0 + cond v 1 0) % 2) 0) (cond (t && ((u && not v) || (not u && v))) 1 0)
    by true true true = refl
    by true true false = refl
    by true false true = refl
    by true false false = refl
    by false u v = refl

-- ---- the exchanges of all circles

module _ (f : ℕ → List (List ℕ)) (circles : List ℕ) (i : ℕ) (l : i < length circles) where
  flat_map_more : flat_map f (take (i + 1) circles) ≡ flat_map f (take i circles) ++ f (slice_index circles i)
  flat_map_more = ap (flat_map f) (take_more circles i 0 l)
      ∙ flat_map-append f (take i circles) (slice_index circles i ∷ [])
      ∙ ap (λ ys. flat_map f (take i circles) ++ ys) (append-nil (f (slice_index circles i)))

  -- one circle more
  pub circle_more : (old items : List ℕ) (piece : List (List ℕ)) → items ≡ old ++ map rank (flat_map f (take i circles))
      → piece ≡ f (slice_index circles i)
      → items ++ map rank piece ≡ old ++ map rank (flat_map f (take (i + 1) circles))
  circle_more old items piece h e =
      ap₂ (λ ys zs. ys ++ map rank zs) h e
      ∙ append_assoc old _ _
      ∙ ap (λ ys. old ++ ys) (sym (map-append rank (flat_map f (take i circles)) (f (slice_index circles i))))
      ∙ ap (λ ys. old ++ map rank ys) (sym flat_map_more)

  -- there is room for its exchanges
  pub circle_room : (old items : List ℕ) (piece : List (List ℕ)) → items ≡ old ++ map rank (flat_map f (take i circles))
      → piece ≡ f (slice_index circles i) → length items + length piece ≤ length old + length (flat_map f circles)
  circle_room old items piece h e =
      let j : length items ≡ length old + length (flat_map f (take i circles)) =
      ap length h ∙ length-append old (map rank (flat_map f (take i circles)))
      ∙ ap (λ k. length old + k) (length-map (flat_map f (take i circles)) rank) in
      let k : length piece ≡ length (f (slice_index circles i)) = ap length e in
      let m = length-flat_map-take f circles i 0 l in
      omega arith

-- the number at a place among those below n
pub slice_index-ascending : (n a : ℕ) → a < n → slice_index (ascending n) a ≡ a
slice_index-ascending n a l = get_or-tabulate n (λ c. c) a 0 l

-- the number at a place among those below n, downwards
pub slice_index-descending : (n a : ℕ) → 0 < a → a ≤ n → slice_index (reverse (ascending n)) (n - a) ≡ a - 1
slice_index-descending n a some l =
    let e = length-ascending n in
    get_or-reverse (ascending n) (n - a) 0 (omega arith)
    ∙ get_or-tabulate n (λ c. c) (length (ascending n) - 1 - (n - a)) 0 (omega arith) ∙ omega arith

-- there are n
pub length-descending : (n : ℕ) → length (reverse (ascending n)) ≡ n
length-descending n = length-reverse (ascending n) ∙ length-ascending n
