-- The rows that a state uses on its first columns, as the bits of a number; and shifted bits.
use Rattle.std.proofs.Common.{◌≡◌, ◌≢◌, ℕ, zero, suc, ◌+◌, ◌-◌, ◌*◌, ◌/◌, ◌%◌, ◌^◌, ◌<◌, ◌≤◌, List, slice_index, ap, ap₂, ◌∙◌, sym, arith, max, cond, ltb, bit_or, mod-eq_of_lt}
use Rattle.std.proofs.Math.Nat.{div-add-mod, mul_comm}
use Rattle.std.proofs.Math.Pow.{pow-lt}
use Rattle.std.proofs.lemmas.Bool.{lt-ltb}
use Rattle.std.proofs.lemmas.Nat.{or_lt, one_shl, pow_pos}
use Rattle.std.proofs.lemmas.Nat.Bits.{bit_at_or, bit_at-lt, bit_at-zero, bit_at-pow_other, bit_at_cat_low, bit_at_cat_high}
use Rattle.std.specs.Int.{bit_at}
use Rattle.std.specs.Int.Count.{ones}
use Rattle.state_rank.specs.Bijection.{IsBijection}
use Rattle.state_rank.proofs.MaskLemmas.{ones-set, ones-none}
use Rattle.gradings.specs.Sums.{rows_used}

-- a row that is on none of the first c columns is not used
pub rows_used-free : (z : List ℕ) (c r : ℕ) → ((d : ℕ) → d < c → r ≢ slice_index z d) → bit_at (rows_used c z) r ≡ 0
rows_used-free z zero r h = bit_at-zero r
rows_used-free z (suc c) r h =
    bit_at_or (rows_used c z) (2 ^ slice_index z c) r
    ∙ ap₂ max (rows_used-free z c r (λ d l. h d (omega arith)))
    (bit_at-pow_other (slice_index z c) r (h c (omega arith)))

-- the rows used are below the size
pub rows_used-below : (n : ℕ) (z : List ℕ) (c : ℕ) → IsBijection n z → c ≤ n → rows_used c z < 2 ^ n
rows_used-below n z zero s l = pow_pos n
rows_used-below n z (suc c) s l =
    or_lt n (rows_used c z) (2 ^ slice_index z c) (rows_used-below n z c s (omega arith))
    (pow-lt (s.small c (omega arith)))

-- and as many as the columns
pub ones-rows_used : (n : ℕ) (z : List ℕ) (c : ℕ) → IsBijection n z → n ≤ 10 → c ≤ n → ones (rows_used c z) ≡ c
ones-rows_used n z zero s small l = ap ones (sym (mod-eq_of_lt (pow_pos 16))) ∙ ones-none 16
ones-rows_used n z (suc c) s small l =
    let row = slice_index z c in
    let low : row < n = s.small c (omega arith) in
    let free = rows_used-free z c row (λ d m. s.apart c d (omega arith) (omega arith) (omega arith)) in
    let power : 2 ^ n ≤ 2 ^ 16 = powers n small in
    let below = rows_used-below n z c s (omega arith) in
    let next = rows_used-below n z (suc c) s l in
    let one : 1 * 2 ^ row % 2 ^ 16 ≡ 2 ^ row = one_shl row 16 (omega arith) in
    let was : ones (rows_used c z % 2 ^ 16) ≡ c =
    ap ones (mod-eq_of_lt (omega arith)) ∙ ones-rows_used n z c s small (omega arith) in
    let set = ones-set (rows_used c z) row 16 (omega arith) free in
    let here : ones (bit_or (rows_used c z) (2 ^ row)) ≡ cond (ltb row 16) 1 0 + ones (rows_used c z % 2 ^ 16) =
    ap ones (sym (mod-eq_of_lt (omega arith))) ∙ ap (λ k. ones (bit_or (rows_used c z) k % 2 ^ 16)) (sym one) ∙ set in
    here ∙ ap₂ (λ b k. cond b 1 0 + k) (lt-ltb row 16 (omega arith)) was ∙ omega arith
  where
    powers : (n : ℕ) → n ≤ 10 → 2 ^ n ≤ 2 ^ 16
    powers n l = let h = pow-lt {i = n} {j = 16} (omega arith) in omega arith

-- a bit that is shifted to the left
pub bit_at-shifted : (m w k j : ℕ) → k ≡ j + w → k < 128 → bit_at m j ≡ 1 → bit_at (m * 2 ^ w % 2 ^ 128) k ≡ 1
bit_at-shifted m w k j is small set =
    let whole : m * 2 ^ w / 2 ^ 128 * 2 ^ 128 + m * 2 ^ w % 2 ^ 128 ≡ m * 2 ^ w + 0 =
    turned (m * 2 ^ w / 2 ^ 128) (2 ^ 128) (m * 2 ^ w % 2 ^ 128) (m * 2 ^ w) (div-add-mod (m * 2 ^ w) (2 ^ 128)) in
    sym (bit_at_cat_low (m * 2 ^ w / 2 ^ 128) 128 (m * 2 ^ w % 2 ^ 128) k small)
    ∙ ap (λ x. bit_at x k) whole
    ∙ bit_at_cat_high m w 0 k (pow_pos w) (omega arith)
    ∙ ap (bit_at m) (less k j w is) ∙ set
  where
    turned : (q p r a : ℕ) → p * q + r ≡ a → q * p + r ≡ a + 0
    turned q p r a e = omega (arith, e, mul_comm q p)

    less : (k j w : ℕ) → k ≡ j + w → k - w ≡ j
    less k j w e = omega arith

-- a bit that one of two sets has
pub bit_at-either : (a b k : ℕ) → bit_at a k ≡ 1 → bit_at (bit_or a b) k ≡ 1
bit_at-either a b k h = let e = bit_at_or a b k in let l = bit_at-lt b k in
    let m = most (bit_at a k) (bit_at b k) h l in
    e ∙ m
  where
    most : (x y : ℕ) → x ≡ 1 → y < 2 → max x y ≡ 1
    most x y e l = grind arith

pub bit_at-or_second : (a b k : ℕ) → bit_at b k ≡ 1 → bit_at (bit_or a b) k ≡ 1
bit_at-or_second a b k h = bit_at_or a b k ∙ most (bit_at a k) (bit_at b k) (bit_at-lt a k) h
  where
    most : (x y : ℕ) → x < 2 → y ≡ 1 → max x y ≡ 1
    most x y l e = grind arith
