-- The sets of sums, made column by column.
use Rattle.std.proofs.Common.{◌≡◌, ◌≢◌, ℕ, suc, ◌+◌, ◌-◌, ◌*◌, ◌%◌, ◌^◌, ◌<◌, ◌≤◌, List, length, slice_index, get_or, set, replicate, ap, ap₂, subst, ◌∙◌, sym, arith, inl, inr, bit_or, get_or-set_same, get_or-set_other}
use Rattle.std.proofs.Math.IntN.{pos, ◌+ℤ◌, ◌-ℤ◌}
use Rattle.std.proofs.lemmas.Int.{ints}
use Rattle.std.proofs.lemmas.Bool.{cases_eq}
use Rattle.std.proofs.lemmas.List.{length-set, get_or-replicate}
use Rattle.std.proofs.lemmas.Nat.{one_shl, or_lt}
use Rattle.std.proofs.Math.Pow.{pow-lt}
use Rattle.std.proofs.lemmas.Nat.Bits.{bit_at_lowest}
use Rattle.std.specs.Int.{bit_at}
use Rattle.std.specs.Int.Count.{ones}
use Rattle.state_rank.specs.Bijection.{IsBijection}
use Rattle.torus_geom.specs.Marks.{Marks, size}
use Rattle.gradings.specs.Sums.{weight, sum_before, rows_used, HoldsSums}
use Rattle.gradings.specs.Inner.Columns.{HoldsSumsOf, IsColumnDone}
use Rattle.gradings.proofs.WeightLemmas.{rest_up_to}
use Rattle.gradings.proofs.RowLemmas.{rows_used-free, rows_used-below, ones-rows_used, bit_at-shifted, bit_at-either, bit_at-or_second}

-- a row that is used is on no later column
pub used_row : (n c row used : ℕ) (z : List ℕ) → IsBijection n z → c < n → rows_used c z ≡ used → slice_index z c ≡ row
    → bit_at used row ≡ 0
used_row n c row used z s l is at =
    ap₂ bit_at (sym is) (sym at)
    ∙ rows_used-free z c (slice_index z c) (λ d m. s.apart c d l (omega arith) (omega arith))

-- the place of a set with one row more
pub place_fits : (n used row : ℕ) → used < 2 ^ n → row < n → n ≤ 10
    → (bit_or used (1 * 2 ^ row % 2 ^ 64) < 2 ^ n) × (bit_or used (1 * 2 ^ row % 2 ^ 64) < 2 ^ 11)
place_fits n used row within low small =
    let one : 1 * 2 ^ row % 2 ^ 64 ≡ 2 ^ row = one_shl row 64 (omega arith) in
    let below : bit_or used (1 * 2 ^ row % 2 ^ 64) < 2 ^ n =
    subst (λ k. bit_or used k < 2 ^ n) (sym one) (or_lt n used (2 ^ row) within (pow-lt low)) in
    let powers : 2 ^ n < 2 ^ 11 = pow-lt {i = n} {j = 11} (omega arith) in
    (below, omega arith)

module _ (g : Marks) (small : size g ≤ 10) (c : ℕ) (l : c < size g) where
  -- the sums with a row on the column are those without it, moved by its weight
  pub moved_sum : (row used w found : ℕ) (sets : List ℕ) → HoldsSums g (c + 1) sets → row < size g
      → pos w ≡ weight g c row → found ≡ get_or sets (bit_or used (1 * 2 ^ row % 2 ^ 64)) 0
      → (z : List ℕ) (k : ℕ) → IsBijection (size g) z → rows_used c z ≡ used → slice_index z c ≡ row
      → pos k +ℤ sum_before g c z ≡ sum_before g (size g) z → bit_at (found * 2 ^ w % 2 ^ 128) k ≡ 1
  moved_sum row used w found sets after within w_is found_is z k s is at sum =
      let weighs : pos w ≡ weight g c (slice_index z c) = w_is ∙ ap (weight g c) (sym at) in
      let rest = rest_up_to g z (suc c) (pos k -ℤ pos w) small (omega arith) (omega (arith, ints)) in
      let all = rest_up_to g z c (pos k) small (omega arith) sum in
      let low = rest.0 in
      let high = all.1 in
      let enough : w ≤ k = omega (arith, ints) in
      let few : k < 128 = omega (arith, ints) in
      let next : pos (k - w) +ℤ sum_before g (suc c) z ≡ sum_before g (size g) z = omega (arith, ints) in
      let mask : rows_used (suc c) z ≡ bit_or used (1 * 2 ^ row % 2 ^ 64) =
      ap₂ (λ m r. bit_or m (2 ^ r)) is at ∙ ap (bit_or used) (sym (one_shl row 64 (omega arith))) in
      let bit : bit_at found (k - w) ≡ 1 =
      ap (λ m. bit_at m (k - w)) (found_is ∙ ap (λ i. get_or sets i 0) (sym mask))
      ∙ after z (suc c) (k - w) s (omega arith) (omega arith) next in
      bit_at-shifted found w k (k - w) (omega arith) few bit

  -- one row more
  pub HoldsSumsOf-more : (used row set more : ℕ) → HoldsSumsOf g c used row set
      → ((z : List ℕ) (k : ℕ) → IsBijection (size g) z → rows_used c z ≡ used → slice_index z c ≡ row
      → pos k +ℤ sum_before g c z ≡ sum_before g (size g) z → bit_at more k ≡ 1)
      → HoldsSumsOf g c used (row + 1) (bit_or set more)
  HoldsSumsOf-more used row set more before here z k s is at sum = elim (cases_eq (slice_index z c) row) [
    | inl e ↦ bit_at-or_second set more k (here z k s is e sum)
    | inr p ↦ bit_at-either set more k (before z k s is (omega arith) sum)
  ]

  -- one set more
  pub IsColumnDone-more : (i v : ℕ) (sets : List ℕ) → IsColumnDone g c i sets → i < 2 ^ size g
      → (ones i ≢ c → v ≡ get_or sets i 0) → (ones i ≡ c → HoldsSumsOf g c i (size g) v)
      → IsColumnDone g c (i + 1) (set sets i v)
  IsColumnDone-more i v sets done within other sums = record {
    long = length-set sets i v ∙ done.long;
    after = λ z d k s low high sum. elim (cases_eq (rows_used d z) i) [
      | inl e ↦
          let many : ones i ≡ d = ap ones (sym e) ∙ ones-rows_used (size g) z d s small high in
          ap (λ j. bit_at (get_or (set sets i v) j 0) k) e
          ∙ ap (λ m. bit_at m k) (get_or-set_same sets i v 0 inside ∙ other (λ h. omega arith))
          ∙ ap (λ j. bit_at (get_or sets j 0) k) (sym e) ∙ done.after z d k s low high sum
      | inr p ↦
          ap (λ m. bit_at m k) (get_or-set_other sets i (rows_used d z) v 0 p) ∙ done.after z d k s low high sum
    ];
    here = λ z k s below sum. elim (cases_eq (rows_used c z) i) [
      | inl e ↦
          let many : ones i ≡ c = ap ones (sym e) ∙ ones-rows_used (size g) z c s small (omega arith) in
          ap (λ j. bit_at (get_or (set sets i v) j 0) k) e
          ∙ ap (λ m. bit_at m k) (get_or-set_same sets i v 0 inside)
          ∙ sums many z k s e (s.small c l) sum
      | inr p ↦
          ap (λ m. bit_at m k) (get_or-set_other sets i (rows_used c z) v 0 p)
          ∙ done.here z k s (omega arith) sum
    ];
  }
    where
      inside : i < length sets
      inside = subst (λ n. i < n) (sym done.long) within

  -- all sets of the column
  pub HoldsSums-column : (i : ℕ) (sets : List ℕ) → IsColumnDone g c i sets → 2 ^ size g ≤ i → HoldsSums g c sets
  HoldsSums-column i sets done all z d k s low high sum = elim (cases_eq d c) [
    | inl e ↦
        let below = rows_used-below (size g) z c s (omega arith) in
        ap (λ m. bit_at (get_or sets (rows_used m z) 0) k) e
        ∙ done.here z k s (omega arith) (ap (λ m. pos k +ℤ sum_before g m z) (sym e) ∙ sum)
    | inr p ↦ done.after z d k s (omega arith) high sum
  ]

-- after the last column nothing is left to add
pub HoldsSums-end : (g : Marks) (n : ℕ) (sets : List ℕ) → n ≡ size g → sets ≡ replicate (2 ^ size g) 1
    → HoldsSums g n sets
HoldsSums-end g n sets all is z d k s low high sum =
    let last : d ≡ size g = omega arith in
    let none : k ≡ 0 =
    let e = ap (λ m. sum_before g m z) last in omega (arith, ints) in
    let below = rows_used-below (size g) z d s high in
    ap (λ xs. bit_at (get_or xs (rows_used d z) 0) k) is
    ∙ ap₂ bit_at (get_or-replicate (2 ^ size g) (rows_used d z) 1 0 below) none ∙ bit_at_lowest 1
