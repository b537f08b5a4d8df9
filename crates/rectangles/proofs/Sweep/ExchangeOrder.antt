-- The order of two exchanges of a state, by the first place at which they differ.
use Rattle.std.proofs.Common.{◌≡◌, ℕ, ◌<◌, ◌≤◌, true, List, length, slice_index, swap, ap, subst, ◌∙◌, sym, arith, inl, inr}
use Rattle.std.proofs.lemmas.Bool.{cases_order}
use Rattle.state_rank.specs.Bijection.{IsBijection}
use Rattle.state_rank.specs.States.{is_before}
use Rattle.state_rank.proofs.SwapLemmas.{slice_index-swap_first, slice_index-swap_other, IsBijection-swap}
use Rattle.rectangles.proofs.Sweep.OrderedLists.{is_before-at}

module _ (n : ℕ) (x : List ℕ) (sx : IsBijection n x) where
  long : (a b : ℕ) → a < n → b < n → length (swap x a b) ≡ n
  long a b la lb = (IsBijection-swap n x a b la lb sx).long

  fits : (a : ℕ) → a < n → a < length x
  fits a l = let e = sx.long in omega arith

  -- below its first circle an exchange is x
  kept : (a b c : ℕ) → a < b → b < n → c < a → slice_index (swap x a b) c ≡ slice_index x c
  kept a b c ab lb l = slice_index-swap_other x a b c (fits a (omega arith)) (fits b lb) (omega arith) (omega arith)

  -- two exchanges that first differ at p, which is below neither first circle
  ordered : (a b c d p : ℕ) → a < b → b < n → c < d → d < n → p ≤ a → p ≤ c
      → slice_index (swap x a b) p < slice_index (swap x c d) p → is_before (swap x a b) (swap x c d) ≡ true
  ordered a b c d p ab lb cd ld pa pc l =
      let e = long a b (omega arith) lb in
      let f = long c d (omega arith) ld in
      is_before-at (swap x a b) (swap x c d) p (omega arith) (omega arith)
      (λ i k. kept a b i ab lb (omega arith) ∙ sym (kept c d i cd ld (omega arith))) l

  at_first : (a b : ℕ) → a < b → b < n → slice_index (swap x a b) a ≡ slice_index x b
  at_first a b ab lb = slice_index-swap_first x a b (fits a (omega arith)) (fits b lb)

  -- of two exchanges of one circle the one that gives it the lower row is first
  pub order_same : (a b d : ℕ) → a < b → b < n → a < d → d < n → slice_index x b < slice_index x d
      → is_before (swap x a b) (swap x a d) ≡ true
  order_same a b d ab lb ad ld l =
      ordered a b a d a ab lb ad ld (omega arith) (omega arith)
      (let e = at_first a b ab lb in let f = at_first a d ad ld in omega arith)

  -- an exchange that lowers the row of its first circle is before those of higher circles
  pub order_lowered : (a b c d : ℕ) → a < b → b < n → c < d → d < n → a < c → slice_index x b < slice_index x a
      → is_before (swap x a b) (swap x c d) ≡ true
  order_lowered a b c d ab lb cd ld ac l =
      ordered a b c d a ab lb cd ld (omega arith) (omega arith)
      (let e = at_first a b ab lb in let f = kept c d a cd ld ac in omega arith)

  -- one that raises it is after those of higher circles
  pub order_raised : (a b c d : ℕ) → a < b → b < n → c < d → d < n → c < a → slice_index x c < slice_index x d
      → is_before (swap x a b) (swap x c d) ≡ true
  order_raised a b c d ab lb cd ld ca l =
      ordered a b c d c ab lb cd ld (omega arith) (omega arith)
      (let e = kept a b c ab lb ca in let f = at_first c d cd ld in omega arith)

  pub order_across : (a b c d : ℕ) → a < b → b < n → c < d → d < n → slice_index x b < slice_index x a
      → slice_index x c < slice_index x d → is_before (swap x a b) (swap x c d) ≡ true
  order_across a b c d ab lb cd ld low high = elim (cases_order a c) [
    | inl e ↦
        subst (λ i. is_before (swap x a b) (swap x i d) ≡ true) e
        (order_same a b d ab lb (omega arith) ld
        (let f : slice_index x a ≡ slice_index x c = ap (slice_index x) e in omega arith))
    | inr o ↦ elim o [
      | inl l ↦ order_lowered a b c d ab lb cd ld l low
      | inr l ↦ order_raised a b c d ab lb cd ld l high
    ]
  ]
