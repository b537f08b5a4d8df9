-- Ranges of columns and rows that begin or end at the number after another.
use Rattle.std.proofs.Common.{ap, arith, false, inl, inr, true, ℕ, ◌&&◌, ◌+◌, ◌<◌, ◌∙◌, ◌≡◌, ◌≢◌}
use Rattle.std.proofs.lemmas.Bool.{cases_eq}
use Rattle.f2_algebra.proofs.Chains.Tables.{and-false}
use Rattle.torus_geom.proofs.Circles.TurnLemmas.{one_up_below}
use Rattle.torus_geom.specs.Range.{one_up}
use Rattle.rectangles.proofs.Square.CyclicOrder.{between}
use Rattle.rectangles.proofs.Square.TwoSteps.{differ, differ-self}
use Rattle.pentagon_map.proofs.ChainMap.CyclicSteps.{between-one_up, between-thin, one_up_cases}
use Rattle.pentagon_map.proofs.ChainMap.RowArcs.{above_of}

last_low : (j k m : ℕ) → k ≡ m + 1 → j ≢ k → between j k m ≡ true
last_low j k m e p = grind arith

last_top : (n j k m : ℕ) → m + 1 ≡ n → k ≡ 0 → j < n → j ≢ k → between j k m ≡ true
last_top n j k m e f l p = grind arith

-- and a row is in each range up to the next
pub last_row : (n j m : ℕ) → j < n → m < n → j ≢ one_up n m → between j (one_up n m) m ≡ true
last_row n j m lj lm p = elim (one_up_cases n m lm) [
  | inl h ↦ last_low j (one_up n m) m h.1 p
  | inr h ↦ last_top n j (one_up n m) m h.0 h.1 lj p
]

-- a range that begins one further
pub begin_up : (n p k i : ℕ) → p < n → k < n → i < n → k ≢ p → between p k i ≡ false → between (one_up n p) k i ≡ false
begin_up n p k i lp lk li q h = between-one_up n p k i lp lk li q ∙ ap (λ z. z && differ i p) h

end_low : (t q k i : ℕ) → k ≡ q + 1 → t ≢ q → i ≢ q → between t q i ≡ false → between t k i ≡ false
end_low t q k i e p r h = grind arith

end_top : (n t q k i : ℕ) → q + 1 ≡ n → k ≡ 0 → t < n → i < n → t ≢ q → i ≢ q → between t q i ≡ false
    → between t k i ≡ false
end_top n t q k i e f lt li p r h = grind arith

-- a range that ends one further
pub end_up : (n t q i : ℕ) → t < n → q < n → i < n → t ≢ q → i ≢ q → between t q i ≡ false
    → between t (one_up n q) i ≡ false
end_up n t q i lt lq li p r h = elim (one_up_cases n q lq) [
  | inl k ↦ end_low t q (one_up n q) i k.1 p r h
  | inr k ↦ end_top n t q (one_up n q) i k.0 k.1 lt li p r h
]

both_low : (p q j k t : ℕ) → j ≡ p + 1 → k ≡ q + 1 → t ≢ p → between p q t ≡ true → between j k t ≡ true
both_low p q j k t e f r h = grind arith

both_first : (n p q j k t : ℕ) → p + 1 ≡ n → j ≡ 0 → k ≡ q + 1 → t < n → t ≢ p → between p q t ≡ true
    → between j k t ≡ true
both_first n p q j k t e f i lt r h = grind arith

both_last : (n p q j k t : ℕ) → j ≡ p + 1 → q + 1 ≡ n → k ≡ 0 → j < n → t < n → t ≢ p → between p q t ≡ true
    → between j k t ≡ true
both_last n p q j k t e f i lj lt r h = grind arith

-- a range that begins and ends one further
pub both_up : (n p q t : ℕ) → p < n → q < n → t < n → p ≢ q → t ≢ p → between p q t ≡ true
    → between (one_up n p) (one_up n q) t ≡ true
both_up n p q t lp lq lt pq r h = elim (one_up_cases n p lp) [
  | inl a ↦ elim (one_up_cases n q lq) [
    | inl b ↦ both_low p q (one_up n p) (one_up n q) t a.1 b.1 r h
    | inr b ↦ both_last n p q (one_up n p) (one_up n q) t a.1 b.0 b.1 (one_up_below n p lp) lt r h
  ]
  | inr a ↦ elim (one_up_cases n q lq) [
    | inl b ↦ both_first n p q (one_up n p) (one_up n q) t a.0 a.1 b.1 lt r h
    | inr b ↦ let e = a.0 in let f = b.0 in absurd (omega arith)
  ]
]

-- up to the number after w there is w alone
pub above_none : (n w i : ℕ) → w < n → i < n → above_of w (one_up n w) i ≡ false
above_none n w i lw li = elim (cases_eq i w) [
  | inl e ↦
      ap (λ z. between w (one_up n w) i && z) (ap (λ v. differ v w) e ∙ differ-self w)
      ∙ and-false (between w (one_up n w) i)
  | inr p ↦ ap (λ z. z && differ i w) (between-thin n w i lw li p)
]

-- of three numbers: if a is not met before c on the way up from b, b is met before c on the way up from a
pub turned_round : (a b c : ℕ) → a ≢ b → b ≢ c → c ≢ a → between b c a ≡ false → between a c b ≡ true
turned_round a b c p q r h = grind arith

-- and c is not met before b
pub not_between : (a b c : ℕ) → a ≢ b → b ≢ c → c ≢ a → between b c a ≡ false → between a b c ≡ false
not_between a b c p q r h = grind arith
