-- The step to the next state. In the place p the row goes up, and behind p the rows fall before the step and
-- rise after it. Then no state lies between the two, so the rank goes up by one.
use Rattle.std.proofs.Common.{◌≡◌, ℕ, zero, suc, ◌-◌, ◌<◌, ◌≤◌, true, List, [], ◌∷◌, length, slice_index, ap, ◌∙◌, sym, arith, inl, inr, true≢false}
use Rattle.std.proofs.lemmas.Bool.{cases_eq, cases_order}
use Rattle.state_rank.specs.States.{is_before}
use Rattle.state_rank.specs.Inner.Steps.{FallsFrom}
use Rattle.state_rank.proofs.OrderLemmas.{is_before-lower, is_before-higher, is_before-equal}

-- ---- the two loops

-- one place more
falls_more : (x : List ℕ) (c : ℕ) → FallsFrom (c - 1) x → 1 < c → slice_index x (c - 1) ≤ slice_index x (c - 1 - 1)
    → FallsFrom (c - 1 - 1) x
falls_more x c h some step i j l m n = elim (cases_eq i (c - 1 - 1)) [
  | inl e ↦ elim (cases_eq j (c - 1)) [
    | inl f ↦ let a = ap (slice_index x) e in let b = ap (slice_index x) f in omega arith
    | inr q ↦ let a = ap (slice_index x) e in let k = h (c - 1) j (omega arith) (omega arith) n in omega arith
  ]
  | inr p ↦ h i j (omega arith) m n
]

-- from place c on, no row is above that at p
abbrev pub AreLowFrom : List ℕ → ℕ → ℕ → Type 0
AreLowFrom x p c = (i : ℕ) → c ≤ i → i < length x → slice_index x i ≤ slice_index x p

-- one place more
low_more : (x : List ℕ) (p c : ℕ) → AreLowFrom x p c → 0 < c → slice_index x (c - 1) ≤ slice_index x p
    → AreLowFrom x p (c - 1)
low_more x p c h some step i l m = elim (cases_eq i (c - 1)) [
  | inl e ↦ let a = ap (slice_index x) e in omega arith
  | inr q ↦ h i (omega arith) m
]

-- ---- the order, place by place

-- x is lower than y in the place q, and in the places before they agree
pub record FirstDiffer (x y : List ℕ) (q : ℕ) : Type 0 where
  pub same : (i : ℕ) → i < q → slice_index x i ≡ slice_index y i
  pub up : slice_index x q < slice_index y q

-- the first place in which a state and a later one differ
pub first_difference : (x y : List ℕ) → length x ≡ length y → is_before x y ≡ true
    → (q : ℕ) × (q < length x) × FirstDiffer x y q
first_difference [] y e h = absurd (true≢false (sym h))
first_difference (r ∷ x) [] e h = absurd (omega arith)
first_difference (r ∷ x) (s ∷ y) e h = elim (cases_order r s) [
  | inl i ↦
      let k = first_difference x y (omega arith)
      (sym (is_before-equal s x y) ∙ ap (λ t. is_before (t ∷ x) (s ∷ y)) (sym i) ∙ h) in
      let l = k.1 in
      (suc k.0, omega arith, later i k.0 k.2)
  | inr o ↦ elim o [
    | inl l ↦ (0, omega arith, record { same = λ i m. absurd (omega arith); up = l })
    | inr l ↦ absurd (true≢false (sym h ∙ is_before-higher r s x y l))
  ]
]
  where
    later : r ≡ s → (q : ℕ) → FirstDiffer x y q → FirstDiffer (r ∷ x) (s ∷ y) (suc q)
    later i q d = record { same = same; up = d.up }
      where
        same : (j : ℕ) → j < suc q → slice_index (r ∷ x) j ≡ slice_index (s ∷ y) j
        same zero l = i
        same (suc j) l = d.same j (omega arith)

-- and the other way round
pub before-differ : (x y : List ℕ) (q : ℕ) → q < length x → q < length y → FirstDiffer x y q → is_before x y ≡ true
before-differ [] y q l m d = absurd (omega arith)
before-differ (r ∷ x) [] q l m d = absurd (omega arith)
before-differ (r ∷ x) (s ∷ y) zero l m d = is_before-lower r s x y d.up
before-differ (r ∷ x) (s ∷ y) (suc q) l m d =
    ap (λ t. is_before (t ∷ x) (s ∷ y)) (d.same 0 (omega arith)) ∙ is_before-equal s x y
    ∙ before-differ x y q (omega arith) (omega arith) (record { same = λ i k. d.same (suc i) (omega arith); up = d.up })
