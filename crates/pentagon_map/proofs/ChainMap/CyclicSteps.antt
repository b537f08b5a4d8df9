-- The number after and the number before on a circle, as plain numbers; ranges that begin or end one
-- further.
-- ---- one up, one down
use Rattle.std.proofs.Common.{ap, arith, eqb, false, inl, inr, mod-eq_of_lt, sym, true, zero-add, ℕ, ◌%◌, ◌&&◌, ◌+◌, ◌-◌, ◌<◌, ◌||◌, ◌∙◌, ◌≡◌, ◌≢◌, ◌≤◌, ◌⊎◌}
use Rattle.std.proofs.Math.Nat.{add-mod_right, mod_self}
use Rattle.std.proofs.lemmas.Bool.{cases_eq, cases_lt}
use Rattle.f2_algebra.proofs.Chains.Tables.{and-false}
use Rattle.torus_geom.specs.Range.{one_down, one_up}
use Rattle.rectangles.proofs.Square.CyclicOrder.{between, between_same}
use Rattle.rectangles.proofs.Square.TwoSteps.{differ, differ-self}
use Rattle.pentagon_map.proofs.ChainMap.PentagonTests.{two}

up_low : (n w : ℕ) → w + 1 < n → one_up n w ≡ w + 1
up_low n w l = mod-eq_of_lt l

up_top : (n w : ℕ) → w + 1 ≡ n → one_up n w ≡ 0
up_top n w e = ap (λ k. k % n) e ∙ mod_self n

down_low : (n s : ℕ) → 0 < s → s < n → one_down n s ≡ s - 1
down_low n s p l = let e : s + (n - 1) ≡ (s - 1) + n = omega arith in
    ap (λ k. k % n) e ∙ add-mod_right (s - 1) n ∙ mod-eq_of_lt (omega arith)

down_top : (n s : ℕ) → s ≡ 0 → 0 < n → one_down n s ≡ n - 1
down_top n s e p = ap (λ (k : ℕ). (k + (n - 1)) % n) e ∙ mod-eq_of_lt (omega arith) ∙ zero-add (n - 1)

-- the number after w is one more, or 0 after the last
pub one_up_cases : (n w : ℕ) → w < n → ((w + 1 < n) × (one_up n w ≡ w + 1)) ⊎ ((w + 1 ≡ n) × (one_up n w ≡ 0))
one_up_cases n w l = elim (cases_lt (w + 1) n) [
  | inl p ↦ inl (p, up_low n w p)
  | inr p ↦ let e : w + 1 ≡ n = omega arith in inr (e, up_top n w e)
]

-- the number before s is one less, or the last before 0
pub one_down_cases : (n s : ℕ) → s < n → ((0 < s) × (one_down n s ≡ s - 1)) ⊎ ((s ≡ 0) × (one_down n s ≡ n - 1))
one_down_cases n s l = elim (cases_lt 0 s) [
  | inl p ↦ inl (p, down_low n s p l)
  | inr p ↦ let e : s ≡ 0 = omega arith in inr (e, down_top n s e (omega arith))
]

-- ---- with the values for variables
before_low : (a b r s : ℕ) → 0 < s → r ≡ s - 1 → a ≢ b → between a b r ≡ ((between a b s && differ s a) || eqb b s)
before_low a b r s p e q = grind arith

before_top : (n a b r s : ℕ) → s ≡ 0 → r ≡ n - 1 → a < n → b < n → a ≢ b
    → between a b r ≡ ((between a b s && differ s a) || eqb b s)
before_top n a b r s p e la lb q = grind arith

-- a range has the number before s if it has s past its start, or ends at s
pub between-one_down : (n a b s : ℕ) → a < n → b < n → s < n → a ≢ b
    → between a b (one_down n s) ≡ ((between a b s && differ s a) || eqb b s)
between-one_down n a b s la lb ls p = elim (one_down_cases n s ls) [
  | inl h ↦ before_low a b (one_down n s) s h.0 h.1 p
  | inr h ↦ before_top n a b (one_down n s) s h.0 h.1 la lb p
]

after_low : (s e b : ℕ) → e ≡ s + 1 → b ≢ s → b ≢ e → between s b e ≡ true
after_low s e b i p q = grind arith

after_top : (n s e b : ℕ) → s + 1 ≡ n → e ≡ 0 → b < n → b ≢ s → b ≢ e → between s b e ≡ true
after_top n s e b i j l p q = grind arith

-- the number after s is met first on the way up from s
pub between-from : (n s b : ℕ) → s < n → b < n → b ≢ s → b ≢ one_up n s → between s b (one_up n s) ≡ true
between-from n s b ls lb p q = elim (one_up_cases n s ls) [
  | inl h ↦ after_low s (one_up n s) b h.1 p q
  | inr h ↦ after_top n s (one_up n s) b h.0 h.1 lb p q
]

thin_low : (s e t : ℕ) → e ≡ s + 1 → t ≢ s → between s e t ≡ false
thin_low s e t i p = grind arith

thin_top : (n s e t : ℕ) → s + 1 ≡ n → e ≡ 0 → t < n → t ≢ s → between s e t ≡ false
thin_top n s e t i j l p = grind arith

-- up to the number after s there is s alone
pub between-thin : (n s t : ℕ) → s < n → t < n → t ≢ s → between s (one_up n s) t ≡ false
between-thin n s t ls lt p = elim (one_up_cases n s ls) [
  | inl h ↦ thin_low s (one_up n s) t h.1 p
  | inr h ↦ thin_top n s (one_up n s) t h.0 h.1 lt p
]

on_low : (w e k i : ℕ) → e ≡ w + 1 → k ≢ w → k ≢ e → between e k i ≡ (between w k i && differ i w)
on_low w e k i q p r = grind arith

on_top : (n w e k i : ℕ) → w + 1 ≡ n → e ≡ 0 → i < n → k < n → k ≢ w → k ≢ e
    → between e k i ≡ (between w k i && differ i w)
on_top n w e k i q j l lk p r = grind arith

none_at : (w e i : ℕ) → differ i w ≡ false → (between w e i && differ i w) ≡ false
none_at w e i h = ap (λ z. between w e i && z) h ∙ and-false (between w e i)

-- from the number after w, the range is the one from w without w
pub between-one_up : (n w k i : ℕ) → w < n → k < n → i < n → k ≢ w
    → between (one_up n w) k i ≡ (between w k i && differ i w)
between-one_up n w k i lw lk li p = elim (cases_eq k (one_up n w)) [
  | inl e ↦
      ap (λ z. between (one_up n w) z i) e ∙ between_same (one_up n w) i
      ∙ sym (ap (λ z. between w z i && differ i w) e ∙ elim (cases_eq i w) [
        | inl j ↦ none_at w (one_up n w) i (ap (λ z. differ z w) j ∙ differ-self w)
        | inr q ↦ ap (λ z. z && differ i w) (between-thin n w i lw li q)
      ])
  | inr q ↦ elim (one_up_cases n w lw) [
    | inl h ↦ on_low w (one_up n w) k i h.1 p q
    | inr h ↦ on_top n w (one_up n w) k i h.0 h.1 li lk p q
  ]
]

-- the number after another is another one
pub one_up-other : (n s : ℕ) → 2 ≤ n → s < n → one_up n s ≢ s
one_up-other n s two l e = elim (one_up_cases n s l) [
  | inl h ↦ let f = h.1 in absurd (omega arith)
  | inr h ↦ let f = h.1 in let k = h.0 in absurd (omega arith)
]
