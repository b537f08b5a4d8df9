-- Opposite circles, and columns in the order from right to left: order and ranges under both.
use Rattle.std.proofs.Common.{◌≡◌, ℕ, suc, ◌+◌, ◌-◌, ◌%◌, ◌<◌, not, ◌&&◌, refl, ap, ap₂, ◌∙◌, sym, eqb, ltb, leb, arith, inl, inr, mod-eq_of_lt}
use Rattle.std.proofs.Math.Nat.{add-mod_right}
use Rattle.std.proofs.lemmas.Bool.{cases_eq}
use Rattle.f2_algebra.proofs.Chains.Tables.{◌⊻◌, same}
use Rattle.state_rank.proofs.BijectionLemmas.{IsOneToOne}
use Rattle.torus_geom.specs.Range.{one_up}
use Rattle.torus_geom.proofs.Circles.TurnLemmas.{one_up-below, one_up-last}
use Rattle.torus_geom.proofs.Circles.BetweenLemmas.{between}
use Rattle.torus_geom.proofs.Pairs.CornerCounts.{leb-not_ltb}
use Rattle.torus_geom.proofs.Circles.BetweenLemmas.{is_between}
use Rattle.grid_symmetry.specs.Symmetries.{opposite}
use Rattle.grid_moves.proofs.Turned.CarriedChains.{eqb_alike}

-- columns from right to left
abbrev pub from_right : ℕ → ℕ → ℕ
from_right n c = n - 1 - c

pub from_right_one : (n : ℕ) → IsOneToOne n (from_right n)
from_right_one n = record { small = λ c l. omega arith; apart = λ b c lb lc p. omega arith }

pub from_right-from_right : (n c : ℕ) → c < n → from_right n (from_right n c) ≡ c
from_right-from_right n c l = omega arith

-- circle 0 is opposite to itself
pub opposite-zero : (n : ℕ) → 0 < n → opposite n 0 ≡ 0
opposite-zero n l =
    let e : n - 0 ≡ 0 + n = omega arith in ap (λ k. k % n) e ∙ add-mod_right 0 n ∙ mod-eq_of_lt (omega arith)

pub opposite-positive : (n c : ℕ) → 0 < c → c < n → opposite n c ≡ n - c
opposite-positive n c p l = mod-eq_of_lt (omega arith)

pub opposite_below : (n c : ℕ) → c < n → opposite n c < n
opposite_below n c l = elim (cases_eq c 0) [
  | inl e ↦ let i : opposite n c ≡ 0 = ap (opposite n) e ∙ opposite-zero n (omega arith) in omega arith
  | inr q ↦ let i = opposite-positive n c (omega arith) l in omega arith
]

-- twice is nothing
pub opposite-opposite : (n c : ℕ) → c < n → opposite n (opposite n c) ≡ c
opposite-opposite n c l = elim (cases_eq c 0) [
  | inl e ↦ let i : opposite n c ≡ 0 = ap (opposite n) e ∙ opposite-zero n (omega arith) in ap (opposite n) i
      ∙ opposite-zero n (omega arith) ∙ sym e
  | inr q ↦
      let i = opposite-positive n c (omega arith) l in
      ap (opposite n) i ∙ opposite-positive n (n - c) (omega arith) (omega arith) ∙ omega arith
]

pub opposite_one : (n : ℕ) → IsOneToOne n (opposite n)
opposite_one n = record {
  small = opposite_below n;
  apart = λ b c lb lc p e. p (sym (opposite-opposite n b lb) ∙ ap (opposite n) e ∙ opposite-opposite n c lc);
}

-- the circle that is opposite to the one after c
pub opposite-one_up : (m c : ℕ) → c < suc m → opposite (suc m) (one_up (suc m) c) ≡ from_right (suc m) c
opposite-one_up m c l = elim (cases_eq c m) [
  | inl e ↦ ap (opposite (suc m)) (ap (one_up (suc m)) e ∙ one_up-last m) ∙ opposite-zero (suc m) (omega arith)
      ∙ omega arith
  | inr q ↦ ap (opposite (suc m)) (one_up-below m c (omega arith))
      ∙ opposite-positive (suc m) (c + 1) (omega arith) (omega arith) ∙ omega arith
]

module _ (n : ℕ) where
  -- the order of two opposite circles
  pub ltb-opposite : (a b : ℕ) → a < n → b < n → ltb (opposite n a) (opposite n b) ≡ (ltb b a ⊻ eqb a 0 ⊻ eqb b 0)
  ltb-opposite a b la lb = elim (cases_eq a 0) [
    | inl e ↦ elim (cases_eq b 0) [
      | inl f ↦
          let i : opposite n a ≡ 0 = ap (opposite n) e ∙ opposite-zero n (omega arith) in
          let j : opposite n b ≡ 0 = ap (opposite n) f ∙ opposite-zero n (omega arith) in
          ap₂ ltb i j ∙ grind (arith, e, f)
      | inr q ↦
          let i : opposite n a ≡ 0 = ap (opposite n) e ∙ opposite-zero n (omega arith) in
          let j = opposite-positive n b (omega arith) lb in
          ap₂ ltb i j ∙ grind (arith, e, q, lb)
    ]
    | inr p ↦ elim (cases_eq b 0) [
      | inl f ↦
          let i = opposite-positive n a (omega arith) la in
          let j : opposite n b ≡ 0 = ap (opposite n) f ∙ opposite-zero n (omega arith) in
          ap₂ ltb i j ∙ grind (arith, p, f, la)
      | inr q ↦
          let i = opposite-positive n a (omega arith) la in
          let j = opposite-positive n b (omega arith) lb in
          ap₂ ltb i j ∙ grind (arith, p, q, la, lb)
    ]
  ]

  -- the order of an opposite circle and a column from the right
  pub leb-opposite : (b c : ℕ) → b < n → c < n → leb (opposite n b) (from_right n c) ≡ (not (leb b c) ⊻ eqb b 0)
  leb-opposite b c lb lc = elim (cases_eq b 0) [
    | inl e ↦
        let i : opposite n b ≡ 0 = ap (opposite n) e ∙ opposite-zero n (omega arith) in
        ap (λ t. leb t (from_right n c)) i ∙ grind (arith, e)
    | inr q ↦
        let i = opposite-positive n b (omega arith) lb in
        ap (λ t. leb t (from_right n c)) i ∙ grind (arith, q, lb, lc)
  ]

  -- the columns from a up to b become those from - b up to - a
  pub between-from_right : (a b c : ℕ) → a < n → b < n → c < n → between (opposite n b) (opposite n a) (from_right n c)
      ≡ between a b c
  between-from_right a b c la lb lc =
      (λ i. leb-opposite b c lb lc i ⊻ leb-opposite a c la lc i ⊻ ltb-opposite a b la lb i)
      ∙ same 5 (λ p q r u v. ((not q ⊻ v) ⊻ (not p ⊻ u)) ⊻ ((r ⊻ u) ⊻ v)) (λ p q r u v. (p ⊻ q) ⊻ r) refl (leb a c)
      (leb b c) (ltb b a) (eqb a 0) (eqb b 0)

  inside_table : (a b c : ℕ) → (((ltb b c ⊻ ltb a c) ⊻ ltb b a) && not (eqb c b))
      ≡ (((leb a c ⊻ leb b c) ⊻ ltb b a) && not (eqb c a))
  inside_table a b c = grind arith

  -- and so the circles strictly between
  pub is_between-opposite : (a b c : ℕ) → a < n → b < n → c < n
      → is_between (opposite n b) (opposite n a) (opposite n c) ≡ is_between a b c
  is_between-opposite a b c la lb lc =
      (λ i. ((leb-not_ltb (opposite n b) (opposite n c) i ⊻ leb-not_ltb (opposite n a) (opposite n c) i)
      ⊻ ltb-opposite a b
      la lb i) && not (alike i))
      ∙ (λ i. ((not (ltb-opposite c b lc lb i) ⊻ not (ltb-opposite c a lc la i)) ⊻ ((ltb b a ⊻ eqb a 0) ⊻ eqb b 0))
      && not (eqb c b))
      ∙ ap (λ t. t && not (eqb c b))
      (same 6 (λ p q r u v w. (not ((q ⊻ w) ⊻ v) ⊻ not ((p ⊻ w) ⊻ u)) ⊻ ((r ⊻ u) ⊻ v)) (λ p q r u v w. (q ⊻ p) ⊻ r) refl
      (ltb a c) (ltb b c) (ltb b a) (eqb a 0) (eqb b 0) (eqb c 0))
      ∙ inside_table a b c
    where
      alike : eqb (opposite n c) (opposite n b) ≡ eqb c b
      alike =
          eqb_alike (opposite n c) (opposite n b) c b
          (λ e. sym (opposite-opposite n c lc) ∙ ap (opposite n) e ∙ opposite-opposite n b lb) (ap (opposite n))
