-- Columns side by side with one circle between them: ranges and tests beside a thin annulus.
use Rattle.std.proofs.Common.{Bool, ap, false, inl, inr, not, refl, sym, true, true≢false, ℕ, ◌&&◌, ◌<◌, ◌||◌, ◌∙◌, ◌≡◌, ◌≢◌, ◌⊎◌}
use Rattle.std.proofs.lemmas.Bool.{and_from, and_parts, cases_eq, false_from_ne_true, ne_eqb}
use Rattle.f2_algebra.proofs.Chains.Tables.{and-false, same}
use Rattle.torus_geom.proofs.Sums.AllBelowLemmas.{at_all_below, all_below-same}
use Rattle.rectangles.proofs.Square.ColumnTests.{all_below-always}
use Rattle.rectangles.proofs.Square.CyclicOrder.{between, between_back, between_start}
use Rattle.rectangles.proofs.Square.EmptyRectangles.{free, is_clear_of}
use Rattle.rectangles.proofs.Square.OpenRectangles.{marks}
use Rattle.rectangles.proofs.Square.TwoSteps.{differ, differ-self}
use Rattle.torus_geom.proofs.Circles.BetweenLemmas.{is_between}
use Rattle.pentagon_map.proofs.ChainMap.PentagonTests.{two}

-- the column e after s, and what is between the columns side by side
pub record IsThin (n r s e : ℕ) : Type 0 where
  pub e-lt : e < n
  pub apart : e ≢ s
  -- from s, column e comes next
  pub after : (b : ℕ) → b < n → b ≢ s → b ≢ e → between s b e ≡ true
  pub right : (t : ℕ) → t < n → t ≢ s → between s e t ≡ false
  pub left : (t : ℕ) → t < n → t ≢ r → between r s t ≡ false

-- each row has a mark outside of the columns r and s
abbrev pub AreBusy : (n r s : ℕ) (O X : ℕ → ℕ) → Type 0
AreBusy n r s O X = (j : ℕ) → j < n → (c : ℕ) × (c < n) × (c ≢ r) × (c ≢ s) × ((O c ≡ j) ⊎ (X c ≡ j))

pub free_thin : (n : ℕ) (skip P h : ℕ → Bool) → ((t : ℕ) → t < n → (skip t || not (P t)) ≡ true)
    → free n skip P h ≡ true
free_thin n skip P h o =
    all_below-same n (λ t. skip t || not (P t && h t)) (λ t. true) (λ t l.
    same 3 (λ x y z. x || not (y && z)) (λ x y z. (x || not y) || not z) refl (skip t) (P t) (h t)
    ∙ ap (λ z. z || not (h t)) (o t l))
    ∙ all_below-always n

pub clear_thin : (n : ℕ) (f : ℕ → ℕ) (a b j k : ℕ) → ((t : ℕ) → t < n → t ≢ a → between a b t ≡ false)
    → is_clear_of n f a b j k ≡ true
clear_thin n f a b j k o =
    all_below-same n (λ t. not (is_between a b t && is_between j k (f t))) (λ t. true) (λ t l. elim (cases_eq t a) [
      | inl i ↦
          ap (λ z. not ((between a b t && z) && is_between j k (f t))) (ap (λ v. differ v a) i ∙ differ-self a)
          ∙ ap (λ z. not (z && is_between j k (f t))) (and-false (between a b t))
      | inr q ↦ ap (λ z. not ((z && differ t a) && is_between j k (f t))) (o t l q)
    ])
    ∙ all_below-always n

-- a column outside of r and s that both ranges of rows pass
pub two_ways : (n r s : ℕ) (O X : ℕ → ℕ) (a b j k c : ℕ) → c < n → c ≢ r → c ≢ s → between a b c ≡ true → j ≢ k
    → (free n (two r s) (between a b) (marks O X (between j k))
    && free n (two r s) (between a b) (marks O X (between k j))) ≡ false
two_ways n r s O X a b j k c l cr cs i q = false_from_ne_true _ (λ h.
    let p = and_parts (free n (two r s) (between a b) (marks O X (between j k)))
    (free n (two r s) (between a b) (marks O X (between k j))) h in
    let x = at_all_below n (λ t. two r s t || not (between a b t && marks O X (between j k) t)) p.0 c l in
    let y = at_all_below n (λ t. two r s t || not (between a b t && marks O X (between k j) t)) p.1 c l in
    let z : two r s c ≡ false = λ i. ne_eqb c r cr i || ne_eqb c s cs i in
    true≢false (sym (and_from _ _ x y)
    ∙ (λ v. (z v || not (i v && (between j k (O c) || between j k (X c))))
    && (z v || not (i v && (between_back j k (O c) q v || between k j (X c)))))
    ∙ same 3 (λ u v w. not (u || v) && not (not u || w)) (λ u v w. false) refl (between j k (O c)) (between j k (X c))
    (between k j (X c))))

-- the two ranges of columns, at the rows from j, of which one is marked outside of r and s
pub two_sides : (n r s : ℕ) (O X : ℕ → ℕ) (a b j k : ℕ) → AreBusy n r s O X → j < n → a ≢ b → j ≢ k
    → (free n (two r s) (between a b) (marks O X (between j k))
    && free n (two r s) (between b a) (marks O X (between j k))) ≡ false
two_sides n r s O X a b j k busy l ab q = false_from_ne_true _ (λ h.
    let p = and_parts (free n (two r s) (between a b) (marks O X (between j k)))
    (free n (two r s) (between b a) (marks O X (between j k))) h in
    let m = busy j l in
    let c : ℕ = m.0 in
    let x = at_all_below n (λ t. two r s t || not (between a b t && marks O X (between j k) t)) p.0 c m.1 in
    let y = at_all_below n (λ t. two r s t || not (between b a t && marks O X (between j k) t)) p.1 c m.1 in
    let z : two r s c ≡ false = λ i. ne_eqb c r m.2 i || ne_eqb c s m.3 i in
    let has : marks O X (between j k) c ≡ true = elim m.4 [
      | inl i ↦ ap (λ v. v || between j k (X c)) (ap (between j k) i ∙ between_start j k q)
      | inr i ↦
          ap (λ v. between j k (O c) || v) (ap (between j k) i ∙ between_start j k q)
          ∙ same 1 (λ v. v || true) (λ v. true) refl (between j k (O c))
    ] in
    true≢false (sym (and_from _ _ x y)
    ∙ (λ v. (z v || not (between a b c && has v)) && (z v || not (between_back a b c ab v && has v)))
    ∙ same 1 (λ v. not (v && true) && not (not v && true)) (λ v. false) refl (between a b c)))
