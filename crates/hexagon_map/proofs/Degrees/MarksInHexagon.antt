-- A hexagon has one O and one X, in column c - 1 or in column c, so it raises the Maslov degree by one. The marks o
-- stand for either. Route: both crossings are among its rows, and the rows of the column on its side are on the way
-- from the one that is met first up to the other.
use Rattle.std.proofs.Common.{Bool, ap, ap₂, arith, cond, eqb, false, inl, inr, refl, sym, true, true≢false, ℕ, ◌&&◌, ◌<◌, ◌||◌, ◌∙◌, ◌≡◌, ◌≢◌, ◌≤◌, ◌⊎◌}
use Rattle.std.proofs.Math.IntN.{pos, ◌+ℤ◌}
use Rattle.std.proofs.lemmas.Bool.{cases_Bool, cases_eq, eq-eqb, ne_eqb}
use Rattle.std.proofs.lemmas.Int.{ints}
use Rattle.f2_algebra.proofs.Chains.Tables.{same}
use Rattle.state_rank.proofs.BijectionLemmas.{IsOneToOne}
use Rattle.torus_geom.proofs.Circles.TurnLemmas.{one_down-other, one_down_below}
use Rattle.torus_geom.proofs.Pairs.ExchangeLaw.{IsExchange, marks_between, maslov-exchanged, points_within}
use Rattle.torus_geom.proofs.Pairs.PairLemmas.{maslov_by_pairs}
use Rattle.torus_geom.proofs.Sums.SumLemmas.{at_only, sum_below-at_only, sum_below_same}
use Rattle.torus_geom.specs.Counts.{one_if}
use Rattle.torus_geom.specs.Range.{one_down}
use Rattle.rectangles.proofs.Square.CyclicOrder.{between, between_end, between_start}
use Rattle.rectangles.proofs.Square.TwoSteps.{differ, differ-self}
use Rattle.pentagon_map.proofs.ChainMap.CyclicSteps.{between-one_down}
use Rattle.pentagon_map.proofs.ChainMap.RowArcs.{above_of}
use Rattle.pentagon_map.proofs.Degrees.CountedFrom.{counted_from}
use Rattle.hexagon_map.proofs.WayBack.RowFacts.{into_first, outside, zero_in}

-- the rows p and q are among those from j up to k, p before q, and the row i is not past q before p: it is among them
row_within : (n j k p q i : ℕ) → j < n → k < n → p < n → q < n → i < n → between j q p ≡ true → between j k q ≡ true
    → above_of q p i ≡ false → between j k i ≡ true
row_within n j k p q i lj lk lp lq li first inside not_past = elim (cases_Bool (between j k i)) [
  | inl e ↦ e
  | inr e ↦
      absurd (true≢false (sym (outside n j lj k p q i lk lp lq li
      (zero_in (counted_from n j q) (counted_from n j p) (sym (into_first n j lj q p lq lp) ∙ first))
      (zero_in (counted_from n j k) (counted_from n j q) (sym (into_first n j lj k q lk lq) ∙ inside)) e) ∙ not_past))
]

-- a hexagon from the state x at the circles a and b, as far as the marks o say
pub record IsHexagonOf (n : ℕ) (o x : ℕ → ℕ) (c w v a b : ℕ) : Type 0 where
  pub a_below : a < n
  pub b_below : b < n
  pub apart : a ≢ b
  pub on_side : ((b ≡ c) × (between (x a) w v ≡ true)) ⊎ ((a ≡ c) × (between (x a) v w ≡ true))
  pub w_below : w < n
  pub v_below : v < n
  pub has_v : between (x a) (x b) v ≡ true
  pub has_w : between (x a) (x b) w ≡ true
  pub none_beside : (d : ℕ) → d < n → d ≢ one_down n c → d ≢ c → (between a b d && between (x a) (x b) (o d)) ≡ false
  pub left : above_of w v (o (one_down n c)) ≡ false
  pub right : above_of v w (o c) ≡ false
  pub empty : points_within n x a b (x a) (x b) ≡ pos 0

module _ (n : ℕ) (o x y : ℕ → ℕ) (oo : IsOneToOne n o) (ox : IsOneToOne n x) (c w v a b : ℕ) (lc : c < n) (big : 2 ≤ n)
    (d : IsHexagonOf n o x c w v a b) where
  abbrev r : ℕ
  r = one_down n c

  lr : r < n
  lr = one_down_below n c lc

  rc : r ≢ c
  rc = one_down-other n c big lc

  one_column : (e : ℕ) → e < n
      → ((t : ℕ) → t < n → (between a b t && between (x a) (x b) (o t)) ≡ eqb t e)
      → marks_between n o a b (x a) (x b) ≡ pos 1
  one_column e le each =
      sum_below_same n _ (at_only e (λ t. pos 1)) (λ t l. ap one_if (each t l) ∙ by (eqb t e))
      ∙ sum_below-at_only n e (λ t. pos 1) le
    where
      by : (s : Bool) → one_if s ≡ cond s (pos 1) (pos 0)
      by true = refl
      by false = refl

  -- right of it is circle c: the mark of column c - 1 is in it
  marks_left : b ≡ c → between (x a) w v ≡ true → marks_between n o a b (x a) (x b) ≡ pos 1
  marks_left e first =
      let lj = ox.small a d.a_below in
      let lk = ox.small b d.b_below in
      one_column r lr (λ t l. elim (cases_eq t r) [
        | inl i ↦
            ap₂ (λ p q. p && q)
            (ap (between a b) i ∙ between-one_down n a b c d.a_below d.b_below lc d.apart
            ∙ ap (λ u. (between a b c && differ c a) || u) (eq-eqb b c e)
            ∙ same 1 (λ u. u || true) (λ u. true) refl (between a b c && differ c a))
            (ap (λ k. between (x a) (x b) (o k)) i
            ∙ row_within n (x a) (x b) v w (o r) lj lk d.v_below d.w_below (oo.small r lr) first d.has_w d.left)
            ∙ sym (eq-eqb t r i)
        | inr p ↦
            elim (cases_eq t c) [
              | inl i ↦ ap (λ s. s && between (x a) (x b) (o t)) (ap (between a b) (i ∙ sym e) ∙ between_end a b)
              | inr q ↦ d.none_beside t l p q
            ]
            ∙ sym (ne_eqb t r p)
      ])

  -- left of it is circle c: the mark of column c is in it
  marks_right : a ≡ c → between (x a) v w ≡ true → marks_between n o a b (x a) (x b) ≡ pos 1
  marks_right e first =
      let lj = ox.small a d.a_below in
      let lk = ox.small b d.b_below in
      one_column c lc (λ t l. elim (cases_eq t c) [
        | inl i ↦
            ap₂ (λ p q. p && q) (ap (between a b) (i ∙ sym e) ∙ between_start a b d.apart)
            (ap (λ k. between (x a) (x b) (o k)) i
            ∙ row_within n (x a) (x b) w v (o c) lj lk d.w_below d.v_below (oo.small c lc) first d.has_v d.right)
            ∙ sym (eq-eqb t c i)
        | inr p ↦
            elim (cases_eq t r) [
              | inl i ↦
                  ap (λ s. s && between (x a) (x b) (o t))
                  (ap (between a b) i ∙ between-one_down n a b c d.a_below d.b_below lc d.apart
                  ∙ ap₂ (λ u k. (between a b c && u) || k) (ap (differ c) e ∙ differ-self c)
                  (ne_eqb b c (λ k. d.apart (e ∙ sym k)))
                  ∙ same 1 (λ u. (u && false) || false) (λ u. false) refl (between a b c))
              | inr q ↦ d.none_beside t l q p
            ]
            ∙ sym (ne_eqb t c p)
      ])

  marks_are : marks_between n o a b (x a) (x b) ≡ pos 1
  marks_are = elim d.on_side [ inl e ↦ marks_left e.0 e.1 | inr e ↦ marks_right e.0 e.1 ]

  -- A hexagon raises the Maslov degree by one.
  pub maslov-hexagon : IsExchange n a b (x a) (x b) x y → maslov_by_pairs n o y ≡ maslov_by_pairs n o x +ℤ pos 1
  maslov-hexagon exchange =
      let law = maslov-exchanged n a b (x a) (x b) x y exchange o oo in
      let marks = marks_are in
      let none = d.empty in
      omega (arith, ints)
