-- How many marks of the exchanged grid are in a pentagon, for the O and for the X alike, and so that a pentagon
-- keeps the Maslov degree. The marks o stand for either.
use Rattle.std.proofs.Common.{Bool, ap, ap₂, arith, cond, eqb, false, inl, inr, leb, ltb, not, refl, sym, true, ℕ, ◌&&◌, ◌+◌, ◌<◌, ◌||◌, ◌∙◌, ◌≡◌, ◌≢◌, ◌≤◌, ◌⊎◌}
use Rattle.std.proofs.Math.IntN.{pos, ◌+ℤ◌}
use Rattle.std.proofs.lemmas.Bool.{cases_eq, eq-eqb, ne_eqb}
use Rattle.std.proofs.lemmas.Int.{ints}
use Rattle.f2_algebra.proofs.Chains.Tables.{same, ◌⊻◌}
use Rattle.state_rank.proofs.BijectionLemmas.{IsOneToOne}
use Rattle.torus_geom.proofs.Pairs.ExchangeLaw.{IsExchange, marks_between, maslov-exchanged, points_within}
use Rattle.torus_geom.proofs.Pairs.PairLemmas.{maslov_by_pairs}
use Rattle.torus_geom.proofs.Sums.SumLemmas.{at_only, sum_below-at_only, sum_below_same}
use Rattle.torus_geom.proofs.Circles.TurnLemmas.{one_down_below, one_down-other}
use Rattle.torus_geom.specs.Counts.{one_if}
use Rattle.torus_geom.specs.Range.{one_down}
use Rattle.rectangles.proofs.Square.CyclicOrder.{between, between_end, between_start}
use Rattle.rectangles.proofs.Square.Exchanges.{with_exchanged, with_exchanged-first, with_exchanged-other, with_exchanged-second}
use Rattle.rectangles.proofs.Square.TwoSteps.{differ, differ-self}
use Rattle.pentagon_map.proofs.ChainMap.CyclicSteps.{between-one_down}
use Rattle.pentagon_map.proofs.ChainMap.RowArcs.{above_of}
use Rattle.pentagon_map.proofs.Degrees.ExchangedColumns.{maslov-columns, one'}
use Rattle.pentagon_map.proofs.Degrees.RowsOfPentagon.{AreRows, left_in, less_is, right_in}

-- the orders of two numbers and of the next ones
next_up : (o k : ℕ) → leb (o + 1) k ≡ ltb o k
next_up o k = grind arith

both_next : (u v : ℕ) → ltb (u + 1) (v + 1) ≡ ltb u v
both_next u v = grind arith

one_order : (u v : ℕ) → u ≢ v → leb v u ≡ ltb v u
one_order u v p = grind arith

-- k is past u, up to v, if v is met before u on the way up from k
turned : (o1 o2 k : ℕ) → o1 ≢ o2 → between (o1 + 1) (o2 + 1) k ≡ not (between k o2 o1)
turned o1 o2 k p =
    (λ i. (next_up o1 k ∙ less_is o1 k) i ⊻ (next_up o2 k ∙ less_is o2 k) i ⊻ both_next o2 o1 i)
    ∙ same 3 (λ u v s. not u ⊻ not v ⊻ s) (λ u v s. not (u ⊻ s ⊻ not v)) refl (leb k o1) (leb k o2) (ltb o2 o1)
    ∙ sym (λ i. not (leb k o1 ⊻ one_order o1 o2 p i ⊻ less_is o2 k i))

-- a pentagon from the state x at the circles a and b, as far as the marks o say
pub record IsPentagonOf (n : ℕ) (o x : ℕ → ℕ) (c w a b : ℕ) : Type 0 where
  pub a_below : a < n
  pub b_below : b < n
  pub apart : a ≢ b
  pub on_circle : (a ≡ c) ⊎ (b ≡ c)
  pub w_below : w < n
  pub crosses : between (x a) (x b) w ≡ true
  pub none_beside : (d : ℕ) → d < n → d ≢ one_down n c → d ≢ c → (between a b d && between (x a) (x b) (o d)) ≡ false
  pub below : between (x a) w (o c) ≡ false
  pub above : above_of w (x b) (o (one_down n c)) ≡ false
  pub crossing : above_of w (o c) (o (one_down n c)) ≡ false
  pub empty : points_within n x a b (x a) (x b) ≡ pos 0

module _ (n : ℕ) (o x y : ℕ → ℕ) (oo : IsOneToOne n o) (ox : IsOneToOne n x) (c w a b : ℕ) (lc : c < n) (big : 2 ≤ n)
    (d : IsPentagonOf n o x c w a b) where
  abbrev r : ℕ
  r = one_down n c

  lr : r < n
  lr = one_down_below n c lc

  rc : r ≢ c
  rc = one_down-other n c big lc

  rows : AreRows n (x a) (x b) w (o r) (o c)
  rows = record {
    j_below = ox.small a d.a_below;
    k_below = ox.small b d.b_below;
    w_below = d.w_below;
    a_below = oo.small r lr;
    b_below = oo.small c lc;
    jk = ox.apart a b d.a_below d.b_below d.apart;
    ab = oo.apart r c lr lc rc;
    crosses = d.crosses;
    below = d.below;
    above = d.above;
    crossing = d.crossing;
  }

  -- the row of the point on circle c is past that of the left mark, up to that of the right one, or the mark is in
  not_past : (o1 o2 k : ℕ) → o1 ≢ o2 → one_if (between (o1 + 1) (o2 + 1) k) +ℤ one_if (between k o2 o1) ≡ pos 1
  not_past o1 o2 k p = ap (λ t. one_if t +ℤ one_if (between k o2 o1)) (turned o1 o2 k p) ∙ by (between k o2 o1)
    where
      by : (t : Bool) → one_if (not t) +ℤ one_if t ≡ pos 1
      by true = refl
      by false = refl

  -- the marks of the exchanged columns
  abbrev o' : ℕ → ℕ
  o' = with_exchanged o (one_down n c) c

  one_column : (e : ℕ) → e < n → (v : Bool)
      → ((t : ℕ) → t < n → (between a b t && between (x a) (x b) (o' t)) ≡ (eqb t e && v))
      → marks_between n o' a b (x a) (x b) ≡ one_if v
  one_column e le v each =
      sum_below_same n _ (at_only e (λ t. one_if v)) (λ t l. ap one_if (each t l) ∙ by (eqb t e) v)
      ∙ sum_below-at_only n e (λ t. one_if v) le
    where
      by : (s v : Bool) → one_if (s && v) ≡ cond s (one_if v) (pos 0)
      by true v = refl
      by false v = refl

  -- elsewhere there is none
  beside : (t : ℕ) → t < n → t ≢ r → t ≢ c → (between a b t && between (x a) (x b) (o' t)) ≡ false
  beside t l p q =
      ap (λ k. between a b t && between (x a) (x b) k) (with_exchanged-other o r c t p q) ∙ d.none_beside t l p q

  marks_left : a ≡ c → marks_between n o' a b (x a) (x b) ≡ one_if (between (x c) (o c) (o r))
  marks_left e =
      one_column c lc (between (x c) (o c) (o r)) (λ t l. elim (cases_eq t c) [
        | inl i ↦
            ap₂ (λ u v. u && between (x a) (x b) v) (ap (between a b) (i ∙ sym e) ∙ between_start a b d.apart)
            (ap o' i ∙ with_exchanged-second o r c rc)
            ∙ left_in n (x a) (x b) w (o r) (o c) rows ∙ ap (λ k. between (x k) (o c) (o r)) e
            ∙ sym (ap (λ s. s && between (x c) (o c) (o r)) (eq-eqb t c i))
        | inr p ↦
            elim (cases_eq t r) [
              | inl i ↦
                  ap (λ s. s && between (x a) (x b) (o' t))
                  (ap (between a b) i ∙ between-one_down n a b c d.a_below d.b_below lc d.apart
                  ∙ ap₂ (λ u v. (between a b c && u) || v) (ap (differ c) e ∙ differ-self c)
                  (ne_eqb b c (λ k. d.apart (e ∙ sym k)))
                  ∙ same 1 (λ u. (u && false) || false) (λ u. false) refl (between a b c))
              | inr q ↦ beside t l q p
            ]
            ∙ sym (ap (λ s. s && between (x c) (o c) (o r)) (ne_eqb t c p))
      ])

  marks_right : b ≡ c → marks_between n o' a b (x a) (x b) ≡ one_if (between (x c) (o c) (o r))
  marks_right e =
      one_column r lr (between (x c) (o c) (o r)) (λ t l. elim (cases_eq t r) [
        | inl i ↦
            ap₂ (λ u v. u && between (x a) (x b) v)
            (ap (between a b) i ∙ between-one_down n a b c d.a_below d.b_below lc d.apart
            ∙ ap (λ u. (between a b c && differ c a) || u) (eq-eqb b c e)
            ∙ same 1 (λ u. u || true) (λ u. true) refl (between a b c && differ c a))
            (ap o' i ∙ with_exchanged-first o r c)
            ∙ right_in n (x a) (x b) w (o r) (o c) rows ∙ ap (λ k. between (x k) (o c) (o r)) e
            ∙ sym (ap (λ s. s && between (x c) (o c) (o r)) (eq-eqb t r i))
        | inr p ↦
            elim (cases_eq t c) [
              | inl i ↦ ap (λ s. s && between (x a) (x b) (o' t)) (ap (between a b) (i ∙ sym e) ∙ between_end a b)
              | inr q ↦ beside t l p q
            ]
            ∙ sym (ap (λ s. s && between (x c) (o c) (o r)) (ne_eqb t r p))
      ])

  marks_are : marks_between n o' a b (x a) (x b) ≡ one_if (between (x c) (o c) (o r))
  marks_are = elim d.on_circle [ inl e ↦ marks_left e | inr e ↦ marks_right e ]

  -- A pentagon keeps the Maslov degree: the state y of the exchanged grid has that of x.
  pub maslov-pentagon : IsExchange n a b (x a) (x b) x y → maslov_by_pairs n o' y ≡ maslov_by_pairs n o x
  maslov-pentagon exchange =
      let columns = maslov-columns n o x oo ox c lc big in
      let law = maslov-exchanged n a b (x a) (x b) x y exchange o' (one' n o x oo ox c lc big) in
      let marks = marks_are in
      let none = d.empty in
      let past = not_past (o r) (o c) (x c) (oo.apart r c lr lc rc) in
      omega (arith, ints)
