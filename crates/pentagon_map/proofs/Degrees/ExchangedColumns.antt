-- What the exchange of two columns side by side changes of the Maslov degree of a state: it depends on the row of
-- the point on the circle between them. It is the exchange law with the marks as points: no column is strictly
-- between the two, and only this circle is between them moved by one.
use Rattle.std.proofs.Common.{Bool, ap, arith, cond, eqb, false, inl, inr, not, refl, sym, true, ℕ, ◌&&◌, ◌+◌, ◌-◌, ◌<◌, ◌∙◌, ◌≡◌, ◌≢◌, ◌≤◌, ◌⊎◌}
use Rattle.std.proofs.Math.IntN.{pos, ◌+ℤ◌}
use Rattle.std.proofs.lemmas.Bool.{cases_eq}
use Rattle.std.proofs.lemmas.Int.{ints}
use Rattle.f2_algebra.proofs.Chains.Tables.{same}
use Rattle.state_rank.proofs.BijectionLemmas.{IsOneToOne}
use Rattle.torus_geom.proofs.Pairs.ExchangeLaw.{IsExchange, marks_between, pairs-exchanged_both, pairs-exchanged_left, points_within}
use Rattle.torus_geom.proofs.Pairs.PairLemmas.{maslov_by_pairs}
use Rattle.torus_geom.proofs.Sums.SumLemmas.{at_only, sum_below-at_only, sum_below_same, sum_below_vanishes}
use Rattle.torus_geom.proofs.Circles.TurnLemmas.{one_down_below, one_up-one_down, one_down-other}
use Rattle.torus_geom.specs.Counts.{one_if}
use Rattle.torus_geom.specs.Range.{one_down}
use Rattle.rectangles.proofs.Square.CyclicOrder.{between}
use Rattle.rectangles.proofs.Square.Exchanges.{with_exchanged, with_exchanged-first, with_exchanged-other, with_exchanged-second}
use Rattle.rectangles.proofs.Square.TwoSteps.{differ, differ-self}
use Rattle.pentagon_map.proofs.ChainMap.CyclicSteps.{between-thin, one_down_cases}
use Rattle.torus_geom.proofs.Circles.BetweenLemmas.{is_between}

module _ (n : ℕ) (o x : ℕ → ℕ) (oo : IsOneToOne n o) (ox : IsOneToOne n x) (c : ℕ) (lc : c < n) (big : 2 ≤ n) where
  abbrev r : ℕ
  r = one_down n c

  lr : r < n
  lr = one_down_below n c lc

  rc : r ≢ c
  rc = one_down-other n c big lc

  abbrev o' : ℕ → ℕ
  o' = with_exchanged o (one_down n c) c

  -- they are a bijection again
  pub one' : IsOneToOne n o'
  one' = record {
    small = λ d l. each_small d l (cases_eq d r) (cases_eq d c);
    apart = λ d e ld le p q. apart d e ld le p q (cases_eq d r) (cases_eq d c) (cases_eq e r) (cases_eq e c);
  }
    where
      each_small : (d : ℕ) → d < n → (d ≡ r) ⊎ (d ≢ r) → (d ≡ c) ⊎ (d ≢ c) → o' d < n
      each_small d l (inl i) v = let e = ap o' i ∙ with_exchanged-first o r c in let k = oo.small c lc in omega arith
      each_small d l (inr u) (inl i) = let e = ap o' i ∙ with_exchanged-second o r c rc in let k = oo.small r lr in
          omega arith
      each_small d l (inr u) (inr v) = let e = with_exchanged-other o r c d u v in let k = oo.small d l in omega arith

      apart : (d e : ℕ) → d < n → e < n → d ≢ e → o' d ≡ o' e → (d ≡ r) ⊎ (d ≢ r) → (d ≡ c) ⊎ (d ≢ c)
          → (e ≡ r) ⊎ (e ≢ r) → (e ≡ c) ⊎ (e ≢ c) → ⊥
      apart d e ld le p q (inl i) v (inl j) w = p (i ∙ sym j)
      apart d e ld le p q (inl i) v (inr j) (inl k) =
          oo.apart c r lc lr (λ z. rc (sym z))
          (sym (ap o' i ∙ with_exchanged-first o r c) ∙ q ∙ ap o' k ∙ with_exchanged-second o r c rc)
      apart d e ld le p q (inl i) v (inr j) (inr k) =
          oo.apart c e lc le (λ z. k (sym z))
          (sym (ap o' i ∙ with_exchanged-first o r c) ∙ q ∙ with_exchanged-other o r c e j k)
      apart d e ld le p q (inr u) (inl i) (inl j) w =
          oo.apart r c lr lc rc (sym (ap o' i ∙ with_exchanged-second o r c rc) ∙ q ∙ ap o' j
          ∙ with_exchanged-first o r c)
      apart d e ld le p q (inr u) (inl i) (inr j) (inl k) = p (i ∙ sym k)
      apart d e ld le p q (inr u) (inl i) (inr j) (inr k) =
          oo.apart r e lr le (λ z. j (sym z))
          (sym (ap o' i ∙ with_exchanged-second o r c rc) ∙ q ∙ with_exchanged-other o r c e j k)
      apart d e ld le p q (inr u) (inr v) (inl j) w =
          oo.apart d c ld lc v (sym (with_exchanged-other o r c d u v) ∙ q ∙ ap o' j ∙ with_exchanged-first o r c)
      apart d e ld le p q (inr u) (inr v) (inr j) (inl k) =
          oo.apart d r ld lr u (sym (with_exchanged-other o r c d u v) ∙ q ∙ ap o' k ∙ with_exchanged-second o r c rc)
      apart d e ld le p q (inr u) (inr v) (inr j) (inr k) =
          oo.apart d e ld le p (sym (with_exchanged-other o r c d u v) ∙ q ∙ with_exchanged-other o r c e j k)

  exchange : IsExchange n r c (o r) (o c) o o'
  exchange = record {
    a_below = lr;
    b_below = lc;
    apart = rc;
    one = oo;
    one_after = one';
    from_a = refl;
    from_b = refl;
    to_a = with_exchanged-first o r c;
    to_b = with_exchanged-second o r c rc;
    others = λ d l p q. sym (with_exchanged-other o r c d p q);
  }

  -- no column is strictly between them
  none_inside : points_within n o r c (o r) (o c) ≡ pos 0
  none_inside = sum_below_vanishes n _ (λ d l. ap one_if (elim (cases_eq d r) [
    | inl e ↦
        ap (λ t. (between r c d && t) && is_between (o r) (o c) (o d)) (ap (λ k. not (eqb k r)) e ∙ differ-self r)
        ∙ same 2 (λ u v. (u && false) && v) (λ u v. false) refl (between r c d) (is_between (o r) (o c) (o d))
    | inr p ↦
        ap (λ t. (t && differ d r) && is_between (o r) (o c) (o d))
        (ap (λ z. between r z d) (sym (one_up-one_down n c lc)) ∙ between-thin n r d lr l p)
  ]))

  -- between the columns moved by one there is circle c alone
  only_circle : (d : ℕ) → d < n → between (r + 1) (c + 1) d ≡ eqb d c
  only_circle d l = elim (one_down_cases n c lc) [
    | inl h ↦ low r c d h.0 h.1
    | inr h ↦ top n r c d h.0 h.1 l (omega arith)
  ]
    where
      low : (r c d : ℕ) → 0 < c → r ≡ c - 1 → between (r + 1) (c + 1) d ≡ eqb d c
      low r c d p e = low_at r c d (omega arith)
        where
          low_at : (r c d : ℕ) → r + 1 ≡ c → between (r + 1) (c + 1) d ≡ eqb d c
          low_at r c d e = grind arith

      top : (n r c d : ℕ) → c ≡ 0 → r ≡ n - 1 → d < n → 2 ≤ n → between (r + 1) (c + 1) d ≡ eqb d c
      top n r c d e f l b = top_at n r c d e (omega arith) l b
        where
          top_at : (n r c d : ℕ) → c ≡ 0 → r + 1 ≡ n → d < n → 2 ≤ n → between (r + 1) (c + 1) d ≡ eqb d c
          top_at n r c d e f l b = grind arith

  one_row : marks_between n x (r + 1) (c + 1) (o r + 1) (o c + 1) ≡ one_if (between (o r + 1) (o c + 1) (x c))
  one_row =
      sum_below_same n _ (at_only c (λ d. one_if (between (o r + 1) (o c + 1) (x d))))
      (λ d l. ap (λ t. one_if (t && between (o r + 1) (o c + 1) (x d))) (only_circle d l)
      ∙ by (eqb d c) (between (o r + 1) (o c + 1) (x d)))
      ∙ sum_below-at_only n c (λ d. one_if (between (o r + 1) (o c + 1) (x d))) lc
    where
      by : (t v : Bool) → one_if (t && v) ≡ cond t (one_if v) (pos 0)
      by true v = refl
      by false v = refl

  -- M after is M before, less 1, and 2 more if the row of the point is past that of the left mark, up to that of the
  -- right one
  pub maslov-columns : maslov_by_pairs n o' x +ℤ pos 1
      ≡ maslov_by_pairs n o x
      +ℤ (one_if (between (o r + 1) (o c + 1) (x c)) +ℤ one_if (between (o r + 1) (o c + 1) (x c)))
  maslov-columns =
      let on_the_left = pairs-exchanged_left n r c (o r) (o c) o o' exchange x ox in
      let of_marks = pairs-exchanged_both n r c (o r) (o c) o o' exchange in
      let none = none_inside in
      let one = one_row in
      omega (arith, ints)
