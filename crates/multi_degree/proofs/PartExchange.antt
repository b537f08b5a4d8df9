-- What an exchange of two points changes of the balance with the marks of some columns: by the marks of these
-- columns in the rectangle alone. The columns are any that the walk keeps. Route: around one mark, the change is
-- a table of the orders of the two circles and the two rows with the column and the row of the mark; what the
-- table has beside the rectangle depends on the column alone or on the row alone, and the X and the O of the
-- columns are in the same columns and the same rows.
use Rattle.std.proofs.Common.{◌≡◌, ℕ, ◌<◌, Bool, not, ◌&&◌, refl, ap, ◌∙◌, sym, ltb, arith, cond}
use Rattle.std.proofs.Math.IntN.{ℤ, pos, ◌+ℤ◌, ◌-ℤ◌}
use Rattle.std.proofs.lemmas.Int.{ints}
use Rattle.std.proofs.lemmas.Bool.{and_from}
use Rattle.f2_algebra.proofs.Chains.Tables.{◌⊻◌}
use Rattle.state_rank.proofs.BijectionLemmas.{IsOneToOne}
use Rattle.torus_geom.specs.Counts.{one_if}
use Rattle.torus_geom.proofs.Circles.BetweenLemmas.{between}
use Rattle.torus_geom.proofs.Sums.SumLemmas.{sum_below_but_two, same_ints, under_test}
use Rattle.torus_geom.proofs.Pairs.CornerCounts.{fits, fits_hold, leb-not_ltb}
use Rattle.torus_geom.proofs.Pairs.ExchangeLaw.{IsExchange}
use Rattle.multi_degree.proofs.PartSums.{sum_where, sum_where_same, sum_where-sub, sum_where_moved}
use Rattle.multi_degree.specs.Inner.Around.{beside, points_around}

-- ---- around one mark
abbrev twice : ℤ → ℤ
twice z = z +ℤ z

-- the mark is in the rectangle
abbrev pub inside : ℕ → ℕ → ℕ → ℕ → ℕ → ℕ → ℤ
inside a b j k d r = one_if (between a b d && between j k r)

-- what depends on the row alone
abbrev by_row : ℕ → ℕ → ℕ → ℕ → ℕ → ℤ
by_row a b j k r = twice (cond (ltb b a) (one_if (between j k r)) (pos 0))

-- and on the column alone
abbrev by_column : ℕ → ℕ → ℕ → ℕ → ℕ → ℤ
by_column a b j k d = twice (cond (ltb k j) (one_if (between a b d)) (pos 0)) -ℤ twice (one_if (ltb b a && ltb k j))

corners : (a b j k d r : ℕ)
    → (beside (ltb d a) (ltb r j) +ℤ beside (ltb d b) (ltb r k)) +ℤ (by_row a b j k r +ℤ by_column a b j k d)
    ≡ (beside (ltb d a) (ltb r k) +ℤ beside (ltb d b) (ltb r j)) +ℤ twice (inside a b j k d r)
corners a b j k d r =
    (λ i. (beside (ltb d a) (ltb r j) +ℤ beside (ltb d b) (ltb r k))
    +ℤ (twice (cond (ltb b a) (one_if (leb-not_ltb j r i ⊻ leb-not_ltb k r i ⊻ ltb k j)) (pos 0))
    +ℤ (twice (cond (ltb k j) (one_if (leb-not_ltb a d i ⊻ leb-not_ltb b d i ⊻ ltb b a)) (pos 0))
    -ℤ twice (one_if (ltb b a && ltb k j)))))
    ∙ under_test _ _ _ (and_from _ _ (fits_hold a b d) (fits_hold j k r))
    (same_ints 6
    (λ pa pb pj pk s t. cond (fits s pa pb && fits t pj pk)
    ((beside pa pj +ℤ beside pb pk)
    +ℤ (twice (cond s (one_if (not pj ⊻ not pk ⊻ t)) (pos 0))
    +ℤ (twice (cond t (one_if (not pa ⊻ not pb ⊻ s)) (pos 0)) -ℤ twice (one_if (s && t))))) (pos 0))
    (λ pa pb pj pk s t. cond (fits s pa pb && fits t pj pk)
    ((beside pa pk +ℤ beside pb pj)
    +ℤ twice (one_if ((not pa ⊻ not pb ⊻ s) && (not pj ⊻ not pk ⊻ t)))) (pos 0))
    refl (ltb d a) (ltb d b) (ltb r j) (ltb r k) (ltb b a) (ltb k j))
    ∙ sym (λ i. (beside (ltb d a) (ltb r k) +ℤ beside (ltb d b) (ltb r j))
    +ℤ twice (one_if ((leb-not_ltb a d i ⊻ leb-not_ltb b d i ⊻ ltb b a)
    && (leb-not_ltb j r i ⊻ leb-not_ltb k r i ⊻ ltb k j))))

module _ (n : ℕ) (a b j k : ℕ) (x y : ℕ → ℕ) (s : IsExchange n a b j k x y) where
  -- the points around one mark
  pub points_around-exchanged : (d r : ℕ)
      → points_around n x d r +ℤ (by_row a b j k r +ℤ by_column a b j k d)
      ≡ points_around n y d r +ℤ twice (inside a b j k d r)
  points_around-exchanged d r =
      let but_two =
      sum_below_but_two n a b (λ c. beside (ltb d c) (ltb r (x c))) (λ c. beside (ltb d c) (ltb r (y c))) s.a_below
      s.b_below s.apart (λ c l p q. ap (λ t. beside (ltb d c) (ltb r t)) (s.others c l p q)) in
      let xa = ap (λ t. beside (ltb d a) (ltb r t)) s.from_a in
      let xb = ap (λ t. beside (ltb d b) (ltb r t)) s.from_b in
      let ya = ap (λ t. beside (ltb d a) (ltb r t)) s.to_a in
      let yb = ap (λ t. beside (ltb d b) (ltb r t)) s.to_b in
      let table = corners a b j k d r in
      omega (arith, ints)

  -- ---- the marks of some columns that the walk keeps: X and O are in the same rows
  module _ (here : ℕ → Bool) (O X after : ℕ → ℕ) (one : IsOneToOne n after)
      (keeps : (c : ℕ) → c < n → here (after c) ≡ here c) (says : (c : ℕ) → c < n → X c ≡ O (after c)) where
    rows_same : sum_where n here (λ d. by_row a b j k (X d)) ≡ sum_where n here (λ d. by_row a b j k (O d))
    rows_same =
        sum_where_same n here (λ d. by_row a b j k (X d)) (λ d. by_row a b j k (O (after d)))
        (λ d l h. ap (by_row a b j k) (says d l))
        ∙ sum_where_moved n here after one keeps (λ d. by_row a b j k (O d))

    -- the change, by the marks in the rectangle
    pub balance-exchanged :
        sum_where n here (λ d. points_around n x d (X d) -ℤ points_around n x d (O d))
        -ℤ sum_where n here (λ d. points_around n y d (X d) -ℤ points_around n y d (O d))
        ≡ twice (sum_where n here (λ d. inside a b j k d (X d)))
        -ℤ twice (sum_where n here (λ d. inside a b j k d (O d)))
    balance-exchanged =
        let Fx : ℕ → ℤ = λ d. points_around n x d (X d) -ℤ points_around n x d (O d) in
        let Fy : ℕ → ℤ = λ d. points_around n y d (X d) -ℤ points_around n y d (O d) in
        let In : ℕ → ℤ = λ d. inside a b j k d (X d) -ℤ inside a b j k d (O d) in
        let Rows : ℕ → ℤ = λ d. by_row a b j k (X d) -ℤ by_row a b j k (O d) in
        let changed = sum_where-sub n here Fx Fy in
        let ins = sum_where-sub n here (λ d. inside a b j k d (X d)) (λ d. inside a b j k d (O d)) in
        let rows = sum_where-sub n here (λ d. by_row a b j k (X d)) (λ d. by_row a b j k (O d)) in
        let first = sum_where-sub n here In (λ d. pos 0 -ℤ In d) in
        let second = sum_where-sub n here (λ d. pos 0) In in
        let third = sum_where-sub n here (λ d. In d -ℤ (pos 0 -ℤ In d)) Rows in
        let fourth = sum_where-sub n here (λ d. pos 0) (λ d. pos 0) in
        let each = sum_where_same n here (λ d. Fx d -ℤ Fy d) (λ d. (In d -ℤ (pos 0 -ℤ In d)) -ℤ Rows d)
        (λ d l h.
        let by_x = points_around-exchanged d (X d) in
        let by_o = points_around-exchanged d (O d) in
        omega (arith, ints)) in
        let none = rows_same in
        omega (arith, ints)
