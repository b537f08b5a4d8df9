-- The pairs of marks, by the crossings and the NW corners of a front. For the rows of the marks as
-- functions. Route: the sum of the pairs of an X and an X and of an O and an O, less those of an X and
-- an O both ways, is a sum over a column and a row of a product of two signs, which is 0 but at a
-- crossing or a NW corner.
use Rattle.std.proofs.Common.{◌≡◌, ◌≢◌, ℕ, ◌<◌, Bool, true, false, not, ◌&&◌, ◌||◌, refl, ap, ap₂, ◌∙◌, sym, eqb, ltb, arith, inl, inr, cond}
use Rattle.std.proofs.Math.IntN.{ℤ, pos, negsuc, ◌+ℤ◌}
use Rattle.std.proofs.lemmas.Int.{ints}
use Rattle.std.proofs.lemmas.Bool.{cases_eq, eq-eqb, ne_eqb, and_from}
use Rattle.f2_algebra.proofs.Chains.Tables.{◌⊻◌}
use Rattle.state_rank.specs.Bijection.{column_of}
use Rattle.state_rank.proofs.BijectionLemmas.{IsOneToOne, column_of-below, row-column_of, column_of-is}
use Rattle.torus_geom.specs.Counts.{one_if, sum_below, count_below}
use Rattle.torus_geom.proofs.Sums.SumLemmas.{sum_below_same, sum_below-add, balanced_sum, balanced_pairs, balanced_triples, sum_below_swap, sum_below-at_only, at_only, sum_below_reindex, same_ints, under_test}
use Rattle.torus_geom.proofs.Pairs.PairLemmas.{pairs, lower_left, upper_right, upper_right-lower_left, sum_below_triangle}
use Rattle.torus_geom.proofs.Pairs.RowPairLemmas.{pairs_by_rows}

-- of two different numbers one is below the other
pub ltb_other : (a b : ℕ) → a ≢ b → ltb b a ≡ not (ltb a b)
ltb_other a b p = grind arith

-- exactly one of the three holds
abbrev pub is_one_of : Bool → Bool → Bool → Bool
is_one_of x y z = (x && not (y || z)) || (not x && (y ⊻ z))

one_of_three : (a b : ℕ) → is_one_of (ltb a b) (eqb b a) (ltb b a) ≡ true
one_of_three a b = grind arith

-- for the marks of a column and of a row, what holds of column c and row r: the row is that of the X, or of the O, just
-- where the column is
abbrev fits : Bool → Bool → Bool → Bool → Bool → Bool → Bool → Bool → Bool → Bool → Bool
fits ex eo ax bx ao bo xl xg ol og =
    (is_one_of ax ex bx && is_one_of ao eo bo) && ((is_one_of xl ex xg && is_one_of ol eo og) && not (ex && eo))

module _ (n : ℕ) (f : ℕ → ℕ) (one : IsOneToOne n f) where
  -- a row is that of a column exactly if the column is that of the row
  pub column_of-cell : (c r : ℕ) → c < n → r < n → eqb (column_of n f r) c ≡ eqb r (f c)
  column_of-cell c r lc lr = elim (cases_eq r (f c)) [
    | inl e ↦ eq-eqb (column_of n f r) c (column_of-is n f one c r lc (sym e)) ∙ sym (eq-eqb r (f c) e)
    | inr p ↦ ne_eqb (column_of n f r) c (λ e. p (sym (row-column_of n f one r lr) ∙ ap f e)) ∙ sym (ne_eqb r (f c) p)
  ]

  -- of a column and the column of a row, one is left of the other or they are one
  pub beside_holds : (c r : ℕ) → c < n → r < n
      → is_one_of (ltb c (column_of n f r)) (eqb r (f c)) (ltb (column_of n f r) c) ≡ true
  beside_holds c r lc lr =
      ap (λ t. is_one_of (ltb c (column_of n f r)) t (ltb (column_of n f r) c)) (sym (column_of-cell c r lc lr))
      ∙ one_of_three c (column_of n f r)

-- ---- pairs that may share a column or a row
abbrev pub weak_pairs : ℕ → (ℕ → ℕ) → (ℕ → ℕ) → ℤ
weak_pairs n P Q = sum_below n (λ d. count_below n (λ c. not (ltb d c) && not (ltb (Q d) (P c))))

-- they are the pairs the other way round, and n more
pub weak_pairs-pairs : (n : ℕ) (P Q : ℕ → ℕ) → IsOneToOne n P → IsOneToOne n Q → weak_pairs n P Q ≡ pos n +ℤ pairs n Q P
weak_pairs-pairs n P Q op oq =
    let either_order = sum_below_swap n n (λ d c. one_if (not (ltb d c) && not (ltb (Q d) (P c)))) in
    let balance =
    balanced_pairs n (λ c. upper_right n Q c (P c)) (λ c. pos c +ℤ pos (P c)) (λ c. pos n) (λ c. lower_left n Q c (P c))
    (λ c l.
    let s = op.small c l in upper_right-lower_left n Q oq c (P c) (omega arith) (omega arith)) in
    let added = sum_below-add n (λ c. pos c) (λ c. pos (P c)) in
    let reindexed = sum_below_reindex n P op (λ c. pos c) in
    let triangle = sum_below_triangle n in
    omega (arith, ints)

-- they are the strict pairs, and those in one column or one row
pub weak_pairs_parts : (n : ℕ) (P Q : ℕ → ℕ) → IsOneToOne n P → IsOneToOne n Q → ((c : ℕ) → c < n → P c ≢ Q c)
    → weak_pairs n P Q
    ≡ pairs n P Q +ℤ (count_below n (λ c. ltb (P c) (Q c)) +ℤ count_below n (λ c. ltb c (column_of n Q (P c))))
weak_pairs_parts n P Q op oq p =
    let balance =
    balanced_sum n (λ d. sum_below n (weak d)) (λ d. sum_below n (strict d))
    (λ d. sum_below n (column d) +ℤ sum_below n (row d)) (λ d l.
    balanced_sum n (weak d) (strict d) (λ c. column d c +ℤ row d c) (λ c k. each c d k l)
    ∙ ap (λ t. sum_below n (strict d) +ℤ t) (sum_below-add n (column d) (row d))) in
    let added = sum_below-add n (λ d. sum_below n (column d)) (λ d. sum_below n (row d)) in
    let rewritten =
    sum_below_same n (λ d. sum_below n (column d)) (λ d. one_if (ltb (P d) (Q d)))
    (λ d l. sum_below-at_only n d (λ c. one_if (ltb (P c) (Q d))) l) in
    let either_order = sum_below_swap n n row in
    let also_rewritten =
    sum_below_same n (λ c. sum_below n (λ d. row d c)) (λ c. one_if (ltb c (column_of n Q (P c))))
    (λ c l. sum_below-at_only n (column_of n Q (P c)) (λ d. one_if (ltb c d))
    (column_of-below n Q oq (P c) (op.small c l))) in
    omega (arith, ints)
  where
    weak : ℕ → ℕ → ℤ
    weak d c = one_if (not (ltb d c) && not (ltb (Q d) (P c)))

    strict : ℕ → ℕ → ℤ
    strict d c = one_if (ltb c d && ltb (P c) (Q d))

    column : ℕ → ℕ → ℤ
    column d c = cond (eqb c d) (one_if (ltb (P c) (Q d))) (pos 0)

    row : ℕ → ℕ → ℤ
    row d c = cond (eqb d (column_of n Q (P c))) (one_if (ltb c d)) (pos 0)

    not_both : (c d : ℕ) → c < n → not (eqb c d && eqb (P c) (Q d)) ≡ true
    not_both c d l = elim (cases_eq c d) [
      | inl e ↦
          ap (λ t. not (eqb c d && t)) (ne_eqb (P c) (Q d) (λ i. p c l (i ∙ ap Q (sym e))))
          ∙ ap (λ t. not (t && false)) (eq-eqb c d e)
      | inr q ↦ ap (λ t. not (t && eqb (P c) (Q d))) (ne_eqb c d q)
    ]

    one_of_three_between : (a b : ℕ) → is_one_of (ltb a b) (eqb a b) (ltb b a) ≡ true
    one_of_three_between a b = grind arith

    row_is : (c d : ℕ) → c < n → d < n → row d c ≡ cond (eqb (P c) (Q d)) (one_if (ltb c d)) (pos 0)
    row_is c d lc ld =
        ap (λ t. cond t (one_if (ltb c d)) (pos 0))
        (turn d (column_of n Q (P c)) ∙ column_of-cell n Q oq d (P c) ld (op.small c lc))
      where
        turn : (a b : ℕ) → eqb a b ≡ eqb b a
        turn a b = grind arith

    each : (c d : ℕ) → c < n → d < n → weak d c ≡ strict d c +ℤ (column d c +ℤ row d c)
    each c d lc ld =
        under_test _ _ _ (and_from _ _ (not_both c d lc) (and_from _ _ (one_of_three_between c d)
        (one_of_three_between (P c) (Q d))))
        (same_ints 6 (λ l e g p q r. cond (not (e && q) && (is_one_of l e g && is_one_of p q r))
        (one_if (not g && not r)) (pos 0))
        (λ l e g p q r. cond (not (e && q) && (is_one_of l e g && is_one_of p q r))
        (one_if (l && p) +ℤ (cond e (one_if p) (pos 0) +ℤ cond q (one_if l) (pos 0))) (pos 0))
        refl (ltb c d) (eqb c d) (ltb d c) (ltb (P c) (Q d)) (eqb (P c) (Q d)) (ltb (Q d) (P c)))
        ∙ ap (λ t. strict d c +ℤ (column d c +ℤ t)) (sym (row_is c d lc ld))

-- ---- the marks of a grid
module _ (n : ℕ) (o x : ℕ → ℕ) (oo : IsOneToOne n o) (ox : IsOneToOne n x) (apart : (c : ℕ) → c < n → o c ≢ x c) where
  abbrev column_of_o : ℕ → ℕ
  column_of_o r = column_of n o r

  abbrev column_of_x : ℕ → ℕ
  column_of_x r = column_of n x r

  abbrev sign_of : Bool → Bool → Bool → Bool → ℤ
  sign_of u d r l = cond ((u && r) || (d && l)) (negsuc 0) (cond ((u && l) || (d && r)) (pos 1) (pos 0))

  -- the sign at column c and row r
  abbrev pub sign_at : ℕ → ℕ → ℤ
  sign_at c r =
      sign_of (ltb (x c) r && ltb r (o c)) (ltb (o c) r && ltb r (x c)) (ltb (column_of_o r) c && ltb c (column_of_x r))
      (ltb (column_of_x r) c && ltb c (column_of_o r))

  -- north west corners
  abbrev pub north_west_at_x : ℤ
  north_west_at_x = count_below n (λ c. ltb (o c) (x c) && ltb c (column_of_o (x c)))

  -- and at an O
  abbrev pub north_west_at_o : ℤ
  north_west_at_o = count_below n (λ c. ltb (x c) (o c) && ltb c (column_of_x (o c)))

  both_rows : (c r : ℕ) → c < n → not (eqb r (x c) && eqb r (o c)) ≡ true
  both_rows c r l = elim (cases_eq r (x c)) [
    | inl e ↦
        ap (λ t. not (eqb r (x c) && t)) (ne_eqb r (o c) (λ i. apart c l (sym i ∙ e)))
        ∙ ap (λ t. not (t && false)) (eq-eqb r (x c) e)
    | inr q ↦ ap (λ t. not (t && eqb r (o c))) (ne_eqb r (x c) q)
  ]

  -- a column and a row: a crossing, a corner, or nothing
  abbrev left_of : ℕ → (ℕ → ℕ) → ℕ → ℕ → ℤ
  left_of m P k c = one_if (ltb c k && ltb (P c) m)

  corner : ℕ → ℕ → ℤ
  corner r c = cond (eqb r (x c)) (one_if (ltb (o c) r && ltb c (column_of_o r))) (pos 0)
      +ℤ cond (eqb r (o c)) (one_if (ltb (x c) r && ltb c (column_of_x r))) (pos 0)

  cross : (r c : ℕ) → r < n → c < n
      → left_of r x (column_of_x r) c +ℤ left_of r o (column_of_o r) c +ℤ sign_at c r
      ≡ left_of r x (column_of_o r) c +ℤ left_of r o (column_of_x r) c +ℤ corner r c
  unfolding corner
  cross r c lr lc =
      under_test _ _ _ (and_from _ _ (and_from _ _ (one_of_three (x c) r) (one_of_three (o c) r))
      (and_from _ _ (and_from _ _ (beside_holds n x ox c r lc lr) (beside_holds n o oo c r lc lr))
      (both_rows c r lc)))
      (same_ints 10
      (λ ex eo ax bx ao bo xl xg ol og. cond (fits ex eo ax bx ao bo xl xg ol og)
      (one_if (xl && ax) +ℤ one_if (ol && ao) +ℤ sign_of (ax && bo) (ao && bx) (og && xl) (xg && ol)) (pos 0))
      (λ ex eo ax bx ao bo xl xg ol og. cond (fits ex eo ax bx ao bo xl xg ol og)
      (one_if (ol && ax) +ℤ one_if (xl && ao)
      +ℤ (cond ex (one_if (ao && ol)) (pos 0) +ℤ cond eo (one_if (ax && xl)) (pos 0))) (pos 0))
      refl (eqb r (x c)) (eqb r (o c)) (ltb (x c) r) (ltb r (x c)) (ltb (o c) r) (ltb r (o c)) (ltb c (column_of_x r))
      (ltb (column_of_x r) c) (ltb c (column_of_o r)) (ltb (column_of_o r) c))

  -- pairs of marks, by crossings and corners
  pub pairs-crossings : pairs n x x +ℤ pairs n o o +ℤ sum_below n (λ c. sum_below n (sign_at c))
      ≡ pairs n x o +ℤ pairs n o x +ℤ (north_west_at_x +ℤ north_west_at_o)
  unfolding corner
  pairs-crossings =
      let balance =
      balanced_triples n (λ r. sum_below n (left_of r x (column_of_x r)))
      (λ r. sum_below n (left_of r o (column_of_o r))) (λ r. sum_below n (λ c. sign_at c r))
      (λ r. sum_below n (left_of r x (column_of_o r))) (λ r. sum_below n (left_of r o (column_of_x r)))
      (λ r. sum_below n (corner r)) (λ r l.
      balanced_triples n (left_of r x (column_of_x r)) (left_of r o (column_of_o r)) (λ c. sign_at c r)
      (left_of r x (column_of_o r)) (left_of r o (column_of_x r)) (corner r) (λ c k. cross r c l k)) in
      let xx = pairs_by_rows n x x ox in
      let po = pairs_by_rows n o o oo in
      let xo = pairs_by_rows n x o oo in
      let px = pairs_by_rows n o x ox in
      let s = sum_below_swap n n sign_at in
      let either_order = sum_below_swap n n corner in
      let rewritten =
      sum_below_same n (λ c. sum_below n (λ r. corner r c))
      (λ c. one_if (ltb (o c) (x c) && ltb c (column_of_o (x c)))
      +ℤ one_if (ltb (x c) (o c) && ltb c (column_of_x (o c)))) (λ c l.
      sum_below-add n (at_only (x c) (λ r. one_if (ltb (o c) r && ltb c (column_of_o r))))
      (at_only (o c) (λ r. one_if (ltb (x c) r && ltb c (column_of_x r))))
      ∙ ap₂ (λ u v. u +ℤ v) (sum_below-at_only n (x c) (λ r. one_if (ltb (o c) r && ltb c (column_of_o r)))
      (ox.small c l)) (sum_below-at_only n (o c) (λ r. one_if (ltb (x c) r && ltb c (column_of_x r)))
      (oo.small c l))) in
      let added =
      sum_below-add n (λ c. one_if (ltb (o c) (x c) && ltb c (column_of_o (x c))))
      (λ c. one_if (ltb (x c) (o c) && ltb c (column_of_x (o c)))) in
      omega (arith, ints)
