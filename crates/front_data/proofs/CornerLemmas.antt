-- The corners of a front counted: by the columns whose X is above its O and the rows whose X is right
-- of its O. For the rows of the marks as functions.
use Rattle.std.proofs.Common.{◌≡◌, ◌≢◌, ℕ, ◌<◌, Bool, not, ◌&&◌, refl, ap, ◌∙◌, sym, ltb, arith}
use Rattle.std.proofs.Math.IntN.{ℤ, pos, ◌+ℤ◌, ◌-ℤ◌}
use Rattle.std.proofs.lemmas.Int.{ints}
use Rattle.state_rank.specs.Bijection.{column_of}
use Rattle.state_rank.proofs.BijectionLemmas.{IsOneToOne, column_of-one_to_one, row-column_of}
use Rattle.torus_geom.specs.Counts.{sum_below, one_if, count_below}
use Rattle.torus_geom.proofs.Sums.SumLemmas.{balanced_sum, sum_below_same, sum_below-add, balanced_pairs, sum_below_reindex, same_ints}
use Rattle.torus_geom.proofs.Pairs.PairLemmas.{pairs, maslov_by_pairs, count_below-all}
use Rattle.front_data.proofs.CrossingLemmas.{ltb_other, weak_pairs-pairs, weak_pairs_parts, pairs-crossings, sign_at, north_west_at_x, north_west_at_o}

module _ (n : ℕ) (o x : ℕ → ℕ) (oo : IsOneToOne n o) (ox : IsOneToOne n x) (apart : (c : ℕ) → c < n → o c ≢ x c) where
  abbrev column_of_o : ℕ → ℕ
  column_of_o r = column_of n o r

  abbrev column_of_x : ℕ → ℕ
  column_of_x r = column_of n x r

  -- the columns whose X is above its O
  abbrev pub x_above : ℤ
  x_above = count_below n (λ c. ltb (o c) (x c))

  -- the rows whose X is right of its O
  abbrev pub x_right : ℤ
  x_right = count_below n (λ r. ltb (column_of_o r) (column_of_x r))

  -- the number of NE corners at X
  abbrev pub north_east_at_x : ℤ
  north_east_at_x = count_below n (λ c. ltb (o c) (x c) && ltb (column_of_o (x c)) c)

  -- of SW corners at X
  abbrev pub south_west_at_x : ℤ
  south_west_at_x = count_below n (λ c. ltb (x c) (o c) && ltb c (column_of_o (x c)))

  -- of NE corners at O
  abbrev pub north_east_at_o : ℤ
  north_east_at_o = count_below n (λ c. ltb (x c) (o c) && ltb (column_of_x (o c)) c)

  -- of SW corners at O
  abbrev pub south_west_at_o : ℤ
  south_west_at_o = count_below n (λ c. ltb (o c) (x c) && ltb c (column_of_x (o c)))

  x_below : (c : ℕ) → c < n → ltb (x c) (o c) ≡ not (ltb (o c) (x c))
  x_below c l = ltb_other (o c) (x c) (apart c l)

  o_right_of_x : (c : ℕ) → c < n → ltb c (column_of_o (x c)) ≡ not (ltb (column_of_o (x c)) c)
  o_right_of_x c l =
      ltb_other (column_of_o (x c)) c (λ e. apart c l (ap o (sym e) ∙ row-column_of n o oo (x c) (ox.small c l)))

  x_left_of_o : (c : ℕ) → c < n → ltb (column_of_x (o c)) c ≡ not (ltb c (column_of_x (o c)))
  x_left_of_o c l =
      ltb_other c (column_of_x (o c)) (λ e. apart c l (sym (row-column_of n x ox (o c) (oo.small c l)) ∙ ap x (sym e)))

  x_right_by_x : count_below n (λ c. ltb (column_of_o (x c)) c) ≡ x_right
  x_right_by_x =
      sym (sum_below_reindex n (column_of n x) (column_of-one_to_one n x ox) (λ c. one_if (ltb (column_of_o (x c)) c)))
      ∙ sum_below_same n _ (λ r. one_if (ltb (column_of_o r) (column_of_x r)))
      (λ r l. ap (λ t. one_if (ltb (column_of_o t) (column_of_x r))) (row-column_of n x ox r l))

  x_right_by_o : count_below n (λ c. ltb c (column_of_x (o c))) ≡ x_right
  x_right_by_o =
      sym (sum_below_reindex n (column_of n o) (column_of-one_to_one n o oo) (λ c. one_if (ltb c (column_of_x (o c)))))
      ∙ sum_below_same n _ (λ r. one_if (ltb (column_of_o r) (column_of_x r)))
      (λ r l. ap (λ t. one_if (ltb (column_of_o r) (column_of_x t))) (row-column_of n o oo r l))

  count_not : (t : ℕ → Bool) → count_below n t +ℤ count_below n (λ c. not (t c)) ≡ pos n
  count_not t =
      sym (sum_below-add n (λ c. one_if (t c)) (λ c. one_if (not (t c))))
      ∙ sum_below_same n _ (λ c. pos 1) (λ c l. same_ints 1 (λ a. one_if a +ℤ one_if (not a)) (λ a. pos 1) refl (t c))
      ∙ count_below-all n

  -- NE and SW corners at X
  pub corners_x : north_east_at_x +ℤ pos n ≡ south_west_at_x +ℤ (x_above +ℤ x_right)
  corners_x =
      let balance =
      balanced_pairs n (λ c. one_if (ltb (o c) (x c) && ltb (column_of_o (x c)) c)) (λ c. pos 1)
      (λ c. one_if (ltb (x c) (o c) && ltb c (column_of_o (x c))))
      (λ c. one_if (ltb (o c) (x c)) +ℤ one_if (ltb (column_of_o (x c)) c)) (λ c l.
      same_ints 2 (λ a b. one_if (a && b) +ℤ pos 1) (λ a b. one_if (not a && not b) +ℤ (one_if a +ℤ one_if b)) refl
      (ltb (o c) (x c)) (ltb (column_of_o (x c)) c)
      ∙ sym (λ i. one_if (x_below c l i && o_right_of_x c l i)
      +ℤ (one_if (ltb (o c) (x c)) +ℤ one_if (ltb (column_of_o (x c)) c)))) in
      let added = sum_below-add n (λ c. one_if (ltb (o c) (x c))) (λ c. one_if (ltb (column_of_o (x c)) c)) in
      let by_x = x_right_by_x in
      let all = count_below-all n in
      omega (arith, ints)

  -- SW and NE corners at O
  pub corners_o : south_west_at_o +ℤ pos n ≡ north_east_at_o +ℤ (x_above +ℤ x_right)
  corners_o =
      let balance =
      balanced_pairs n (λ c. one_if (ltb (o c) (x c) && ltb c (column_of_x (o c)))) (λ c. pos 1)
      (λ c. one_if (ltb (x c) (o c) && ltb (column_of_x (o c)) c))
      (λ c. one_if (ltb (o c) (x c)) +ℤ one_if (ltb c (column_of_x (o c)))) (λ c l.
      same_ints 2 (λ a b. one_if (a && b) +ℤ pos 1) (λ a b. one_if (not a && not b) +ℤ (one_if a +ℤ one_if b)) refl
      (ltb (o c) (x c)) (ltb c (column_of_x (o c)))
      ∙ sym (λ i. one_if (x_below c l i && x_left_of_o c l i)
      +ℤ (one_if (ltb (o c) (x c)) +ℤ one_if (ltb c (column_of_x (o c)))))) in
      let added = sum_below-add n (λ c. one_if (ltb (o c) (x c))) (λ c. one_if (ltb c (column_of_x (o c)))) in
      let by_o = x_right_by_o in
      let all = count_below-all n in
      omega (arith, ints)

  -- as many NE as SW corners
  pub north_east-south_west : north_east_at_x +ℤ north_east_at_o ≡ south_west_at_x +ℤ south_west_at_o
  north_east-south_west = let at_x = corners_x in let at_o = corners_o in omega (arith, ints)

  -- the rotation number
  abbrev pub turning : ℤ
  turning = x_above +ℤ x_right -ℤ pos n

  -- twice the rotation number, by the corners
  pub turning-corners : turning +ℤ turning ≡ north_east_at_x +ℤ south_west_at_o -ℤ north_east_at_o -ℤ south_west_at_x
  turning-corners = let at_x = corners_x in let at_o = corners_o in omega (arith, ints)

  -- the columns whose X is above its O have a NE or a NW corner there
  pub north_at_x : north_east_at_x +ℤ north_west_at_x n o x oo ox apart ≡ x_above
  north_at_x =
      sym (balanced_sum n (λ c. one_if (ltb (o c) (x c))) (λ c. one_if (ltb (o c) (x c) && ltb (column_of_o (x c)) c))
      (λ c. one_if (ltb (o c) (x c) && ltb c (column_of_o (x c)))) (λ c l.
      same_ints 2 (λ a b. one_if a) (λ a b. one_if (a && b) +ℤ one_if (a && not b)) refl (ltb (o c) (x c))
      (ltb (column_of_o (x c)) c)
      ∙ sym (λ i. one_if (ltb (o c) (x c) && ltb (column_of_o (x c)) c)
      +ℤ one_if (ltb (o c) (x c) && o_right_of_x c l i))))

  -- and the others one at their O
  pub north_at_o : north_east_at_o +ℤ north_west_at_o n o x oo ox apart +ℤ x_above ≡ pos n
  north_at_o =
      let balance =
      balanced_sum n (λ c. one_if (not (ltb (o c) (x c)))) (λ c. one_if (ltb (x c) (o c) && ltb (column_of_x (o c)) c))
      (λ c. one_if (ltb (x c) (o c) && ltb c (column_of_x (o c)))) (λ c l.
      same_ints 2 (λ a b. one_if (not a)) (λ a b. one_if (not a && not b) +ℤ one_if (not a && b)) refl (ltb (o c) (x c))
      (ltb c (column_of_x (o c)))
      ∙ sym (λ i. one_if (x_below c l i && x_left_of_o c l i)
      +ℤ one_if (x_below c l i && ltb c (column_of_x (o c))))) in
      let or_not = count_not (λ c. ltb (o c) (x c)) in
      omega (arith, ints)

  -- the pairs of an X and an O, both ways
  pub mixed_pairs : pairs n x o +ℤ pos n ≡ pairs n o x +ℤ (x_above +ℤ x_right)
  mixed_pairs =
      let weakly = weak_pairs-pairs n x o ox oo in
      let parts = weak_pairs_parts n x o ox oo (λ c l e. apart c l (sym e)) in
      let rewritten =
      sum_below_same n (λ c. one_if (ltb (x c) (o c))) (λ c. one_if (not (ltb (o c) (x c))))
      (λ c l. ap one_if (x_below c l)) in
      let also_rewritten =
      sum_below_same n (λ c. one_if (ltb c (column_of_o (x c)))) (λ c. one_if (not (ltb (column_of_o (x c)) c)))
      (λ c l. ap one_if (o_right_of_x c l)) in
      let or_not = count_not (λ c. ltb (o c) (x c)) in
      let also_or_not = count_not (λ c. ltb (column_of_o (x c)) c) in
      let by_x = x_right_by_x in
      omega (arith, ints)

  -- the sum of the signs
  abbrev pub wr : ℤ
  wr = sum_below n (λ c. sum_below n (sign_at n o x oo ox apart c))

  -- the degree of the lower left corners of the X
  pub maslov_by_pairs-minus_state : maslov_by_pairs n o x
      ≡ (pos 0 -ℤ wr -ℤ (north_east_at_x +ℤ north_east_at_o)) +ℤ turning +ℤ pos 1
  maslov_by_pairs-minus_state =
      let crossings = pairs-crossings n o x oo ox apart in
      let at_x = north_at_x in
      let at_o = north_at_o in
      let mixed = mixed_pairs in
      omega (arith, ints)
