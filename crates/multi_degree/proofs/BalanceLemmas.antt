-- The balance of points with the marks of some columns, as a sum over these columns.
use Rattle.std.proofs.Common.{◌≡◌, ℕ, ◌+◌, ◌*◌, Bool, ◌&&◌, not, List, slice_index, refl, ap₂, ◌∙◌, sym, ltb, arith}
use Rattle.std.proofs.Math.IntN.{ℤ, ◌+ℤ◌, ◌-ℤ◌}
use Rattle.std.proofs.lemmas.Int.{ints}
use Rattle.torus_geom.specs.Counts.{one_if, count_below}
use Rattle.torus_geom.specs.Marks.{Marks, size}
use Rattle.torus_geom.specs.Degrees.{Point, point, mark, is_lower_left, lower_left_pairs}
use Rattle.torus_geom.proofs.Pairs.PairLemmas.{odd-odd, odd-even, even-odd}
use Rattle.torus_geom.proofs.Sums.SumLemmas.{sum_below_same, sum_below-add, sum_below_swap}
use Rattle.multi_degree.specs.ComponentDegrees.{every, lower_left_pairs_of, pair_balance}
use Rattle.multi_degree.specs.Inner.Around.{points_around, marks_around}
use Rattle.multi_degree.proofs.PartSums.{sum_where, sum_where-sub, sum_where-add, count_guarded}

-- how many of the points p are lower left or upper right of q
abbrev pub around : ℕ → (ℕ → Point) → Point → ℤ
around n p q = count_below n (λ c. is_lower_left (p c) q) +ℤ count_below n (λ c. is_lower_left q (p c))

-- ---- pairs with a point of some columns
module _ (n : ℕ) (here : ℕ → Bool) (p q : ℕ → Point) where
  -- the other point first
  pub pairs_of-last : lower_left_pairs_of n every p here q
      ≡ sum_where n here (λ d. count_below n (λ c. is_lower_left (p c) (q d)))
  pairs_of-last = sum_below_same n _ _ (λ d l. count_guarded n (here d) (λ c. is_lower_left (p c) (q d)))

  -- or last
  pub pairs_of-first : lower_left_pairs_of n here q every p
      ≡ sum_where n here (λ d. count_below n (λ c. is_lower_left (q d) (p c)))
  pairs_of-first =
      sum_below_swap n n (λ d c. one_if (here c && is_lower_left (q c) (p d)))
      ∙ sum_below_same n _ _ (λ d l. count_guarded n (here d) (λ c. is_lower_left (q d) (p c)))

  pairs_around : lower_left_pairs_of n every p here q +ℤ lower_left_pairs_of n here q every p
      ≡ sum_where n here (λ d. around n p (q d))
  pairs_around =
      ap₂ (λ u v. u +ℤ v) pairs_of-last pairs_of-first
      ∙ sym (sum_where-add n here (λ d. count_below n (λ c. is_lower_left (p c) (q d)))
      (λ d. count_below n (λ c. is_lower_left (q d) (p c))))

-- the balance, by the columns
pub pair_balance-sum : (g : Marks) (here : ℕ → Bool) (p : ℕ → Point) → pair_balance g here p
    ≡ sum_where (size g) here (λ d. around (size g) p (mark g.x d) -ℤ around (size g) p (mark g.o d))
unfolding pair_balance
pair_balance-sum g here p =
    let by_x = pairs_around (size g) here p (mark g.x) in
    let by_o = pairs_around (size g) here p (mark g.o) in
    let less =
    sum_where-sub (size g) here (λ d. around (size g) p (mark g.x d)) (λ d. around (size g) p (mark g.o d)) in
    omega (arith, ints)

-- with all columns, it is made of the pairs of all points and all marks
pub pair_balance-every : (g : Marks) (p : ℕ → Point) → pair_balance g every p
    ≡ lower_left_pairs (size g) p (mark g.x) +ℤ lower_left_pairs (size g) (mark g.x) p
    -ℤ lower_left_pairs (size g) p (mark g.o) -ℤ lower_left_pairs (size g) (mark g.o) p
unfolding pair_balance
pair_balance-every g p = refl

-- ---- around a mark, by the order of columns and of rows
pub around-marks : (n : ℕ) (y o : List ℕ) (d : ℕ)
    → around n (mark y) (mark o d) ≡ marks_around n (slice_index y) d (slice_index o d)
around-marks n y o d =
    ap₂ (λ u v. u +ℤ v)
    (sum_below_same n (λ c. one_if
    (ltb (2 * c + 1) (2 * d + 1) && ltb (2 * slice_index y c + 1) (2 * slice_index o d + 1)))
    (λ c. one_if (ltb c d && ltb (slice_index y c) (slice_index o d)))
    (λ c l. λ i. one_if (odd-odd c d i && odd-odd (slice_index y c) (slice_index o d) i)))
    (sum_below_same n (λ c. one_if
    (ltb (2 * d + 1) (2 * c + 1) && ltb (2 * slice_index o d + 1) (2 * slice_index y c + 1)))
    (λ c. one_if (ltb d c && ltb (slice_index o d) (slice_index y c)))
    (λ c l. λ i. one_if (odd-odd d c i && odd-odd (slice_index o d) (slice_index y c) i)))

pub around-points : (n : ℕ) (x o : List ℕ) (d : ℕ)
    → around n (point x) (mark o d) ≡ points_around n (slice_index x) d (slice_index o d)
around-points n x o d =
    ap₂ (λ u v. u +ℤ v)
    (sum_below_same n (λ c. one_if (ltb (2 * c) (2 * d + 1) && ltb (2 * slice_index x c) (2 * slice_index o d + 1)))
    (λ c. one_if (not (ltb d c) && not (ltb (slice_index o d) (slice_index x c))))
    (λ c l. λ i. one_if (even-odd c d i && even-odd (slice_index x c) (slice_index o d) i)))
    (sum_below_same n (λ c. one_if (ltb (2 * d + 1) (2 * c) && ltb (2 * slice_index o d + 1) (2 * slice_index x c)))
    (λ c. one_if (ltb d c && ltb (slice_index o d) (slice_index x c)))
    (λ c l. λ i. one_if (odd-even d c i && odd-even (slice_index o d) (slice_index x c) i)))
    ∙ sym (sum_below-add n (λ c. one_if (not (ltb d c) && not (ltb (slice_index o d) (slice_index x c))))
    (λ c. one_if (ltb d c && ltb (slice_index o d) (slice_index x c))))
