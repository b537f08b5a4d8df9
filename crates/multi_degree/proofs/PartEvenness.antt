-- The balances of all X and of all O with the marks of some columns add up to an even number. The columns are
-- any that the walk keeps. Route: for a bijection P and a mark at column d and row r, the marks of P upper right of
-- it are as many as those lower left of it, but for n - d - r - 2 and two tests: the mark of P in its column, and the
-- one in its row. At the X and the O of a column the tests are the order of their rows, and the order of the
-- column and the column that the walk comes to. Both orders are one of two; all else is twice a number, or a term less
-- the same term at the next column.
use Rattle.std.proofs.Common.{◌≡◌, ◌≢◌, ℕ, ◌+◌, ◌<◌, Bool, true, false, not, ◌&&◌, ◌||◌, refl, ap, ◌∙◌, sym, eqb, ltb, leb, arith, inl, inr, cond}
use Rattle.std.proofs.Math.IntN.{ℤ, pos, ◌+ℤ◌, ◌-ℤ◌}
use Rattle.std.proofs.lemmas.Int.{ints}
use Rattle.std.proofs.lemmas.Bool.{cases_eq, eq-eqb, ne_eqb, and_from}
use Rattle.state_rank.proofs.BijectionLemmas.{IsOneToOne}
use Rattle.torus_geom.specs.Counts.{one_if, count_below}
use Rattle.torus_geom.proofs.Sums.SumLemmas.{sum_below_same, sum_below-add, balanced_sum, sum_below-at_only, at_only, same_ints, under_test}
use Rattle.torus_geom.proofs.Pairs.PairLemmas.{lower_left, upper_right, upper_right-lower_left}
use Rattle.multi_degree.proofs.PartSums.{sum_where, sum_where_same, sum_where-sub, sum_where-add, sum_where_moved}
use Rattle.multi_degree.specs.Inner.Around.{marks_around}

-- ---- around one mark
-- the order of two numbers, by that with the number above
next_tests : (c d : ℕ) → (ltb c (d + 1) ≡ (ltb c d || eqb c d)) × (ltb d c ≡ not (ltb c (d + 1)))
next_tests c d = (grind arith, grind arith)

at_most : (p r : ℕ) → leb p r ≡ (ltb p r || eqb p r)
at_most p r = grind arith

-- not both
abbrev parted : Bool → Bool → Bool
parted u v = not (u && v)

parted_hold : (a b : ℕ) → parted (ltb a b) (eqb a b) ≡ true
parted_hold a b = grind arith

module _ (n : ℕ) (P : ℕ → ℕ) (one : IsOneToOne n P) (d r e : ℕ) (d_below : d < n) (e_below : e < n) (at : P e ≡ r) where
  same_test : (c : ℕ) → c < n → eqb c e ≡ eqb (P c) r
  same_test c l = elim (cases_eq c e) [
    | inl is ↦ eq-eqb c e is ∙ sym (eq-eqb (P c) r (ap P is ∙ at))
    | inr other ↦ ne_eqb c e other ∙ sym (ne_eqb (P c) r (λ is. one.apart c e l e_below other (is ∙ sym at)))
  ]

  -- one column and one row more
  lower_left-more : lower_left n P (d + 1) (r + 1)
      ≡ lower_left n P d r +ℤ (one_if (leb (P d) r) +ℤ one_if (ltb e d))
  lower_left-more =
      let split =
      balanced_sum n (λ c. one_if (ltb c (d + 1) && ltb (P c) (r + 1))) (λ c. one_if (ltb c d && ltb (P c) r))
      (λ c. at_only d (λ t. one_if (leb (P t) r)) c +ℤ at_only e (λ t. one_if (ltb t d)) c) each in
      let added = sum_below-add n (at_only d (λ t. one_if (leb (P t) r))) (at_only e (λ t. one_if (ltb t d))) in
      let in_column = sum_below-at_only n d (λ t. one_if (leb (P t) r)) d_below in
      let in_row = sum_below-at_only n e (λ t. one_if (ltb t d)) e_below in
      omega (arith, ints)
    where
      each : (c : ℕ) → c < n
          → one_if (ltb c (d + 1) && ltb (P c) (r + 1))
          ≡ one_if (ltb c d && ltb (P c) r)
          +ℤ (at_only d (λ t. one_if (leb (P t) r)) c +ℤ at_only e (λ t. one_if (ltb t d)) c)
      each c l =
          (λ i. one_if ((next_tests c d).0 i && (next_tests (P c) r).0 i))
          ∙ under_test _ _ _ (and_from _ _ (parted_hold c d) (parted_hold (P c) r))
          (same_ints 4
          (λ cd ed pr er. cond (parted cd ed && parted pr er) (one_if ((cd || ed) && (pr || er))) (pos 0))
          (λ cd ed pr er. cond (parted cd ed && parted pr er)
          (one_if (cd && pr) +ℤ (cond ed (one_if (pr || er)) (pos 0) +ℤ cond er (one_if cd) (pos 0))) (pos 0))
          refl (ltb c d) (eqb c d) (ltb (P c) r) (eqb (P c) r))
          ∙ sym (λ i. one_if (ltb c d && ltb (P c) r)
          +ℤ (cond (eqb c d) (one_if (at_most (P c) r i)) (pos 0) +ℤ cond (same_test c l i) (one_if (ltb c d)) (pos 0)))

  -- the marks around it, by those lower left of it
  pub marks_around-is : marks_around n P d r +ℤ (pos d +ℤ pos r +ℤ pos 2)
      ≡ pos n +ℤ (lower_left n P d r +ℤ lower_left n P d r) +ℤ (one_if (leb (P d) r) +ℤ one_if (ltb e d))
  marks_around-is =
      let r_below : r < n = let small = one.small e e_below in omega arith in
      let over = upper_right-lower_left n P one (d + 1) (r + 1) (omega arith) (omega arith) in
      let same : count_below n (λ c. ltb d c && ltb r (P c)) ≡ upper_right n P (d + 1) (r + 1) =
      sum_below_same n (λ c. one_if (ltb d c && ltb r (P c)))
      (λ c. one_if (not (ltb c (d + 1)) && not (ltb (P c) (r + 1))))
      (λ c l. λ i. one_if ((next_tests c d).1 i && (next_tests (P c) r).1 i)) in
      let further = lower_left-more in
      omega (arith, ints)

-- ---- some columns that the walk keeps
one_if-either : (a b : ℕ) → a ≢ b → one_if (leb a b) +ℤ one_if (leb b a) ≡ pos 1
one_if-either a b p = let e : leb b a ≡ not (leb a b) = grind arith in
    ap (λ t. one_if (leb a b) +ℤ one_if t) e ∙ by (leb a b)
  where
    by : (t : Bool) → one_if t +ℤ one_if (not t) ≡ pos 1
    by true = refl
    by false = refl

one_if-left : (a b : ℕ) → a ≢ b → one_if (ltb a b) +ℤ one_if (ltb b a) ≡ pos 1
one_if-left a b p = let e : ltb b a ≡ not (ltb a b) = grind arith in
    ap (λ t. one_if (ltb a b) +ℤ one_if t) e ∙ by (ltb a b)
  where
    by : (t : Bool) → one_if t +ℤ one_if (not t) ≡ pos 1
    by true = refl
    by false = refl

itself : (a : ℕ) → (one_if (leb a a) ≡ pos 1) × (one_if (ltb a a) ≡ pos 0)
itself a = (
  ap one_if (let e : leb a a ≡ true = grind arith in e),
  ap one_if
      (let e : ltb a a ≡ false = grind arith in e),
)

module _ (n : ℕ) (here : ℕ → Bool) (O X after : ℕ → ℕ) (one : IsOneToOne n after) (one_o : IsOneToOne n O)
    (one_x : IsOneToOne n X) (keeps : (c : ℕ) → c < n → here (after c) ≡ here c)
    (says : (c : ℕ) → c < n → X c ≡ O (after c)) (apart : (c : ℕ) → c < n → O c ≢ X c) where
  -- the X of the column is not above its O
  low : ℕ → ℤ
  low c = one_if (leb (X c) (O c))

  -- half of the part of a column
  half_at : ℕ → ℤ
  half_at c = lower_left n X c (X c) -ℤ lower_left n X (after c) (X c) +ℤ lower_left n O c (X c)
      -ℤ lower_left n O c (O c) +ℤ pos 1 -ℤ one_if (leb (X c) (O c)) -ℤ one_if (ltb c (after c))

  abbrev x_x : ℕ → ℤ
  x_x c = marks_around n X c (X c)

  abbrev x_o : ℕ → ℤ
  x_o c = marks_around n X c (O c)

  abbrev o_x : ℕ → ℤ
  o_x c = marks_around n O c (X c)

  abbrev o_o : ℕ → ℤ
  o_o c = marks_around n O c (O c)

  x_o-after : ℕ → ℤ
  x_o-after c = marks_around n X (after c) (X c)

  moves : (c : ℕ) → c < n → after c ≢ c
  moves c l e = apart c l (sym (says c l ∙ ap O e))

  -- the part of a column
  at_column : (c : ℕ) → c < n
      → (x_x c -ℤ x_o-after c) +ℤ (o_x c -ℤ o_o c)
      ≡ (half_at c +ℤ half_at c)
      +ℤ ((pos (after c) -ℤ pos c) +ℤ ((pos (O c) -ℤ pos (O (after c))) +ℤ (low c -ℤ low (after c))))
  unfolding half_at low x_o-after
  at_column c l =
      let after_below = one.small c l in
      let at_xx = marks_around-is n X one_x c (X c) c l l refl in
      let at_xo = marks_around-is n X one_x (after c) (X c) c after_below l refl in
      let at_ox = marks_around-is n O one_o c (X c) (after c) l after_below (sym (says c l)) in
      let at_oo = marks_around-is n O one_o c (O c) c l l refl in
      let x_itself = itself (X c) in
      let o_itself = itself (O c) in
      let c_itself = itself c in
      let (x_row, _) = x_itself in
      let (o_row, _) = o_itself in
      let (_, c_left) = c_itself in
      let rows = one_if-either (O c) (X c) (apart c l) in
      let columns = one_if-left c (after c) (λ e. moves c l (sym e)) in
      let next_row : one_if (leb (X (after c)) (O (after c))) ≡ one_if (leb (X (after c)) (X c)) =
      ap (λ r. one_if (leb (X (after c)) r)) (sym (says c l)) in
      let row : pos (X c) ≡ pos (O (after c)) = ap pos (says c l) in
      omega (arith, ints)

  moved : (f : ℕ → ℤ) → sum_where n here (λ c. f (after c)) ≡ sum_where n here f
  moved f = sum_where_moved n here after one keeps f

  x_o-moved : sum_where n here x_o-after ≡ sum_where n here x_o
  unfolding x_o-after
  x_o-moved =
      sum_where_same n here (λ c. marks_around n X (after c) (X c)) (λ c. marks_around n X (after c) (O (after c)))
      (λ c l h. ap (marks_around n X (after c)) (says c l))
      ∙ moved (λ c. marks_around n X c (O c))

  -- the sum of the balances of all X and of all O with these columns
  pub balances_even : (half : ℤ) × (sum_where n here (λ c. x_x c -ℤ x_o c) +ℤ sum_where n here (λ c. o_x c -ℤ o_o c)
      ≡ half +ℤ half)
  balances_even =
      let first = sum_where-sub n here x_x x_o in
      let second = sum_where-sub n here o_x o_o in
      let third = sum_where-sub n here x_x x_o-after in
      let each = sum_where_same n here _ _ (λ c l h. at_column c l) in
      let left = sum_where-add n here (λ c. x_x c -ℤ x_o-after c) (λ c. o_x c -ℤ o_o c) in
      let columns = sum_where-sub n here (λ c. pos (after c)) (λ c. pos c) in
      let rows = sum_where-sub n here (λ c. pos (O c)) (λ c. pos (O (after c))) in
      let lows = sum_where-sub n here low (λ c. low (after c)) in
      let sum_c = sum_where-add n here (λ c. pos (O c) -ℤ pos (O (after c))) (λ c. low c -ℤ low (after c)) in
      let sum_b = sum_where-add n here (λ c. pos (after c) -ℤ pos c)
      (λ c. (pos (O c) -ℤ pos (O (after c))) +ℤ (low c -ℤ low (after c))) in
      let sum_a = sum_where-add n here (λ c. half_at c +ℤ half_at c)
      (λ c. (pos (after c) -ℤ pos c) +ℤ ((pos (O c) -ℤ pos (O (after c))) +ℤ (low c -ℤ low (after c)))) in
      let halves = sum_where-add n here half_at half_at in
      let columns_same = moved (λ c. pos c) in
      let rows_same = moved (λ c. pos (O c)) in
      let lows_same = moved low in
      let x_o_same = x_o-moved in
      (sum_where n here half_at, omega (arith, ints))
