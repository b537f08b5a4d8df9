-- What an exchange of two points changes: the pairs with other points, and the Maslov degree, by the
-- marks and the points in the rectangle. For the rows of marks and points as functions. Route: for each
-- bijection P, the number of its points in the rectangle is the change of its pairs with x, but for a
-- term that is free of P; take P for the marks, for x, and for y with its circles moved by one.
use Rattle.std.proofs.Common.{◌≡◌, ◌≢◌, ◌⊎◌, ℕ, ◌+◌, ◌<◌, Bool, true, false, not, ◌&&◌, refl, ap, ap₂, ◌∙◌, sym, eqb, ltb, arith, inl, inr, cond}
use Rattle.std.proofs.Math.IntN.{ℤ, pos, ◌+ℤ◌, ◌-ℤ◌}
use Rattle.std.proofs.lemmas.Int.{ints}
use Rattle.std.proofs.lemmas.Bool.{cases_eq, eq-eqb, ne_eqb}
use Rattle.f2_algebra.proofs.Chains.Tables.{same}
use Rattle.state_rank.proofs.BijectionLemmas.{IsOneToOne}
use Rattle.torus_geom.specs.Counts.{one_if, count_below}
use Rattle.torus_geom.proofs.Circles.BetweenLemmas.{between, between_start, between_end, is_between, not_eqb-true, not_eqb-false}
use Rattle.torus_geom.proofs.Sums.SumLemmas.{sum_below_same, balanced_sum, sum_below_swap, sum_below_but_two, sum_below-at_only, at_only}
use Rattle.torus_geom.proofs.Pairs.PairLemmas.{lower_left, upper_right, pairs, upper_right-lower_left, maslov_by_pairs}
use Rattle.torus_geom.proofs.Pairs.CornerCounts.{seam_term, seam_term-next, count_in_corners}

-- x has the points (a, j) and (b, k), y has (a, k) and (b, j), and they agree elsewhere
pub record IsExchange (n : ℕ) (a b j k : ℕ) (x y : ℕ → ℕ) : Type 0 where
  pub a_below : a < n
  pub b_below : b < n
  pub apart : a ≢ b
  pub one : IsOneToOne n x
  pub one_after : IsOneToOne n y
  pub from_a : x a ≡ j
  pub from_b : x b ≡ k
  pub to_a : y a ≡ k
  pub to_b : y b ≡ j
  pub others : (c : ℕ) → c < n → c ≢ a → c ≢ b → x c ≡ y c

-- how many of the marks are in the rectangle
abbrev pub marks_between : ℕ → (ℕ → ℕ) → ℕ → ℕ → ℕ → ℕ → ℤ
marks_between n o a b j k = count_below n (λ d. between a b d && between j k (o d))

-- how many points are strictly inside it
abbrev pub points_within : ℕ → (ℕ → ℕ) → ℕ → ℕ → ℕ → ℕ → ℤ
points_within n x a b j k = count_below n (λ d. is_between a b d && is_between j k (x d))

between_next : (a b d : ℕ) → d ≢ a → d ≢ b → between (a + 1) (b + 1) d ≡ between a b d
between_next a b d p q = grind arith

between_next_start : (a b : ℕ) → between (a + 1) (b + 1) a ≡ false
between_next_start a b = grind arith

module _ (n : ℕ) (a b j k : ℕ) (x y : ℕ → ℕ) (s : IsExchange n a b j k x y) where
  j_below : j < n
  j_below = let e = s.from_a in let h = s.one.small a s.a_below in omega arith

  k_below : k < n
  k_below = let e = s.from_b in let h = s.one.small b s.b_below in omega arith

  -- pairs with the points of x or y on the right
  pub pairs-exchanged_right : (P : ℕ → ℕ) → IsOneToOne n P
      → marks_between n P a b j k +ℤ pairs n P y ≡ pairs n P x +ℤ seam_term n a b j k
  pairs-exchanged_right P one =
      let la = s.a_below in let lb = s.b_below in let lj = j_below in let lk = k_below in
      let in_corners = count_in_corners n P one a b j k (omega arith) (omega arith) (omega arith) (omega arith) in
      let but_two =
      sum_below_but_two n a b (λ c. lower_left n P c (x c)) (λ c. lower_left n P c (y c)) la lb s.apart
      (λ c l p q. ap (lower_left n P c) (s.others c l p q)) in
      let xa = ap (lower_left n P a) s.from_a in
      let xb = ap (lower_left n P b) s.from_b in
      let ya = ap (lower_left n P a) s.to_a in
      let yb = ap (lower_left n P b) s.to_b in
      omega (arith, ints)

  -- pairs with the points of x or y on the left
  pub pairs-exchanged_left : (Q : ℕ → ℕ) → IsOneToOne n Q
      → marks_between n Q (a + 1) (b + 1) (j + 1) (k + 1) +ℤ pairs n y Q ≡ pairs n x Q +ℤ seam_term n a b j k
  pairs-exchanged_left Q one =
      let la = s.a_below in let lb = s.b_below in let lj = j_below in let lk = k_below in
      let in_corners =
      count_in_corners n Q one (a + 1) (b + 1) (j + 1) (k + 1) (omega arith) (omega arith) (omega arith)
      (omega arith) in
      let but_two =
      sum_below_but_two n a b (λ c. right c (x c)) (λ c. right c (y c)) la lb s.apart
      (λ c l p q. ap (right c) (s.others c l p q)) in
      let either_order = sum_below_swap n n (λ d c. one_if (ltb c d && ltb (x c) (Q d))) in
      let also_either_order = sum_below_swap n n (λ d c. one_if (ltb c d && ltb (y c) (Q d))) in
      let xa = ap (right a) s.from_a ∙ right_is a j in
      let xb = ap (right b) s.from_b ∙ right_is b k in
      let ya = ap (right a) s.to_a ∙ right_is a k in
      let yb = ap (right b) s.to_b ∙ right_is b j in
      let aj = upper_right-lower_left n Q one (a + 1) (j + 1) (omega arith) (omega arith) in
      let ak = upper_right-lower_left n Q one (a + 1) (k + 1) (omega arith) (omega arith) in
      let bj = upper_right-lower_left n Q one (b + 1) (j + 1) (omega arith) (omega arith) in
      let bk = upper_right-lower_left n Q one (b + 1) (k + 1) (omega arith) (omega arith) in
      let i = seam_term-next n a b j k in
      omega (arith, ints)
    where
      right : ℕ → ℕ → ℤ
      right c r = count_below n (λ d. ltb c d && ltb r (Q d))

      after : (c d : ℕ) → ltb c d ≡ not (ltb d (c + 1))
      after c d = grind arith

      right_is : (c r : ℕ) → right c r ≡ upper_right n Q (c + 1) (r + 1)
      right_is c r =
          sum_below_same n (λ d. one_if (ltb c d && ltb r (Q d)))
          (λ d. one_if (not (ltb d (c + 1)) && not (ltb (Q d) (r + 1))))
          (λ d l. λ i. one_if (after c d i && after r (Q d) i))

  rows_apart : j ≢ k
  rows_apart e = s.one.apart a b s.a_below s.b_below s.apart (s.from_a ∙ e ∙ sym s.from_b)

  x_off_j : (d : ℕ) → d < n → d ≢ a → x d ≢ j
  x_off_j d l p e = s.one.apart d a l s.a_below p (e ∙ sym s.from_a)

  -- of the points of x all are inside but the first corner
  corner_first : marks_between n x a b j k ≡ points_within n x a b j k +ℤ pos 1
  corner_first =
      balanced_sum n (λ d. one_if (between a b d && between j k (x d)))
      (λ d. one_if (is_between a b d && is_between j k (x d))) (at_only a (λ d. pos 1))
      (λ d l. each d l (cases_eq d a))
      ∙ ap (λ r. points_within n x a b j k +ℤ r) (sum_below-at_only n a (λ d. pos 1) s.a_below)
    where
      each : (d : ℕ) → d < n → (d ≡ a) ⊎ (d ≢ a)
          → one_if (between a b d && between j k (x d))
          ≡ one_if (is_between a b d && is_between j k (x d)) +ℤ cond (eqb d a) (pos 1) (pos 0)
      each d l (inl e) =
          let p : between a b d ≡ true = ap (between a b) e ∙ between_start a b s.apart in
          let q : between j k (x d) ≡ true = ap (between j k) (ap x e ∙ s.from_a) ∙ between_start j k rows_apart in
          let r : not (eqb d a) ≡ false = ap (λ t. not (eqb t a)) e ∙ not_eqb-false a in
          (λ i. one_if (p i && q i))
          ∙ sym (λ i. one_if ((p i && r i) && (q i && not (eqb (x d) j))) +ℤ cond (eq-eqb d a e i) (pos 1) (pos 0))
      each d l (inr p) =
          sym ((λ i. one_if ((between a b d && not_eqb-true d a p i)
          && (between j k (x d) && not_eqb-true (x d) j (x_off_j d l p) i))
          +ℤ cond (ne_eqb d a p i) (pos 1) (pos 0))
          ∙ plain (between a b d) (between j k (x d)))
        where
          plain : (u v : Bool) → one_if ((u && true) && (v && true)) +ℤ pos 0 ≡ one_if (u && v)
          plain true true = refl
          plain true false = refl
          plain false v = refl

  -- of those of y just these are inside
  corner_last : marks_between n y (a + 1) (b + 1) (j + 1) (k + 1) ≡ points_within n x a b j k
  corner_last =
      sum_below_same n _ (λ d. one_if (is_between a b d && is_between j k (x d)))
      (λ d l. ap one_if (each d l (cases_eq d a) (cases_eq d b)))
    where
      each : (d : ℕ) → d < n → (d ≡ a) ⊎ (d ≢ a) → (d ≡ b) ⊎ (d ≢ b)
          → (between (a + 1) (b + 1) d && between (j + 1) (k + 1) (y d)) ≡ (is_between a b d && is_between j k (x d))
      each d l (inl e) i =
          let p : between (a + 1) (b + 1) d ≡ false = ap (between (a + 1) (b + 1)) e ∙ between_next_start a b in
          let r : not (eqb d a) ≡ false = ap (λ t. not (eqb t a)) e ∙ not_eqb-false a in
          ap (λ t. t && between (j + 1) (k + 1) (y d)) p
          ∙ sym (ap (λ t. (between a b d && t) && is_between j k (x d)) r
          ∙ same 2 (λ u v. (u && false) && v) (λ u v. false) refl (between a b d) (is_between j k (x d)))
      each d l (inr p) (inl e) =
          let q : between (j + 1) (k + 1) (y d) ≡ false =
          ap (between (j + 1) (k + 1)) (ap y e ∙ s.to_b) ∙ between_next_start j k in
          let r : between a b d ≡ false = ap (between a b) e ∙ between_end a b in
          ap (λ t. between (a + 1) (b + 1) d && t) q
          ∙ same 1 (λ u. u && false) (λ u. false) refl (between (a + 1) (b + 1) d)
          ∙ sym (ap (λ t. (t && not (eqb d a)) && is_between j k (x d)) r)
      each d l (inr p) (inr q) =
          let e = s.others d l p q in
          let off_k : x d ≢ k = λ i. s.one.apart d b l s.b_below q (i ∙ sym s.from_b) in
          ap₂ (λ u v. u && v) (between_next a b d p q)
          (ap (between (j + 1) (k + 1)) (sym e) ∙ between_next j k (x d) (x_off_j d l p) off_k)
          ∙ sym ((λ i. (between a b d && not_eqb-true d a p i)
          && (between j k (x d) && not_eqb-true (x d) j (x_off_j d l p) i))
          ∙ same 2 (λ u v. (u && true) && (v && true)) (λ u v. u && v) refl (between a b d) (between j k (x d)))

  -- pairs of points
  pub pairs-exchanged_both : points_within n x a b j k +ℤ points_within n x a b j k +ℤ pos 1 +ℤ pairs n y y
      ≡ pairs n x x +ℤ seam_term n a b j k +ℤ seam_term n a b j k
  pairs-exchanged_both =
      let on_the_right = pairs-exchanged_right x s.one in
      let on_the_left = pairs-exchanged_left y s.one_after in
      let first_corner = corner_first in
      let last_corner = corner_last in
      omega (arith, ints)

  -- the Maslov degree
  pub maslov-exchanged : (o : ℕ → ℕ) → IsOneToOne n o
      → maslov_by_pairs n o x -ℤ maslov_by_pairs n o y
      ≡ pos 1 -ℤ (marks_between n o a b j k +ℤ marks_between n o a b j k)
      +ℤ (points_within n x a b j k +ℤ points_within n x a b j k)
  maslov-exchanged o one = let on_the_right = pairs-exchanged_right o one in let of_points = pairs-exchanged_both in
      omega (arith, ints)
