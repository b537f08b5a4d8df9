-- What reflecting changes of the pairs of points and marks, and so of the Maslov degree: M becomes
-- 1 - n - M.
-- Route: two columns are in order either before or after reflecting, so the pairs before and after add
-- up to all pairs whose rows are in order, which are as many as the sum of the numbers below n.
use Rattle.std.proofs.Common.{◌≡◌, ℕ, suc, ◌+◌, ◌<◌, ◌≤◌, Bool, true, false, not, ◌&&◌, refl, ap, ◌∙◌, sym, eqb, ltb, arith, inl, inr, cond}
use Rattle.std.proofs.Math.IntN.{ℤ, pos, ◌+ℤ◌, ◌-ℤ◌}
use Rattle.std.proofs.lemmas.Int.{ints}
use Rattle.std.proofs.lemmas.Bool.{cases_eq, eq-eqb, ne_eqb}
use Rattle.state_rank.proofs.BijectionLemmas.{IsOneToOne}
use Rattle.torus_geom.specs.Counts.{one_if, sum_below, count_below}
use Rattle.torus_geom.specs.Range.{one_up}
use Rattle.torus_geom.proofs.Sums.SumLemmas.{sum_below_same, sum_below_vanishes, balanced_sum, sum_below-at_only, at_only, sum_below_reindex, same_ints}
use Rattle.torus_geom.proofs.Pairs.PairLemmas.{pairs, lower_left, count_below-rows, maslov_by_pairs}
use Rattle.torus_geom.proofs.Pairs.RowPairLemmas.{pairs_same}
use Rattle.torus_geom.proofs.Circles.TurnLemmas.{one_up-below, one_up-last, one_up_one, pairs-one_up}
use Rattle.grid_symmetry.specs.Symmetries.{opposite}
use Rattle.grid_symmetry.proofs.Opposites.{from_right, from_right_one, from_right-from_right, opposite-zero, opposite-one_up}

-- ---- double sums
sum_below_reindex_both : (n : ℕ) (p : ℕ → ℕ) → IsOneToOne n p → (f : ℕ → ℕ → ℤ)
    → sum_below n (λ d. sum_below n (λ c. f (p d) (p c))) ≡ sum_below n (λ d. sum_below n (f d))
sum_below_reindex_both n p one f =
    sum_below_same n (λ d. sum_below n (λ c. f (p d) (p c))) (λ d. sum_below n (f (p d)))
    (λ d l. sum_below_reindex n p one (f (p d)))
    ∙ sum_below_reindex n p one (λ d. sum_below n (f d))

sum_below_same_both : (n : ℕ) (f g : ℕ → ℕ → ℤ) → ((d c : ℕ) → d < n → c < n → f d c ≡ g d c)
    → sum_below n (λ d. sum_below n (f d)) ≡ sum_below n (λ d. sum_below n (g d))
sum_below_same_both n f g e =
    sum_below_same n (λ d. sum_below n (f d)) (λ d. sum_below n (g d))
    (λ d l. sum_below_same n (f d) (g d) (λ c k. e d c l k))

balanced_both : (n : ℕ) (f g h : ℕ → ℕ → ℤ) → ((d c : ℕ) → d < n → c < n → f d c ≡ g d c +ℤ h d c)
    → sum_below n (λ d. sum_below n (f d))
    ≡ sum_below n (λ d. sum_below n (g d)) +ℤ sum_below n (λ d. sum_below n (h d))
balanced_both n f g h e =
    balanced_sum n (λ d. sum_below n (f d)) (λ d. sum_below n (g d)) (λ d. sum_below n (h d))
    (λ d l. balanced_sum n (f d) (g d) (h d) (λ c k. e d c l k))

-- the sum of the numbers below n
abbrev triangle : ℕ → ℤ
triangle n = sum_below n (λ c. pos c)

-- columns from the right are in the other order
ltb-from_right : (n u v : ℕ) → u < n → v < n → ltb (from_right n u) (from_right n v) ≡ ltb v u
ltb-from_right n u v lu lv = grind arith

-- all pairs whose rows are in order
all_in_order : (n : ℕ) (P Q : ℕ → ℕ) → IsOneToOne n P → IsOneToOne n Q
    → sum_below n (λ d. sum_below n (λ c. one_if (ltb (P c) (Q d)))) ≡ triangle n
all_in_order n P Q op oq =
    sum_below_same n (λ d. sum_below n (λ c. one_if (ltb (P c) (Q d)))) (λ d. pos (Q d))
    (λ d l. let k = oq.small d l in count_below-rows n P op (Q d) (omega arith))
    ∙ sum_below_reindex n Q oq (λ d. pos d)

-- of two different columns one is left of the other
parted : (n : ℕ) (P : ℕ → ℕ) (v u : ℕ) → one_if (ltb (P u) (P v))
    ≡ one_if (ltb v u && ltb (P u) (P v)) +ℤ one_if (ltb u v && ltb (P u) (P v))
parted n P v u = elim (cases_eq u v) [
  | inl e ↦ by_none (ltb v u) (ltb u v) (ltb (P u) (P v)) (let i : P u ≡ P v = ap P e in grind (arith, i))
  | inr q ↦ let f : ltb u v ≡ not (ltb v u) = grind (arith, q) in ap (λ t. t) (by_one (ltb v u) (ltb (P u) (P v)))
      ∙ ap (λ t. one_if (ltb v u && ltb (P u) (P v)) +ℤ one_if (t && ltb (P u) (P v))) (sym f)
]
  where
    by_one : (a t : Bool) → one_if t ≡ one_if (a && t) +ℤ one_if (not a && t)
    by_one a t = same_ints 2 (λ a t. one_if t) (λ a t. one_if (a && t) +ℤ one_if (not a && t)) refl a t

    by_none : (a b t : Bool) → t ≡ false → one_if t ≡ one_if (a && t) +ℤ one_if (b && t)
    by_none a b t e =
        ap one_if e
        ∙ same_ints 2 (λ a b. pos 0) (λ a b. one_if (a && false) +ℤ one_if (b && false)) refl a b
        ∙ ap (λ t. one_if (a && t) +ℤ one_if (b && t)) (sym e)

-- the pairs of a bijection, before and after reflecting
pub pairs-reflected : (n : ℕ) (P : ℕ → ℕ) → IsOneToOne n P
    → pairs n (λ c. P (from_right n c)) (λ c. P (from_right n c)) +ℤ pairs n P P ≡ triangle n
pairs-reflected n P op =
    ap (λ z. z +ℤ pairs n P P) (
    sum_below_same_both n _
    (λ d c. one_if (ltb (from_right n (from_right n c)) (from_right n (from_right n d)) && ltb (P (from_right n c))
    (P (from_right n d)))) (λ d c l k.
    λ i. one_if (ltb (sym (from_right-from_right n c k) i) (sym (from_right-from_right n d l) i) && ltb
    (P (from_right n c)) (P (from_right n d))))
    ∙ sum_below_reindex_both n (from_right n) (from_right_one n)
    (λ v u. one_if (ltb (from_right n u) (from_right n v) && ltb (P u) (P v)))
    ∙ sum_below_same_both n _ (λ v u. one_if (ltb v u && ltb (P u) (P v)))
    (λ v u l k. ap (λ t. one_if (t && ltb (P u) (P v))) (ltb-from_right n u v k l)))
    ∙ sym (balanced_both n (λ v u. one_if (ltb (P u) (P v))) (λ v u. one_if (ltb v u && ltb (P u) (P v)))
    (λ v u. one_if (ltb u v && ltb (P u) (P v))) (λ v u l k. parted n P v u))
    ∙ all_in_order n P P op op

-- ---- marks and points
module _ (m : ℕ) (o x o' z : ℕ → ℕ) (oo : IsOneToOne (suc m) o) (ox : IsOneToOne (suc m) x) (oz : IsOneToOne (suc m) z)
    (oo' : IsOneToOne (suc m) o')
    (at_o : (c : ℕ) → c < suc m → o' c ≡ o (from_right (suc m) c))
    (at_z : (c : ℕ) → c < suc m → z c ≡ x (opposite (suc m) c)) where
  abbrev n : ℕ
  n = suc m

  turned : (c : ℕ) → c < n → z (one_up n c) ≡ x (from_right n c)
  turned c l = at_z (one_up n c) ((one_up_one n).small c l) ∙ ap x (opposite-one_up m c l)

  first_row : z 0 ≡ x 0
  first_row = at_z 0 (omega arith) ∙ ap x (opposite-zero n (omega arith))

  -- the marks not right of column e and below row r
  weak : ℕ → ℕ → ℤ
  weak e r = count_below n (λ c. not (ltb e c) && ltb (o' c) r)

  -- they are those left of the next circle; the last circle is followed by the first
  weak-lower_left : (e r : ℕ) → e < n → r ≤ n → weak e r
      ≡ lower_left n o' (one_up n e) r +ℤ cond (eqb e m) (pos r) (pos 0)
  unfolding weak
  weak-lower_left e r l h = elim (cases_eq e m) [
    | inl i ↦
        let none : lower_left n o' (one_up n e) r ≡ pos 0 =
        ap (λ t. lower_left n o' t r) (ap (one_up n) i ∙ one_up-last m)
        ∙ sum_below_vanishes n (λ d. one_if (ltb d 0 && ltb (o' d) r))
        (λ d k. let f : (ltb d 0 && ltb (o' d) r) ≡ false = grind arith in ap one_if f) in
        let all : count_below n (λ c. not (ltb e c) && ltb (o' c) r) ≡ pos r =
        sum_below_same n (λ c. one_if (not (ltb e c) && ltb (o' c) r)) (λ c. one_if (ltb (o' c) r)) (λ c k.
        let f : not (ltb e c) ≡ true = grind (arith, i, k) in ap (λ t. one_if (t && ltb (o' c) r)) f)
        ∙ count_below-rows n o' oo' r h in
        let there : cond (eqb e m) (pos r) (pos 0) ≡ pos r = ap (λ b. cond b (pos r) (pos 0)) (eq-eqb e m i) in
        omega (arith, ints)
    | inr q ↦
        let some : count_below n (λ c. not (ltb e c) && ltb (o' c) r) ≡ lower_left n o' (one_up n e) r =
        sum_below_same n (λ c. one_if (not (ltb e c) && ltb (o' c) r)) (λ c. one_if (ltb c (e + 1) && ltb (o' c) r))
        (λ c k.
        let f : not (ltb e c) ≡ ltb c (e + 1) = grind arith in ap (λ t. one_if (t && ltb (o' c) r)) f)
        ∙ ap (λ t. lower_left n o' t r) (sym (one_up-below m e (omega arith))) in
        let away : cond (eqb e m) (pos r) (pos 0) ≡ pos 0 = ap (λ b. cond b (pos r) (pos 0)) (ne_eqb e m q) in
        omega (arith, ints)
  ]

  -- the pairs of a mark and a point, before and after reflecting
  pairs_of_marks : pairs n o' z +ℤ pos (x 0) +ℤ pairs n o x ≡ triangle n
  unfolding weak
  pairs_of_marks =
      let by_circles : pairs n o' z ≡ sum_below n (λ e. lower_left n o' (one_up n e) (x (from_right n e))) =
      sym (sum_below_reindex n (one_up n) (one_up_one n) (λ d. lower_left n o' d (z d)))
      ∙ sum_below_same n _ (λ e. lower_left n o' (one_up n e) (x (from_right n e)))
      (λ e l. ap (lower_left n o' (one_up n e)) (turned e l)) in
      let weakly = balanced_sum n (λ e. weak e (x (from_right n e)))
      (λ e. lower_left n o' (one_up n e) (x (from_right n e))) (at_only m (λ e. pos (x (from_right n e)))) (λ e l.
      let k = ox.small (from_right n e) (omega arith) in weak-lower_left e (x (from_right n e)) l (omega arith)) in
      let last : sum_below n (at_only m (λ e. pos (x (from_right n e)))) ≡ pos (x 0) =
      sum_below-at_only n m (λ e. pos (x (from_right n e))) (omega arith)
      ∙ ap (λ t. pos (x t)) (let i : from_right n m ≡ 0 = omega arith in i) in
      let reversed : sum_below n (λ e. weak e (x (from_right n e)))
      ≡ sum_below n (λ v. sum_below n (λ u. one_if (not (ltb u v) && ltb (o u) (x v)))) =
      sum_below_same_both n (λ e c. one_if (not (ltb e c) && ltb (o' c) (x (from_right n e))))
      (λ e c. one_if (not (ltb (from_right n (from_right n e)) (from_right n (from_right n c))) && ltb
      (o (from_right n c)) (x (from_right n e)))) (λ e c l k.
      λ i. one_if (not (ltb (sym (from_right-from_right n e l) i) (sym (from_right-from_right n c k) i)) && ltb
      (at_o c k i) (x (from_right n e))))
      ∙ sum_below_reindex_both n (from_right n) (from_right_one n)
      (λ v u. one_if (not (ltb (from_right n v) (from_right n u)) && ltb (o u) (x v)))
      ∙ sum_below_same_both n _ (λ v u. one_if (not (ltb u v) && ltb (o u) (x v)))
      (λ v u l k. ap (λ t. one_if (not t && ltb (o u) (x v))) (ltb-from_right n v u l k)) in
      let whole = balanced_both n (λ v u. one_if (ltb (o u) (x v))) (λ v u. one_if (not (ltb u v) && ltb (o u) (x v)))
      (λ v u. one_if (ltb u v && ltb (o u) (x v))) (λ v u l k.
      same_ints 2 (λ a t. one_if t) (λ a t. one_if (not a && t) +ℤ one_if (a && t)) refl (ltb u v) (ltb (o u) (x v))) in
      let all = all_in_order n o x oo ox in
      omega (arith, ints)

  -- M becomes 1 - n - M.
  pub maslov_by_pairs-reflected : maslov_by_pairs n o' z ≡ pos 1 -ℤ pos n -ℤ maslov_by_pairs n o x
  maslov_by_pairs-reflected =
      let marks = pairs-reflected n o oo in
      let marks_same = pairs_same n o' (λ c. o (from_right n c)) o' (λ c. o (from_right n c)) at_o at_o in
      let points = pairs-reflected n x ox in
      let one_turn = pairs-one_up m z z oz oz in
      let points_same = pairs_same n (λ c. z (one_up n c)) (λ c. x (from_right n c)) (λ c. z (one_up n c))
      (λ c. x (from_right n c)) turned turned in
      let start : pos (z 0) ≡ pos (x 0) = ap pos first_row in
      let both = pairs_of_marks in
      omega (arith, ints)
