-- One circle up and one down, and what becomes of pairs when the columns are turned by one.
use Rattle.std.proofs.Common.{◌≡◌, ℕ, zero, suc, ◌+◌, ◌-◌, ◌%◌, ◌<◌, Bool, true, not, ◌&&◌, ◌||◌, refl, ap, ◌∙◌, sym, eqb, ltb, arith, inl, inr, cond, mod-eq_of_lt, ◌≢◌, ◌≤◌}
use Rattle.std.proofs.Math.Nat.{add-mod_right}
use Rattle.std.proofs.Math.IntN.{ℤ, pos, ◌+ℤ◌}
use Rattle.std.proofs.lemmas.Int.{ints}
use Rattle.std.proofs.lemmas.Bool.{cases_eq}
use Rattle.state_rank.specs.Bijection.{column_of}
use Rattle.state_rank.proofs.BijectionLemmas.{IsOneToOne, column_of-below, row-column_of, column_of-is}
use Rattle.torus_geom.specs.Counts.{one_if, sum_below, count_below}
use Rattle.torus_geom.specs.Range.{one_up, one_down}
use Rattle.torus_geom.proofs.Sums.SumLemmas.{sum_below_same, sum_below-add, balanced_sum, balanced_pairs, sum_below_swap, sum_below-at_only, at_only, sum_below_reindex, same_ints, under_test}
use Rattle.torus_geom.proofs.Pairs.PairLemmas.{pairs, count_below-all, count_below-rows}

-- the circle after one that is not the last
pub one_up-below : (m c : ℕ) → c < m → one_up (suc m) c ≡ c + 1
one_up-below m c l = mod-eq_of_lt (omega arith)

-- after the last comes the first
pub one_up-last : (m : ℕ) → one_up (suc m) m ≡ 0
one_up-last m = let e : m + 1 ≡ 0 + suc m = omega arith in
    ap (λ k. k % suc m) e ∙ add-mod_right 0 (suc m) ∙ mod-eq_of_lt (omega arith)

-- the circle before one that is not the first
pub one_down-above : (m c : ℕ) → c < m → one_down (suc m) (c + 1) ≡ c
one_down-above m c l = let e : (c + 1) + (suc m - 1) ≡ c + suc m = omega arith in
    ap (λ k. k % suc m) e ∙ add-mod_right c (suc m) ∙ mod-eq_of_lt (omega arith)

-- before the first comes the last
pub one_down-first : (m : ℕ) → one_down (suc m) 0 ≡ m
one_down-first m = let e : 0 + (suc m - 1) ≡ m = omega arith in ap (λ k. k % suc m) e ∙ mod-eq_of_lt (omega arith)

-- up and down again
pub one_down-one_up : (n c : ℕ) → c < n → one_down n (one_up n c) ≡ c
one_down-one_up zero c l = absurd (omega arith)
one_down-one_up (suc m) c l = elim (cases_eq c m) [
  | inl e ↦
      ap (λ k. one_down (suc m) (one_up (suc m) k)) e ∙ ap (one_down (suc m)) (one_up-last m) ∙ one_down-first m
      ∙ sym e
  | inr p ↦ ap (one_down (suc m)) (one_up-below m c (omega arith)) ∙ one_down-above m c (omega arith)
]

-- the circle after is one of the grid
pub one_up_below : (n c : ℕ) → c < n → one_up n c < n
one_up_below zero c l = absurd (omega arith)
one_up_below (suc m) c l = elim (cases_eq c m) [
  | inl e ↦ let i : one_up (suc m) c ≡ 0 = ap (one_up (suc m)) e ∙ one_up-last m in omega arith
  | inr p ↦ let i = one_up-below m c (omega arith) in omega arith
]

-- and the circle before
pub one_down_below : (n c : ℕ) → c < n → one_down n c < n
one_down_below zero c l = absurd (omega arith)
one_down_below (suc m) zero l = let i = one_down-first m in omega arith
one_down_below (suc m) (suc c) l = let e : suc c ≡ c + 1 = omega arith in
    let i : one_down (suc m) (suc c) ≡ c = ap (one_down (suc m)) e ∙ one_down-above m c (omega arith) in omega arith

-- down and up again
pub one_up-one_down : (n c : ℕ) → c < n → one_up n (one_down n c) ≡ c
one_up-one_down zero c l = absurd (omega arith)
one_up-one_down (suc m) zero l = ap (one_up (suc m)) (one_down-first m) ∙ one_up-last m
one_up-one_down (suc m) (suc c) l =
    let e : suc c ≡ c + 1 = omega arith in
    let k : c < m = omega arith in
    ap (λ t. one_up (suc m) (one_down (suc m) t)) e ∙ ap (one_up (suc m)) (one_down-above m c k) ∙ one_up-below m c k
    ∙ sym e

-- one up is a bijection
pub one_up_one : (n : ℕ) → IsOneToOne n (one_up n)
one_up_one n =
    record {
      small = one_up_below n;
      apart = λ b c lb lc p e. p (sym (one_down-one_up n b lb) ∙ ap (one_down n) e ∙ one_down-one_up n c lc);
    }

-- and one down
pub one_down_one : (n : ℕ) → IsOneToOne n (one_down n)
one_down_one n =
    record {
      small = one_down_below n;
      apart = λ b c lb lc p e. p (sym (one_up-one_down n b lb) ∙ ap (one_up n) e ∙ one_up-one_down n c lc);
    }

-- one bijection after another
pub composed_one : (n : ℕ) (f s : ℕ → ℕ) → IsOneToOne n f → IsOneToOne n s → IsOneToOne n (λ c. f (s c))
composed_one n f s of os =
    record {
      small = λ c l. of.small (s c) (os.small c l);
      apart = λ b c lb lc p. of.apart (s b) (s c) (os.small b lb) (os.small c lc) (os.apart b c lb lc p);
    }

-- the order of columns before the turn to the left
abbrev first_last : ℕ → ℕ → Bool
first_last u v = not (eqb u 0) && (eqb v 0 || ltb u v)

-- what holds of two columns that may be the first
abbrev zeros_fit : Bool → Bool → Bool → Bool
zeros_fit a b c = (not a || (c && not b || not c && b)) && (not b || not c)

module _ (m : ℕ) where
  abbrev n : ℕ
  n = suc m

  order_before : (c d : ℕ) → c < n → d < n → ltb c d ≡ first_last (one_up n c) (one_up n d)
  order_before c d lc ld = elim (cases_eq c m) [
    | inl e ↦ let i : one_up n c ≡ 0 = ap (one_up n) e ∙ one_up-last m in grind (arith, i)
    | inr p ↦ let i = one_up-below m c (omega arith) in elim (cases_eq d m) [
      | inl e ↦ let j : one_up n d ≡ 0 = ap (one_up n) e ∙ one_up-last m in grind (arith, i, j)
      | inr q ↦ let j = one_up-below m d (omega arith) in grind (arith, i, j)
    ]
  ]

  -- what a turn of the columns changes of pairs
  pub pairs-one_up : (P Q : ℕ → ℕ) → IsOneToOne n P → IsOneToOne n Q
      → pairs n (λ c. P (one_up n c)) (λ c. Q (one_up n c)) +ℤ pos n ≡ pairs n P Q +ℤ pos (Q 0) +ℤ pos (P 0) +ℤ pos 1
  pairs-one_up P Q op oq =
      let rewritten : pairs n (λ c. P (one_up n c)) (λ c. Q (one_up n c)) ≡ sum_below n (λ v. sum_below n (first v)) =
      sum_below_same n _ (λ d. sum_below n (first (one_up n d))) (λ d l.
      sum_below_same n _ (λ c. first (one_up n d) (one_up n c))
      (λ c k. ap (λ t. one_if (t && ltb (P (one_up n c)) (Q (one_up n d)))) (order_before c d k l))
      ∙ sum_below_reindex n (one_up n) (one_up_one n) (first (one_up n d)))
      ∙ sum_below_reindex n (one_up n) (one_up_one n) (λ v. sum_below n (first v)) in
      let balance =
      balanced_pairs n (λ v. sum_below n (first v)) (λ v. sum_below n (low v)) (λ v. sum_below n (plain v))
      (λ v. sum_below n (high v)) (λ v l.
      balanced_pairs n (first v) (low v) (plain v) (high v) (λ u k. each u v)) in
      let also_rewritten =
      sum_below_same n (λ v. sum_below n (low v)) (λ v. one_if (not (eqb v 0) && ltb (P 0) (Q v)))
      (λ v l. sum_below-at_only n 0 (λ u. one_if (not (eqb v 0) && ltb (P u) (Q v))) (omega arith)) in
      let without_first = but_first (λ v. ltb (P 0) (Q v)) in
      let added = sum_below-add n (λ v. one_if (ltb (P 0) (Q v))) (λ v. one_if (ltb (Q v) (P 0 + 1))) in
      let again_rewritten =
      sum_below_same n (λ v. one_if (ltb (P 0) (Q v)) +ℤ one_if (ltb (Q v) (P 0 + 1))) (λ v. pos 1)
      (λ v l. either (P 0) (Q v)) in
      let all = count_below-all n in
      let small = op.small 0 (omega arith) in
      let below = count_below-rows n Q oq (P 0 + 1) (omega arith) in
      let either_order = sum_below_swap n n high in
      let further_rewritten =
      sum_below_same n (λ u. sum_below n (λ v. high v u)) (λ u. one_if (not (eqb u 0) && ltb (P u) (Q 0)))
      (λ u l. sum_below-at_only n 0 (λ v. one_if (not (eqb u 0) && ltb (P u) (Q v))) (omega arith)) in
      let also_without_first = but_first (λ u. ltb (P u) (Q 0)) in
      let small_q = oq.small 0 (omega arith) in
      let also_below = count_below-rows n P op (Q 0) (omega arith) in
      omega (arith, ints)
    where
      first : ℕ → ℕ → ℤ
      first v u = one_if (first_last u v && ltb (P u) (Q v))

      plain : ℕ → ℕ → ℤ
      plain v u = one_if (ltb u v && ltb (P u) (Q v))

      low : ℕ → ℕ → ℤ
      low v u = cond (eqb u 0) (one_if (not (eqb v 0) && ltb (P u) (Q v))) (pos 0)

      high : ℕ → ℕ → ℤ
      high v u = cond (eqb v 0) (one_if (not (eqb u 0) && ltb (P u) (Q v))) (pos 0)

      either : (a b : ℕ) → one_if (ltb a b) +ℤ one_if (ltb b (a + 1)) ≡ pos 1
      either a b = let e : ltb b (a + 1) ≡ not (ltb a b) = grind arith in
          ap (λ t. one_if (ltb a b) +ℤ one_if t) e
          ∙ same_ints 1 (λ t. one_if t +ℤ one_if (not t)) (λ t. pos 1) refl (ltb a b)

      but_first : (t : ℕ → Bool) → count_below n t ≡ count_below n (λ v. not (eqb v 0) && t v) +ℤ one_if (t 0)
      but_first t =
          balanced_sum n (λ v. one_if (t v)) (λ v. one_if (not (eqb v 0) && t v)) (at_only 0 (λ v. one_if (t v)))
          (λ v l.
          same_ints 2 (λ a b. one_if b) (λ a b. one_if (not a && b) +ℤ cond a (one_if b) (pos 0)) refl (eqb v 0) (t v))
          ∙ ap (λ r. count_below n (λ v. not (eqb v 0) && t v) +ℤ r)
          (sum_below-at_only n 0 (λ v. one_if (t v)) (omega arith))

      zeros : (u v : ℕ) → zeros_fit (eqb u 0) (eqb v 0) (ltb u v) ≡ true
      zeros u v = grind arith

      each : (u v : ℕ) → first v u +ℤ low v u ≡ plain v u +ℤ high v u
      each u v =
          under_test _ _ _ (zeros u v)
          (same_ints 4 (λ a b c t. cond (zeros_fit a b c) (one_if ((not a && (b || c)) && t)
          +ℤ cond a (one_if (not b && t)) (pos 0)) (pos 0))
          (λ a b c t. cond (zeros_fit a b c) (one_if (c && t) +ℤ cond b (one_if (not a && t)) (pos 0)) (pos 0)) refl
          (eqb u 0) (eqb v 0) (ltb u v) (ltb (P u) (Q v)))

-- by rows a turn up is one to the right
pub column_of-one_up : (n : ℕ) (f : ℕ → ℕ) → IsOneToOne n f → (r : ℕ) → r < n
    → column_of n (λ c. one_up n (f c)) r ≡ column_of n f (one_down n r)
column_of-one_up n f one r l =
    let k = one_down_below n r l in
    column_of-is n (λ c. one_up n (f c)) (composed_one n (one_up n) f (one_up_one n) one)
    (column_of n f (one_down n r)) r (column_of-below n f one (one_down n r) k)
    (ap (one_up n) (row-column_of n f one (one_down n r) k) ∙ one_up-one_down n r l)

-- the circle before another is another
pub one_down-other : (n c : ℕ) → 2 ≤ n → c < n → one_down n c ≢ c
one_down-other zero c two l e = absurd (omega (arith, two))
one_down-other (suc m) zero two l e = omega (arith, two, one_down-first m, e)
one_down-other (suc m) (suc c) two l e =
    let same : suc c ≡ c + 1 = omega arith in
    let down : one_down (suc m) (suc c) ≡ c = ap (one_down (suc m)) same ∙ one_down-above m c (omega (arith, l)) in
    omega (arith, down, e)
