-- What a new column with a new row changes of the pairs of points of two bijections that both get it there, and
-- of the Maslov degree; and of the columns where one is above the other.
use Rattle.std.proofs.Common.{◌≡◌, ◌≢◌, ◌⊎◌, ℕ, suc, ◌+◌, ◌<◌, not, ◌&&◌, ap, ap₂, ◌∙◌, sym, ltb, arith, inl, inr}
use Rattle.std.proofs.Math.IntN.{ℤ, pos, ◌+ℤ◌}
use Rattle.std.proofs.lemmas.Int.{ints}
use Rattle.std.proofs.lemmas.Bool.{cases_eq, le-ltb}
use Rattle.state_rank.proofs.BijectionLemmas.{IsOneToOne}
use Rattle.torus_geom.specs.Counts.{count_below, one_if}
use Rattle.torus_geom.proofs.Sums.SumLemmas.{sum_below_same, balanced_sum}
use Rattle.torus_geom.proofs.Pairs.PairLemmas.{lower_left, upper_right, pairs, upper_right-lower_left, maslov_by_pairs}
use Rattle.stabilise.specs.Stabilised.{lifted}
use Rattle.stabilise.proofs.PlaceLemmas.{ltb-lifted, ltb-lifted_new, ltb-new_lifted}
use Rattle.stabilise.proofs.NewPlaces.{HasNew, HasSplit, sum_below-lifted}

module _ (n k v : ℕ) (lk : k < suc n) (lv : v < suc n) where
  -- the pairs: the old ones, and those of the new point
  pub pairs-new : (P Q P' Q' : ℕ → ℕ) → HasNew n k v P P' → HasNew n k v Q Q'
      → pairs (suc n) P' Q' ≡ pairs n P Q +ℤ (lower_left n P k v +ℤ upper_right n Q k v)
  pairs-new P Q P' Q' p q =
      let columns = sum_below-lifted n k (λ c. lower_left (suc n) P' c (Q' c)) lk in
      let at_new = of_new in
      let at_old =
      balanced_sum n (λ c. lower_left (suc n) P' (lifted k c) (Q' (lifted k c)))
      (λ c. one_if (not (ltb c k) && not (ltb (Q c) v))) (λ c. lower_left n P c (Q c)) of_old in
      omega (arith, ints)
    where
      of_new : lower_left (suc n) P' k (Q' k) ≡ lower_left n P k v
      of_new =
          sum_below-lifted n k (λ d. one_if (ltb d k && ltb (P' d) (Q' k))) lk
          ∙ ap₂ (λ a b. a +ℤ b)
          (ap (λ b. one_if (b && ltb (P' k) (Q' k))) (le-ltb k k (omega arith)))
          (sum_below_same n _ (λ d. one_if (ltb d k && ltb (P d) v)) (λ d l.
          λ i. one_if (ltb-lifted_new k d i && (ap₂ ltb (p.old d l) q.new ∙ ltb-lifted_new v (P d)) i)))
          ∙ plain (lower_left n P k v)
        where
          plain : (z : ℤ) → pos 0 +ℤ z ≡ z
          plain z = omega (arith, ints)

      of_old : (c : ℕ) → c < n → lower_left (suc n) P' (lifted k c) (Q' (lifted k c))
          ≡ one_if (not (ltb c k) && not (ltb (Q c) v)) +ℤ lower_left n P c (Q c)
      of_old c l =
          sum_below-lifted n k (λ d. one_if (ltb d (lifted k c) && ltb (P' d) (Q' (lifted k c)))) lk
          ∙ ap₂ (λ a b. a +ℤ b)
          (λ i. one_if (ltb-new_lifted k c i && (ap₂ ltb p.new (q.old c l) ∙ ltb-new_lifted v (Q c)) i))
          (sum_below_same n _ (λ d. one_if (ltb d c && ltb (P d) (Q c))) (λ d m.
          λ i. one_if (ltb-lifted k d c i && (ap₂ ltb (p.old d m) (q.old c l) ∙ ltb-lifted v (P d) (Q c)) i)))

  -- the Maslov degree of points by marks: one less, for the column more
  pub maslov_by_pairs-new : (O X O' X' : ℕ → ℕ) → IsOneToOne n O → IsOneToOne n X → HasNew n k v O O'
      → HasNew n k v X X' → maslov_by_pairs (suc n) O' X' +ℤ pos 1 ≡ maslov_by_pairs n O X
  maslov_by_pairs-new O X O' X' oo ox o x =
      let of_points = pairs-new X X X' X' x x in
      let of_marks = pairs-new O O O' O' o o in
      let mixed = pairs-new O X O' X' o x in
      let right_of_points = upper_right-lower_left n X ox k v (omega arith) (omega arith) in
      let right_of_marks = upper_right-lower_left n O oo k v (omega arith) (omega arith) in
      omega (arith, ints)

-- the columns where Q is above P: the old ones, and the new one where it is so
pub count_below-split : (n c k v : ℕ) (P Q P' Q' : ℕ → ℕ) → c < n → k < suc n → (v ≡ Q c) ⊎ (v ≡ Q c + 1) → P c ≢ Q c
    → HasNew n k v P P' → HasSplit n c k v Q Q'
    → count_below (suc n) (λ d. ltb (P' d) (Q' d))
    ≡ one_if (ltb v (lifted v (Q c))) +ℤ count_below n (λ d. ltb (P d) (Q d))
count_below-split n c k v P Q P' Q' lc lk beside apart p q =
    sum_below-lifted n k (λ d. one_if (ltb (P' d) (Q' d))) lk
    ∙ ap₂ (λ a b. a +ℤ b) (ap₂ (λ a b. one_if (ltb a b)) p.new q.new)
    (sum_below_same n _ (λ d. one_if (ltb (P d) (Q d))) (λ d l. ap one_if (elim (cases_eq d c) [
      | inl e ↦
          ap₂ ltb (ap (λ t. P' (lifted k t)) e ∙ p.old c lc) (ap (λ t. Q' (lifted k t)) e ∙ q.at)
          ∙ ltb-lifted_new v (P c) ∙ below_either ∙ sym (ap₂ ltb (ap P e) (ap Q e))
      | inr r ↦ ap₂ ltb (p.old d l) (q.old d l r) ∙ ltb-lifted v (P d) (Q d)
    ])))
  where
    below_either : ltb (P c) v ≡ ltb (P c) (Q c)
    below_either = elim beside [ inl e ↦ ap (ltb (P c)) e | inr e ↦ ap (ltb (P c)) e ∙ next (P c) (Q c) apart ]
      where
        next : (a b : ℕ) → a ≢ b → ltb a (b + 1) ≡ ltb a b
        next a b r = grind arith
