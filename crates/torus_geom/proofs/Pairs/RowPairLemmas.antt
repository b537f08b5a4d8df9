-- Pairs by columns are pairs by rows.
use Rattle.std.proofs.Common.{◌≡◌, ℕ, ◌<◌, ◌&&◌, ap, ◌∙◌, sym, ltb}
use Rattle.std.proofs.Math.IntN.{pos, ◌+ℤ◌, ◌-ℤ◌}
use Rattle.f2_algebra.proofs.Chains.Tables.{and_comm}
use Rattle.state_rank.specs.Bijection.{column_of}
use Rattle.state_rank.proofs.BijectionLemmas.{IsOneToOne, column_of-one_to_one, row-column_of}
use Rattle.torus_geom.specs.Counts.{one_if, sum_below, count_below}
use Rattle.torus_geom.proofs.Sums.SumLemmas.{sum_below_same, sum_below_reindex}
use Rattle.torus_geom.proofs.Pairs.PairLemmas.{pairs, maslov_by_pairs}

-- pairs that agree below n
pub pairs_same : (n : ℕ) (P P' Q Q' : ℕ → ℕ) → ((c : ℕ) → c < n → P c ≡ P' c) → ((c : ℕ) → c < n → Q c ≡ Q' c)
    → pairs n P Q ≡ pairs n P' Q'
pairs_same n P P' Q Q' p q =
    sum_below_same n _ (λ d. count_below n (λ c. ltb c d && ltb (P' c) (Q' d)))
    (λ d l. sum_below_same n _ (λ c. one_if (ltb c d && ltb (P' c) (Q' d)))
    (λ c k. λ i. one_if (ltb c d && ltb (p c k i) (q d l i))))

-- degrees of rows that agree below n
pub maslov_by_pairs_same : (n : ℕ) (o o' x x' : ℕ → ℕ) → ((c : ℕ) → c < n → o c ≡ o' c) → ((c : ℕ) → c < n → x c ≡ x' c)
    → maslov_by_pairs n o x ≡ maslov_by_pairs n o' x'
maslov_by_pairs_same n o o' x x' p q =
    let xx = pairs_same n x x' x x' q q in
    let oo = pairs_same n o o' o o' p p in
    let ox = pairs_same n o o' x x' p q in
    λ i. (xx i +ℤ oo i +ℤ pos 1) -ℤ (ox i +ℤ ox i +ℤ pos n)

-- pairs by the rows of Q and of P
pub pairs_by_rows : (n : ℕ) (P Q : ℕ → ℕ) → IsOneToOne n Q
    → pairs n P Q ≡ sum_below n (λ r. count_below n (λ c. ltb c (column_of n Q r) && ltb (P c) r))
pairs_by_rows n P Q one =
    sym (sum_below_reindex n (column_of n Q) (column_of-one_to_one n Q one)
    (λ d. count_below n (λ c. ltb c d && ltb (P c) (Q d))))
    ∙ sum_below_same n _ (λ r. count_below n (λ c. ltb c (column_of n Q r) && ltb (P c) r))
    (λ r l. ap (λ s. count_below n (λ c. ltb c (column_of n Q r) && ltb (P c) s)) (row-column_of n Q one r l))

-- pairs of the inverse bijections
pub pairs-column_of : (n : ℕ) (P Q : ℕ → ℕ) → IsOneToOne n P → IsOneToOne n Q
    → pairs n P Q ≡ pairs n (column_of n P) (column_of n Q)
pairs-column_of n P Q op oq =
    pairs_by_rows n P Q oq
    ∙ sum_below_same n _ (λ r. count_below n (λ s. ltb s r && ltb (column_of n P s) (column_of n Q r))) (λ r l.
    sym (sum_below_reindex n (column_of n P) (column_of-one_to_one n P op)
    (λ c. one_if (ltb c (column_of n Q r) && ltb (P c) r)))
    ∙ sum_below_same n _ (λ s. one_if (ltb s r && ltb (column_of n P s) (column_of n Q r))) (λ s k.
    ap (λ t. one_if (ltb (column_of n P s) (column_of n Q r) && ltb t r)) (row-column_of n P op s k)
    ∙ ap one_if (and_comm (ltb (column_of n P s) (column_of n Q r)) (ltb s r))))

-- degrees of the inverse bijections
pub maslov_by_pairs-column_of : (n : ℕ) (o x : ℕ → ℕ) → IsOneToOne n o → IsOneToOne n x
    → maslov_by_pairs n o x ≡ maslov_by_pairs n (column_of n o) (column_of n x)
maslov_by_pairs-column_of n o x oo ox =
    let xx = pairs-column_of n x x ox ox in
    let po = pairs-column_of n o o oo oo in
    let mo = pairs-column_of n o x oo ox in
    λ i. (xx i +ℤ po i +ℤ pos 1) -ℤ (mo i +ℤ mo i +ℤ pos n)
