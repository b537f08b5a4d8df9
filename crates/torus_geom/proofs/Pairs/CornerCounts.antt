-- What a rectangle has of a bijection, by four counts of pairs, in any order of its circles.
use Rattle.std.proofs.Common.{◌≡◌, ℕ, ◌+◌, ◌<◌, ◌≤◌, Bool, true, false, not, ◌&&◌, ◌||◌, refl, ap₂, ◌∙◌, ltb, leb, arith, cond}
use Rattle.std.proofs.Math.IntN.{ℤ, pos, ◌+ℤ◌, ◌-ℤ◌}
use Rattle.std.proofs.lemmas.Int.{ints}
use Rattle.std.proofs.lemmas.Bool.{and_from}
use Rattle.f2_algebra.proofs.Chains.Tables.{◌⊻◌}
use Rattle.state_rank.proofs.BijectionLemmas.{IsOneToOne}
use Rattle.torus_geom.specs.Counts.{one_if, sum_below, count_below}
use Rattle.torus_geom.proofs.Circles.BetweenLemmas.{between}
use Rattle.torus_geom.proofs.Sums.SumLemmas.{sum_below-zero, sum_below-add, balanced_sum, balanced_pairs, same_ints, under_test}
use Rattle.torus_geom.proofs.Pairs.PairLemmas.{lower_left, count_below-ltb, count_below-rows, count_below-all}

-- for rows and columns of one way, what is to be added to a count of pairs
abbrev pub seam_term : ℕ → ℕ → ℕ → ℕ → ℕ → ℤ
seam_term n a b j k =
    cond (ltb b a) (pos k -ℤ pos j) (pos 0) +ℤ cond (ltb k j) (pos b -ℤ pos a) (pos 0)
    +ℤ cond (ltb b a && ltb k j) (pos n) (pos 0)

-- the same for circles moved by one
pub seam_term-next : (n a b j k : ℕ) → seam_term n (a + 1) (b + 1) (j + 1) (k + 1) ≡ seam_term n a b j k
seam_term-next n a b j k =
    let s : ltb (b + 1) (a + 1) ≡ ltb b a = grind arith in
    let t : ltb (k + 1) (j + 1) ≡ ltb k j = grind arith in
    let u : pos (k + 1) -ℤ pos (j + 1) ≡ pos k -ℤ pos j = omega (arith, ints) in
    let v : pos (b + 1) -ℤ pos (a + 1) ≡ pos b -ℤ pos a = omega (arith, ints) in
    λ i. cond (s i) (u i) (pos 0) +ℤ cond (t i) (v i) (pos 0) +ℤ cond (s i && t i) (pos n) (pos 0)

-- one order of a and b, by what is left of both
abbrev pub fits : Bool → Bool → Bool → Bool
fits s la lb = (s || (not la || lb)) && (not s || (not lb || la))

pub fits_hold : (a b d : ℕ) → fits (ltb b a) (ltb d a) (ltb d b) ≡ true
fits_hold a b d = grind arith

pub leb-not_ltb : (a d : ℕ) → leb a d ≡ not (ltb d a)
leb-not_ltb a d = grind arith

choice : Bool → ℤ → ℤ → ℤ
choice s u v = cond s (u -ℤ v) (pos 0)

sum_below-difference_if : (n : ℕ) (s : Bool) (f g : ℕ → ℤ)
    → sum_below n (λ t. cond s (f t -ℤ g t) (pos 0)) ≡ cond s (sum_below n f -ℤ sum_below n g) (pos 0)
sum_below-difference_if n true f g = let e = balanced_sum n f (λ t. f t -ℤ g t) g (λ t l. omega (arith, ints)) in
    omega (arith, ints)
sum_below-difference_if n false f g = sum_below-zero n

sum_below-one_if : (n : ℕ) (s : Bool) → sum_below n (λ t. one_if s) ≡ cond s (pos n) (pos 0)
sum_below-one_if n true = count_below-all n
sum_below-one_if n false = sum_below-zero n

-- what there is in a corner set, by counts of pairs
pub count_in_corners : (n : ℕ) (P : ℕ → ℕ) → IsOneToOne n P → (a b j k : ℕ) → a ≤ n → b ≤ n → j ≤ n → k ≤ n
    → count_below n (λ d. between a b d && between j k (P d)) +ℤ (lower_left n P a k +ℤ lower_left n P b j)
    ≡ (lower_left n P a j +ℤ lower_left n P b k) +ℤ seam_term n a b j k
count_in_corners n P one a b j k la lb lj lk =
    let balance = balanced_pairs n inn (λ d. f a k d +ℤ f b j d) (λ d. f a j d +ℤ f b k d) rest each in
    let added = sum_below-add n (f a k) (f b j) in
    let also_added = sum_below-add n (f a j) (f b k) in
    let again_added = sum_below-add n (λ d. rows d +ℤ columns d) (λ d. one_if (ltb b a && ltb k j)) in
    let further_added = sum_below-add n rows columns in
    let difference : sum_below n rows ≡ cond (ltb b a) (pos k -ℤ pos j) (pos 0) =
    sum_below-difference_if n (ltb b a) (λ d. one_if (ltb (P d) k)) (λ d. one_if (ltb (P d) j))
    ∙ ap₂ (λ u v. cond (ltb b a) (u -ℤ v) (pos 0)) (count_below-rows n P one k lk) (count_below-rows n P one j lj) in
    let also_difference : sum_below n columns ≡ cond (ltb k j) (pos b -ℤ pos a) (pos 0) =
    sum_below-difference_if n (ltb k j) (λ d. one_if (ltb d b)) (λ d. one_if (ltb d a))
    ∙ ap₂ (λ u v. cond (ltb k j) (u -ℤ v) (pos 0)) (count_below-ltb n b lb) (count_below-ltb n a la) in
    let constant_part = sum_below-one_if n (ltb b a && ltb k j) in
    omega (arith, ints)
  where
    inn : ℕ → ℤ
    inn d = one_if (between a b d && between j k (P d))

    f : ℕ → ℕ → ℕ → ℤ
    f c r d = one_if (ltb d c && ltb (P d) r)

    rows : ℕ → ℤ
    rows d = cond (ltb b a) (one_if (ltb (P d) k) -ℤ one_if (ltb (P d) j)) (pos 0)

    columns : ℕ → ℤ
    columns d = cond (ltb k j) (one_if (ltb d b) -ℤ one_if (ltb d a)) (pos 0)

    rest : ℕ → ℤ
    rest d = rows d +ℤ columns d +ℤ one_if (ltb b a && ltb k j)

    each : (d : ℕ) → d < n → inn d +ℤ (f a k d +ℤ f b j d) ≡ (f a j d +ℤ f b k d) +ℤ rest d
    each d l =
        (λ i. one_if ((leb-not_ltb a d i ⊻ leb-not_ltb b d i ⊻ ltb b a)
        && (leb-not_ltb j (P d) i ⊻ leb-not_ltb k (P d) i ⊻ ltb k j)) +ℤ (f a k d +ℤ f b j d))
        ∙ under_test _ _ _ (and_from _ _ (fits_hold a b d) (fits_hold j k (P d)))
        (same_ints 6
        (λ pa pb pj pk s t. cond (fits s pa pb && fits t pj pk)
        (one_if ((not pa ⊻ not pb ⊻ s) && (not pj ⊻ not pk ⊻ t)) +ℤ (one_if (pa && pk) +ℤ one_if (pb && pj))) (pos 0))
        (λ pa pb pj pk s t. cond (fits s pa pb && fits t pj pk)
        ((one_if (pa && pj) +ℤ one_if (pb && pk))
        +ℤ (cond s (one_if pk -ℤ one_if pj) (pos 0) +ℤ cond t (one_if pb -ℤ one_if pa) (pos 0) +ℤ one_if (s && t)))
        (pos 0))
        refl (ltb d a) (ltb d b) (ltb (P d) j) (ltb (P d) k) (ltb b a) (ltb k j))
