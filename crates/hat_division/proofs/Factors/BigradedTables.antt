-- Tables by bidegree are tables of the general kind too: the product by the k-th power of 1 + q^-1 t^-1, which is told
-- by binomial coefficients, is the product by k factors. So their law of one quotient is the general one.
use Rattle.std.proofs.Common.{◌≡◌, ◌↔◌, ◌⊎◌, ℕ, zero, suc, ◌+◌, ◌*◌, ◌<◌, ℤ, pos, ◌+ℤ◌, true, false, List, inl, inr, refl, sym, ap, ◌∙◌, arith}
use Rattle.std.specs.Prelude.{◌-ℤ◌}
use Rattle.std.specs.Ordering.{int_eq}
use Rattle.std.proofs.lemmas.Bool.{cases_Bool}
use Rattle.std.proofs.lemmas.Bool.Decides.{Decides-int_eq}
use Rattle.std.proofs.lemmas.Int.{ints}
use Rattle.f2_algebra.specs.Bigraded.{stands_before}
use Rattle.f2_algebra.proofs.Ranks.OrderLemmas.{same_bidegree, same_bidegree-is, stands_before-transitive}
use Rattle.hat_division.specs.Product.{rank_at, binomial, sum_first, product_rank, IsQuotient}
use Rattle.hat_division.specs.Inner.Products.{ArePositive}
use Rattle.hat_division.specs.declared.tables.TableRow.{TableRow}
use Rattle.hat_division.proofs.SumLemmas.{sum_first-suc, sum_first-zero, binomial-none}
use Rattle.hat_division.specs.Factors.{times_one, times_all, copies}
use Rattle.hat_division.proofs.Factors.FactorLemmas.{IsStepUp, AreStepsUp, one_up_down, one_down_up}
use Rattle.hat_division.proofs.Factors.TableShapes.{TableShape, ranks_of, ranks_of-sum}
use Rattle.hat_division.proofs.Factors.FactorQuotients.{IsQuotientOf, one_quotient, decide_quotient}

-- ---- the shape
pub before-itself : (p : ℤ × ℤ) → stands_before p p ≡ false
before-itself p = grind (arith, ints)

pub before-or : (p q : ℤ × ℤ) → (stands_before p q ≡ true) ⊎ ((stands_before q p ≡ true) ⊎ (p ≡ q))
before-or p q = elim (cases_Bool (stands_before p q)) [
  | inl h ↦ inl h
  | inr h ↦ elim (cases_Bool (stands_before q p)) [
    | inl k ↦ inr (inl k)
    | inr k ↦
        let e : p.0 ≡ q.0 = (Decides-int_eq p.0 q.0).0 (first p q h k) in
        let f : p.1 ≡ q.1 = (Decides-int_eq p.1 q.1).0 (second p q h k) in
        inr (inr (λ i. (e i, f i)))
  ]
]
  where
    first : (p q : ℤ × ℤ) → stands_before p q ≡ false → stands_before q p ≡ false → int_eq p.0 q.0 ≡ true
    first p q h k = grind (arith, ints)

    second : (p q : ℤ × ℤ) → stands_before p q ≡ false → stands_before q p ≡ false → int_eq p.1 q.1 ≡ true
    second p q h k = grind (arith, ints)

abbrev pub bigraded_shape : TableShape TableRow (ℤ × ℤ)
bigraded_shape = record {
  key = λ row. (row.m, row.a);
  rank = λ row. row.rank;
  make = λ k n. record { m = k.0; a = k.1; rank = n };
  key_made = λ k n. refl;
  rank_made = λ k n. refl;
  made = λ row. refl;
  same = same_bidegree;
  same_is = same_bidegree-is;
  before = stands_before;
  before_itself = before-itself;
  before_later = stands_before-transitive;
  before_or = before-or;
  height = λ k. k.0;
}

abbrev pub bidegree_up : ℤ × ℤ → ℤ × ℤ
bidegree_up k = (k.0 +ℤ pos 1, k.1 +ℤ pos 1)

abbrev pub bidegree_up_IsStepUp : IsStepUp (λ (k : ℤ × ℤ). k.0) bidegree_up
bidegree_up_IsStepUp = record {
  raises = λ k. refl;
  down = λ k. (k.0 -ℤ pos 1, k.1 -ℤ pos 1);
  back = λ k. λ j. (one_up_down k.0 j, one_up_down k.1 j);
  forth = λ k. λ j. (one_down_up k.0 j, one_down_up k.1 j);
}

pub copies_AreStepsUp : (e : ℕ) → AreStepsUp (λ (k : ℤ × ℤ). k.0) (copies e bidegree_up)
copies_AreStepsUp zero = tt
copies_AreStepsUp (suc e) = (bidegree_up_IsStepUp, copies_AreStepsUp e)

-- ---- the k-th power is k factors
pascal : (n i : ℕ) → binomial (suc n) (suc i) ≡ binomial n i + binomial n (suc i)
unfolding binomial
pascal n i = refl

binomial-above : (n i : ℕ) → n < i → binomial n i ≡ 0
unfolding binomial
binomial-above n zero l = absurd (omega arith)
binomial-above zero (suc i) l = refl
binomial-above (suc n) (suc i) l =
    let here = binomial-above n i (omega arith) in
    let next = binomial-above n (suc i) (omega arith) in
    pascal n i ∙ (λ j. here j + next j)

none_times : (x : ℕ) → 0 * x ≡ 0
none_times x = omega arith

distribute : (a b c : ℕ) → a * (b + c) ≡ a * b + a * c
distribute a b c = omega arith

-- the coefficients of one power more, by Pascal's rule
sum-pascal : (k n : ℕ) (f : ℕ → ℕ)
    → sum_first (suc n) (λ i. binomial (suc k) i * f i)
    ≡ sum_first (suc n) (λ i. binomial k i * f i) + sum_first n (λ i. binomial k i * f (suc i))
sum-pascal k zero f =
    let left = sum_first-suc 0 (λ i. binomial (suc k) i * f i) in
    let right = sum_first-suc 0 (λ i. binomial k i * f i) in
    let none_left = sum_first-zero (λ i. binomial (suc k) i * f i) in
    let none_right = sum_first-zero (λ i. binomial k i * f i) in
    let none = sum_first-zero (λ i. binomial k i * f (suc i)) in
    let same : binomial (suc k) 0 * f 0 ≡ binomial k 0 * f 0 =
    ap (λ b. b * f 0) (binomial-none (suc k) ∙ sym (binomial-none k)) in
    omega arith
sum-pascal k (suc n) f =
    let left = sum_first-suc (suc n) (λ i. binomial (suc k) i * f i) in
    let right = sum_first-suc (suc n) (λ i. binomial k i * f i) in
    let last = sum_first-suc n (λ i. binomial k i * f (suc i)) in
    let before = sum-pascal k n f in
    let term : binomial (suc k) (suc n) * f (suc n)
    ≡ binomial k n * f (suc n) + binomial k (suc n) * f (suc n) =
    ap (λ b. b * f (suc n)) (pascal k n) ∙ spread (binomial k n) (binomial k (suc n)) (f (suc n)) in
    omega arith
  where
    spread : (a b c : ℕ) → (a + b) * c ≡ a * c + b * c
    spread a b c = omega arith

-- the sum of sums
sum_first-add : (n : ℕ) (f g : ℕ → ℕ) → sum_first n (λ i. f i + g i) ≡ sum_first n f + sum_first n g
sum_first-add zero f g =
    let a = sum_first-zero (λ i. f i + g i) in let b = sum_first-zero f in let c = sum_first-zero g in omega arith
sum_first-add (suc n) f g =
    let a = sum_first-suc n (λ i. f i + g i) in
    let b = sum_first-suc n f in
    let c = sum_first-suc n g in
    let before = sum_first-add n f g in
    omega arith

sum_first-same : (n : ℕ) (f g : ℕ → ℕ) → ((i : ℕ) → f i ≡ g i) → sum_first n f ≡ sum_first n g
sum_first-same n f g h = λ j. sum_first n (λ i. h i j)

plus_none : (z : ℤ) → z +ℤ pos 0 ≡ z
plus_none z = omega (arith, ints)

plus_more : (z : ℤ) (i : ℕ) → (z +ℤ pos i) +ℤ pos 1 ≡ z +ℤ pos (suc i)
plus_more z i = omega (arith, ints)

pub times_all-power : (k : ℕ) (r : ℤ × ℤ → ℕ) (m a : ℤ)
    → times_all (copies k bidegree_up) r (m, a)
    ≡ sum_first (suc k) (λ i. binomial k i * r (m +ℤ pos i, a +ℤ pos i))
times_all-power zero r m a =
    let one = sum_first-suc 0 (λ i. binomial 0 i * r (m +ℤ pos i, a +ℤ pos i)) in
    let none = sum_first-zero (λ i. binomial 0 i * r (m +ℤ pos i, a +ℤ pos i)) in
    let at : r (m +ℤ pos 0, a +ℤ pos 0) ≡ r (m, a) = λ j. r (plus_none m j, plus_none a j) in
    let coefficient = ap (λ b. b * r (m +ℤ pos 0, a +ℤ pos 0)) (binomial-none 0) in
    omega arith
times_all-power (suc k) r m a =
    let f : ℕ → ℕ = λ i. r (m +ℤ pos i, a +ℤ pos i) in
    let before = times_all-power k (times_one bidegree_up r) m a in
    let spread = sum_first-same (suc k)
    (λ i. binomial k i * (r (m +ℤ pos i, a +ℤ pos i) + r ((m +ℤ pos i) +ℤ pos 1, (a +ℤ pos i) +ℤ pos 1)))
    (λ i. binomial k i * f i + binomial k i * f (suc i))
    (λ i. distribute (binomial k i) (r (m +ℤ pos i, a +ℤ pos i)) (r ((m +ℤ pos i) +ℤ pos 1, (a +ℤ pos i) +ℤ pos 1))
    ∙ (λ j. binomial k i * f i + binomial k i * r (plus_more m i j, plus_more a i j))) in
    let added = sum_first-add (suc k) (λ i. binomial k i * f i) (λ i. binomial k i * f (suc i)) in
    let rule = sum-pascal k (suc k) f in
    let last = sum_first-suc (suc k) (λ i. binomial k i * f i) in
    let gone : binomial k (suc k) * f (suc k) ≡ 0 = ap (λ b. b * f (suc k)) (binomial-above k (suc k) (omega arith))
    ∙ none_times (f (suc k)) in
    omega arith

-- ---- quotients
pub rank_at-ranks_of : (rows : List TableRow) (m a : ℤ) → rank_at rows m a ≡ ranks_of bigraded_shape rows (m, a)
unfolding rank_at
rank_at-ranks_of rows m a = sym (ranks_of-sum bigraded_shape rows (m, a))

product_rank-times_all : (k : ℕ) (q : List TableRow) (m a : ℤ)
    → product_rank k q m a ≡ times_all (copies k bidegree_up) (ranks_of bigraded_shape q) (m, a)
unfolding product_rank
product_rank-times_all k q m a =
    (λ j. sum_first (suc k) (λ i. binomial k i * rank_at-ranks_of q (m +ℤ pos i) (a +ℤ pos i) j))
    ∙ sym (times_all-power k (ranks_of bigraded_shape q) m a)

-- what it is to be a quotient, in both words
pub quotient-is : (k : ℕ) (rows q : List TableRow)
    → IsQuotient k rows q ↔ IsQuotientOf bigraded_shape (copies k bidegree_up) rows q
quotient-is k rows q = (
  λ h. record {
    positive = record { ordered = h.ordered; positive = h.positive };
    product = λ d. sym (rank_at-ranks_of rows d.0 d.1) ∙ h.product d.0 d.1 ∙ product_rank-times_all k q d.0 d.1;
  },
  λ h. record {
    ordered = h.positive.ordered;
    positive = h.positive.positive;
    product = λ m a.
        rank_at-ranks_of rows m a ∙ h.product (m, a) ∙ sym (product_rank-times_all k q m a);
  },
)

-- a table has at most one quotient
pub one_bigraded_quotient : (k : ℕ) (rows p q : List TableRow) → IsQuotient k rows p → IsQuotient k rows q → p ≡ q
one_bigraded_quotient k rows p q hp hq =
    one_quotient bigraded_shape (copies k bidegree_up) (copies_AreStepsUp k) rows p q ((quotient-is k rows p).0 hp)
    ((quotient-is k rows q).0 hq)

-- it has one or has none
pub has_quotient : (k : ℕ) (rows : List TableRow) → ArePositive rows
    → ((q : List TableRow) × IsQuotient k rows q) ⊎ ((q : List TableRow) → IsQuotient k rows q → ⊥)
has_quotient k rows positive =
    elim (decide_quotient bigraded_shape (copies k bidegree_up) (copies_AreStepsUp k) rows
    (record { ordered = positive.ordered; positive = positive.positive })) [
      | inl (q, is) ↦ inl (q, (quotient-is k rows q).1 is)
      | inr none ↦ inr (λ q h. none q ((quotient-is k rows q).0 h))
    ]
