-- The product of a table and a power of 1 + q^-1 t^-1.
use Rattle.std.proofs.Common.{◌≡◌, ℕ, suc, ◌*◌, ◌^◌, ◌<◌, ◌≤◌, ℤ, pos, ◌+ℤ◌, true, List, length, get_or, All, refl, ap, inl, inr, arith}
use Rattle.std.specs.Prelude.{◌-ℤ◌}
use Rattle.std.proofs.lemmas.Bool.{cases_lt}
use Rattle.std.proofs.lemmas.Int.{ints}
use Rattle.std.proofs.Math.Nat.{mul-le-mul_left, mul-le-mul_right, one-le-mul}
use Rattle.std.proofs.Math.Pow.{pow_mono}
use Rattle.hat_division.specs.Table.{AreOrdered, IsTable}
use Rattle.hat_division.specs.Product.{stands_at, rank_at, binomial, sum_first, product_rank}
use Rattle.hat_division.specs.Inner.Products.{ArePositive}
use Rattle.hat_division.specs.declared.tables.TableRow.{TableRow}
use Rattle.hat_division.proofs.SumLemmas.{sum_first-le, term-le, term-found, sum_first-scaled, sum-binomials, binomial-none, binomial-positive}
use Rattle.hat_division.proofs.RankLemmas.{degrees_of, stands_itself, rank_at-le, row_found, rank_at-row}

-- a term of the product
abbrev pub product_term : ℕ → List TableRow → ℤ → ℤ → ℕ → ℕ
product_term k rows m a i = binomial k i * rank_at rows (m +ℤ pos i) (a +ℤ pos i)

pub product_rank-sum : (k : ℕ) (rows : List TableRow) (m a : ℤ)
    → product_rank k rows m a ≡ sum_first (suc k) (product_term k rows m a)
unfolding product_rank
product_rank-sum k rows m a = refl

plus_none : (z : ℤ) → z +ℤ pos 0 ≡ z
plus_none z = omega (arith, ints)

-- the first term is the rank itself
pub term-first : (k : ℕ) (rows : List TableRow) (m a : ℤ) → product_term k rows m a 0 ≡ rank_at rows m a
term-first k rows m a =
    let place : rank_at rows (m +ℤ pos 0) (a +ℤ pos 0) ≡ rank_at rows m a =
    λ i. rank_at rows (plus_none m i) (plus_none a i) in
    let one = ap (λ b. b * rank_at rows (m +ℤ pos 0) (a +ℤ pos 0)) (binomial-none k) in
    omega arith

-- so the product has at least the rank
pub product_rank-ge : (k : ℕ) (rows : List TableRow) (m a : ℤ) → rank_at rows m a ≤ product_rank k rows m a
product_rank-ge k rows m a =
    omega (
      arith,
      product_rank-sum k rows m a,
      term-first k rows m a,
      term-le (suc k) 0
          (product_term k rows m a) (omega arith),
    )

right_factor : (x y : ℕ) → 0 < x * y → 0 < y
right_factor x y h = elim (cases_lt 0 y) [
  | inl l ↦ l
  | inr l ↦ let none : y ≡ 0 = omega arith in absurd (omega (arith, ap (λ z. x * z) none))
]

-- if the product has a row, the table has one at most k steps up
pub product-found : (k : ℕ) (rows : List TableRow) (m a : ℤ) → 0 < product_rank k rows m a
    → (i : ℕ) × (i ≤ k) × (0 < rank_at rows (m +ℤ pos i) (a +ℤ pos i))
product-found k rows m a h =
    let t = term-found (suc k) (product_term k rows m a) (omega (arith, product_rank-sum k rows m a)) in
    let below = t.1 in
    (t.0, omega arith, right_factor (binomial k t.0) (rank_at rows (m +ℤ pos t.0) (a +ℤ pos t.0)) t.2)

-- and the other way round
pub product-reached : (k : ℕ) (rows : List TableRow) (m a : ℤ) (i : ℕ) → i ≤ k
    → 0 < rank_at rows (m +ℤ pos i) (a +ℤ pos i) → 0 < product_rank k rows m a
product-reached k rows m a i l h =
    let positive : 1 ≤ product_term k rows m a i = one-le-mul (binomial-positive k i l) (omega arith) in
    omega (arith, product_rank-sum k rows m a, term-le (suc k) i (product_term k rows m a) (omega arith))

-- ---- how large the ranks are
-- the rank is at most a bound of all ranks of the rows
pub rank_at-bounded : (rows : List TableRow) (b : ℕ) (m a : ℤ) → AreOrdered rows → All (λ row. row.rank ≤ b) rows
    → rank_at rows m a ≤ b
rank_at-bounded rows b m a ordered h = elim (cases_lt 0 (rank_at rows m a)) [
  | inl l ↦
      let t = row_found rows m a l in
      let d : TableRow = record { m = m; a = a; rank = 0 } in
      omega (arith, rank_at-row rows t.0 d m a ordered t.1 (t.2 d), h t.0 d t.1)
  | inr l ↦ omega arith
]

pub product_rank-le : (k b : ℕ) (rows : List TableRow) (m a : ℤ) → ((m a : ℤ) → rank_at rows m a ≤ b)
    → product_rank k rows m a ≤ 2 ^ k * b
product_rank-le k b rows m a h =
    let terms =
    sum_first-le (suc k) (product_term k rows m a) (λ i. binomial k i * b)
    (λ i l. mul-le-mul_left (binomial k i) (h (m +ℤ pos i) (a +ℤ pos i))) in
    let whole = mul-le-mul_right b (sum-binomials k (suc k)) in
    omega (arith, product_rank-sum k rows m a, sum_first-scaled (suc k) b (binomial k))

-- ranks of a product are within those of tables
pub product_rank-small : (k : ℕ) (rows : List TableRow) (m a : ℤ) → k ≤ 16 → AreOrdered rows
    → All (λ row. row.rank ≤ 2 ^ 32) rows → product_rank k rows m a ≤ 2 ^ 48
product_rank-small k rows m a l ordered h =
    let power : 2 ^ k ≤ 2 ^ 16 = pow_mono l in
    let scaled = mul-le-mul_right (2 ^ 32) power in
    omega (arith, product_rank-le k (2 ^ 32) rows m a (λ m a. rank_at-bounded rows (2 ^ 32) m a ordered h))

-- rows of a table are in order, with ranks above 0
pub ArePositive-table : (rows : List TableRow) → IsTable rows → ArePositive rows
ArePositive-table rows h = record { ordered = h.ordered; positive = λ k d l. (h.ranks k d l).positive }

-- ---- the rows of a product
-- a step down from a row in order: the product has a rank there
pub shifted-positive : (k : ℕ) (rows : List TableRow) (j : ℕ) (d : TableRow) (i : ℕ) → ArePositive rows
    → j < length rows → i ≤ k → 0 < product_rank k rows ((get_or rows j d).m -ℤ pos i) ((get_or rows j d).a -ℤ pos i)
shifted-positive k rows j d i positive l le =
    let row = get_or rows j d in
    let back : rank_at rows ((row.m -ℤ pos i) +ℤ pos i) ((row.a -ℤ pos i) +ℤ pos i) ≡ rank_at rows row.m row.a =
    λ t. rank_at rows (there_and_back row.m i t) (there_and_back row.a i t) in
    product-reached k rows (row.m -ℤ pos i) (row.a -ℤ pos i) i le
    (omega (arith, rank_at-le rows j d row.m row.a l (stands_itself row), positive.positive j d l))
  where
    there_and_back : (z : ℤ) (i : ℕ) → (z -ℤ pos i) +ℤ pos i ≡ z
    there_and_back z i = omega (arith, ints)

-- a row that stands i steps up
steps_up : (row : TableRow) (m a : ℤ) (i : ℕ) → stands_at row (m +ℤ pos i) (a +ℤ pos i) ≡ true
    → (row.m -ℤ pos i ≡ m) × (row.a -ℤ pos i ≡ a)
steps_up row m a i s = let degrees = degrees_of row (m +ℤ pos i) (a +ℤ pos i) s in
    (back row.m m i degrees.0, back row.a a i degrees.1)
  where
    back : (x z : ℤ) (i : ℕ) → x ≡ z +ℤ pos i → x -ℤ pos i ≡ z
    back x z i e = omega (arith, ints)

-- if the product has a row, a step down from a row of the table leads there
pub product-step : (k : ℕ) (rows : List TableRow) (m a : ℤ) → 0 < product_rank k rows m a
    → (i : ℕ) × (i ≤ k) × (j : ℕ) × (j < length rows)
    × ((d : TableRow) → ((get_or rows j d).m -ℤ pos i ≡ m) × ((get_or rows j d).a -ℤ pos i ≡ a))
product-step k rows m a h =
    let t = product-found k rows m a h in
    let r = row_found rows (m +ℤ pos t.0) (a +ℤ pos t.0) t.2 in
    (t.0, t.1, r.0, r.1, λ d. steps_up (get_or rows r.0 d) m a t.0 (r.2 d))
