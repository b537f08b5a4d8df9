-- Sums of numbers, and binomial coefficients.
use Rattle.std.proofs.Common.{◌≡◌, ℕ, zero, suc, ◌+◌, ◌*◌, ◌^◌, ◌<◌, ◌≤◌, refl, ap, ◌∙◌, inl, inr, arith}
use Rattle.std.proofs.lemmas.Bool.{cases_eq, cases_lt}
use Rattle.std.proofs.Math.Nat.{pow-suc}
use Rattle.hat_division.specs.Product.{sum_first, binomial}

-- ---- sums
-- one more term
pub sum_first-suc : (n : ℕ) (f : ℕ → ℕ) → sum_first (suc n) f ≡ sum_first n f + f n
unfolding sum_first
sum_first-suc n f = refl

-- the sum of no terms
pub sum_first-zero : (f : ℕ → ℕ) → sum_first 0 f ≡ 0
unfolding sum_first
sum_first-zero f = refl

-- a sum of larger terms is larger
pub sum_first-le : (n : ℕ) (f g : ℕ → ℕ) → ((i : ℕ) → i < n → f i ≤ g i) → sum_first n f ≤ sum_first n g
sum_first-le zero f g h = omega (arith, sum_first-zero f, sum_first-zero g)
sum_first-le (suc n) f g h =
    omega (
      arith,
      sum_first-suc n f,
      sum_first-suc n g,
      sum_first-le n f g (λ i l. h i (omega arith)),
      h n (omega arith),
    )

-- a term is at most the sum
pub term-le : (n i : ℕ) (f : ℕ → ℕ) → i < n → f i ≤ sum_first n f
term-le zero i f l = absurd (omega arith)
term-le (suc n) i f l = elim (cases_eq i n) [
  | inl e ↦ let same = ap f e in omega (arith, sum_first-suc n f)
  | inr p ↦ omega (arith, sum_first-suc n f, term-le n i f (omega arith))
]

-- a sum above 0 has a term above 0
pub term-found : (n : ℕ) (f : ℕ → ℕ) → 0 < sum_first n f → (i : ℕ) × (i < n) × (0 < f i)
term-found zero f h = absurd (omega (arith, sum_first-zero f))
term-found (suc n) f h = elim (cases_lt 0 (f n)) [
  | inl l ↦ (n, omega arith, l)
  | inr l ↦ let t = term-found n f (omega (arith, sum_first-suc n f)) in let below = t.1 in (t.0, omega arith, t.2)
]

-- multiples
pub sum_first-scaled : (n b : ℕ) (f : ℕ → ℕ) → sum_first n (λ i. f i * b) ≡ sum_first n f * b
sum_first-scaled zero b f = omega (arith, sum_first-zero (λ i. f i * b), ap (λ s. s * b) (sum_first-zero f))
sum_first-scaled (suc n) b f =
    omega (arith, sum_first-suc n (λ i. f i * b), sum_first-scaled n b f, ap (λ s. s * b) (sum_first-suc n f))

-- two sums that differ in the first term alone
pub sum_first-first : (n : ℕ) (f g : ℕ → ℕ) → g 0 ≡ 0 → ((i : ℕ) → f (suc i) ≡ g (suc i))
    → sum_first (suc n) f ≡ f 0 + sum_first (suc n) g
sum_first-first zero f g e h = omega (arith, sum_first-suc 0 f, sum_first-suc 0 g, sum_first-zero f, sum_first-zero g)
sum_first-first (suc n) f g e h =
    omega (arith, sum_first-suc (suc n) f, sum_first-suc (suc n) g, sum_first-first n f g e h, h n)

-- ---- binomial coefficients
pub binomial-none : (n : ℕ) → binomial n 0 ≡ 1
unfolding binomial
binomial-none n = refl

binomial-start : (i : ℕ) → binomial 0 (suc i) ≡ 0
unfolding binomial
binomial-start i = refl

-- Pascal's rule
pascal : (n i : ℕ) → binomial (suc n) (suc i) ≡ binomial n i + binomial n (suc i)
unfolding binomial
pascal n i = refl

-- there is a way to choose i of n if i is at most n
pub binomial-positive : (n i : ℕ) → i ≤ n → 1 ≤ binomial n i
binomial-positive n zero l = omega (arith, binomial-none n)
binomial-positive zero (suc i) l = absurd (omega arith)
binomial-positive (suc n) (suc i) l = omega (arith, pascal n i, binomial-positive n i (omega arith))

-- and none if i is above n
binomial-above : (n i : ℕ) → n < i → binomial n i ≡ 0
binomial-above n zero l = absurd (omega arith)
binomial-above zero (suc i) l = binomial-start i
binomial-above (suc n) (suc i) l =
    omega (arith, pascal n i, binomial-above n i (omega arith), binomial-above n (suc i) (omega arith))

-- the coefficients of one power add up to at most 2^k
sum-pascal : (k n : ℕ)
    → sum_first (suc n) (binomial (suc k)) ≡ sum_first n (binomial k) + sum_first (suc n) (binomial k)
sum-pascal k zero =
    omega (
      arith,
      sum_first-suc 0 (binomial (suc k)),
      sum_first-suc 0 (binomial k),
      sum_first-zero (binomial (suc k)),
      sum_first-zero (binomial k),
      binomial-none k,
      binomial-none (suc k),
    )
sum-pascal k (suc n) =
    omega (
      arith,
      sum_first-suc (suc n) (binomial (suc k)),
      sum_first-suc (suc n) (binomial k),
      sum_first-suc n (binomial k),
      sum-pascal k n,
      pascal k n,
    )

pub sum-binomials : (k n : ℕ) → sum_first n (binomial k) ≤ 2 ^ k
sum-binomials k zero = omega (arith, sum_first-zero (binomial k))
sum-binomials zero (suc zero) =
    omega (arith, sum_first-suc 0 (binomial 0), sum_first-zero (binomial 0), binomial-none 0)
sum-binomials zero (suc (suc n)) =
    omega (arith, sum_first-suc (suc n) (binomial 0), sum-binomials zero (suc n), binomial-start n)
sum-binomials (suc k) (suc n) = omega (arith, sum-pascal k n, sum-binomials k n, sum-binomials k (suc n), pow-suc 2 k)

-- one coefficient is at most their sum
pub binomial-le : (k i : ℕ) → binomial k i ≤ 2 ^ k
binomial-le k i = omega (arith, term-le (suc i) i (binomial k) (omega arith), sum-binomials k (suc i))

-- from one coefficient to the next
pub binomial-next : (n i j : ℕ) → n ≡ i + j → suc i * binomial n (suc i) ≡ j * binomial n i
binomial-next n i zero e = ap (λ b. suc i * b) (binomial-above n (suc i) (omega arith)) ∙ omega arith
binomial-next zero i (suc j) e = absurd (omega arith)
binomial-next (suc n) zero (suc j) e =
    let step = binomial-next n zero j (omega arith) in
    let same = ap (λ b. j * b) (binomial-none n) in
    let last = ap (λ b. suc j * b) (binomial-none (suc n)) in
    omega (arith, pascal n 0, binomial-none n)
binomial-next (suc n) (suc i) (suc j) e =
    let here = binomial-next n i (suc j) (omega arith) in
    let there = binomial-next n (suc i) j (omega arith) in
    let left = ap (λ b. suc (suc i) * b) (pascal n (suc i)) in
    let right = ap (λ b. suc j * b) (pascal n i) in
    omega arith
