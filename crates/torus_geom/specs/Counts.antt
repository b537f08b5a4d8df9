-- Sums and counts over the numbers below n, as integers.
--     one_if b             1 if b is true, else 0
--     sum_below n f        the sum of f i over the numbers i below n
--     count_below n test   how many numbers below n pass the test
--     all_below n test     each number below n passes the test
use Rattle.std.specs.Prelude.{ℕ, zero, suc, Bool, true, ◌&&◌, ℤ, pos, ◌+ℤ◌, if◌then◌else◌}

abbrev pub one_if : Bool → ℤ
one_if b = if b then pos 1 else pos 0

-- the sum of f over the numbers below n
abbrev pub sum_below : ℕ → (ℕ → ℤ) → ℤ
sum_below zero f = pos 0
sum_below (suc n) f = f n +ℤ sum_below n f

-- how many numbers below n pass the test
abbrev pub count_below : ℕ → (ℕ → Bool) → ℤ
count_below n test = sum_below n (λ i. one_if (test i))

-- whether each number below n passes the test
abbrev pub all_below : ℕ → (ℕ → Bool) → Bool
all_below zero test = true
all_below (suc n) test = test n && all_below n test
