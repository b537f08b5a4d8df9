-- Counts of faults. A source and a sink count the calls that failed, from 0 to 2^64 - 1; at its last
-- value a count stays.
--     count_up n    the count after one more: one more than n, or n if it is the last value
use Rattle.std.specs.Prelude.{ℕ, ◌+◌, ◌-◌, ◌^◌, min}

abbrev pub count_up : ℕ → ℕ
count_up n = min (n + 1) (2 ^ 64 - 1)
