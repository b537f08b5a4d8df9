-- Cyclic ranges of circles, columns or rows of a grid of size n: after n - 1 comes 0.
--     one_up n i          the circle after i
--     one_down n i        the circle before i
--     offset n a i        how many steps up it is from a to i
--     in_range n a b i    i is met on the way up from a, a included, before b
--     is_inside n a b i   the same without a
use Rattle.std.specs.Prelude.{ℕ, ◌+◌, ◌-◌, ◌%◌, Bool, ◌&&◌, not, ◌==◌, nat_lt}

-- (i + 1) mod n, for i below n
abbrev pub one_up : ℕ → ℕ → ℕ
one_up n i = (i + 1) % n

-- (i - 1) mod n, for i below n
abbrev pub one_down : ℕ → ℕ → ℕ
one_down n i = (i + (n - 1)) % n

-- (i - a) mod n, for a and i below n
abbrev pub offset : ℕ → ℕ → ℕ → ℕ
offset n a i = (i + (n - a)) % n

abbrev pub in_range : ℕ → ℕ → ℕ → ℕ → Bool
in_range n a b i = nat_lt (offset n a i) (offset n a b)

abbrev pub is_inside : ℕ → ℕ → ℕ → ℕ → Bool
is_inside n a b i = in_range n a b i && not (i == a)
