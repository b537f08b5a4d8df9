-- The index of a state with two points exchanged is its own and a difference, which is a sum over the columns from the
-- left one of the two on.
--     between p q r               r is above p and below q
--     gain p q first d k rows     what the rows of columns add: a row between p and q adds `first` and the number of
--                                 states of the columns behind it if these are more than k, else d
--     exchange_gain x a b p q     the difference of the indices where the points on a and b, a left of b, have the rows
--                                 p and q, the lower one first
use Rattle.std.specs.Prelude.{ℕ, ◌+◌, ◌-◌, Bool, ◌&&◌, nat_lt, if◌then◌else◌, List, [], ◌∷◌, length, drop}
use Rattle.state_rank.specs.States.{factorial}

abbrev pub between : ℕ → ℕ → ℕ → Bool
between p q r = nat_lt p r && nat_lt r q

unfoldable pub gain : ℕ → ℕ → ℕ → ℕ → ℕ → List ℕ → ℕ
gain p q first d k [] = 0
gain p q first d k (r ∷ rows) =
    (if between p q r then (if nat_lt k (length rows) then first + factorial (length rows) else d) else 0)
    + gain p q first d k rows

abbrev pub exchange_gain : List ℕ → ℕ → ℕ → ℕ → ℕ → ℕ
exchange_gain x a b p q =
    factorial (length x - (a + 1))
    + gain p q (factorial (length x - (a + 1))) (factorial (length x - (a + 1)) - factorial (length x - (b + 1)))
    (length x - (b + 1)) (drop (a + 1) x)
