-- The pentagons of one state, and the order in which the states come out that they lead to.
--     across axis g                  the grid whose columns are exchanged: the grid itself, or for rows the transposed
--                                    one
--     is_pentagon_at g c w x a b     the rectangle from the point of x on circle a up to its point on circle b is a
--                                    pentagon, of the crossing in row w
--     is_odd_circle g c w x b        exactly one of the two rectangles between the circles c and b is a pentagon
--     is_set bits i                  bit i is set
--     picked x a test circles        the exchanges of circle a of x with those of the circles that pass the test
--     lowering, sideways, raising    the exchanges of circle a with circles whose bit is set: with those left of it
--                                    that have a higher row, with those right of it, by rows, and with those left of
--                                    it that have a lower row; each of these states is before the later ones
use Rattle.std.specs.Prelude.{ℕ, Bool, ◌&&◌, ◌||◌, not, ◌==◌, nat_lt, List, ◌++◌, map, slice_index, swap, reverse}
use Rattle.std.specs.Int.{bit_at}
use Rattle.std.specs.List.{filter}
use Rattle.state_rank.specs.Bijection.{ascending}
use Rattle.state_rank.specs.States.{transpose}
use Rattle.torus_geom.specs.Marks.{Marks}
use Rattle.torus_geom.specs.Rectangle.{is_empty}
use Rattle.torus_geom.specs.Transposed.{transposed}
use Rattle.grid_moves.specs.declared.commutations.Axis.{Axis}
use Rattle.grid_moves.specs.declared.commutations.Axis.TheVariants.{Cols, Rows}
use Rattle.rectangles.specs.Inner.Open.{leaving}
use Rattle.pentagon_map.specs.Pentagon.{is_pentagonal}

abbrev pub across : Axis → Marks → Marks
across Cols g = g
across Rows g = transposed g

unfoldable pub is_pentagon_at : Marks → ℕ → ℕ → List ℕ → ℕ → ℕ → Bool
is_pentagon_at g c w x a b = is_empty x (leaving x a b) && is_pentagonal g c w (leaving x a b)

unfoldable pub is_odd_circle : Marks → ℕ → ℕ → List ℕ → ℕ → Bool
is_odd_circle g c w x b =
    not (b == c)
    && ((is_pentagon_at g c w x c b && not (is_pentagon_at g c w x b c))
    || (not (is_pentagon_at g c w x c b) && is_pentagon_at g c w x b c))

abbrev pub is_set : ℕ → ℕ → Bool
is_set bits i = bit_at bits i == 1

abbrev pub picked : List ℕ → ℕ → (ℕ → Bool) → List ℕ → List (List ℕ)
picked x a test circles = map (λ b. swap x a b) (filter test circles)

abbrev pub lowers : List ℕ → ℕ → ℕ → ℕ → Bool
lowers x a odd b = nat_lt (slice_index x a) (slice_index x b) && is_set odd b

abbrev pub is_right_of : ℕ → ℕ → ℕ → Bool
is_right_of a odd b = nat_lt a b && is_set odd b

abbrev pub raises : List ℕ → ℕ → ℕ → ℕ → Bool
raises x a odd b = nat_lt (slice_index x b) (slice_index x a) && is_set odd b

abbrev pub lowering : List ℕ → ℕ → ℕ → List (List ℕ)
lowering x a odd = picked x a (lowers x a odd) (ascending a)

abbrev pub sideways : List ℕ → ℕ → ℕ → List (List ℕ)
sideways x a odd = picked x a (is_right_of a odd) (transpose x)

abbrev pub raising : List ℕ → ℕ → ℕ → List (List ℕ)
raising x a odd = picked x a (raises x a odd) (reverse (ascending a))

abbrev pub in_order : List ℕ → ℕ → ℕ → List (List ℕ)
in_order x a odd = lowering x a odd ++ sideways x a odd ++ raising x a odd
