-- Which states a set of codes stands for: the views of the code's values are sets of numbers, in which a state is by
-- its index in the order of all states of its size (`rank` in state_rank).
--     HasIndices n z     the codes of z are indices of states of size n
--     is_state n x       x is a state of size n
--     states_of n z      the states of size n whose indices are in z
use Rattle.std.specs.Prelude.{ℕ, Bool, ◌&&◌, ◌<◌, List}
use Rattle.std.specs.List.{All, list_any}
use Rattle.f2_algebra.specs.Chain.{Chain as Codes, holds, codes}
use Rattle.state_rank.specs.States.{states, rank, factorial}
use Rattle.torus_geom.specs.Chains.{Chain}
use Rattle.torus_geom.specs.Rectangle.{is_same}

abbrev pub HasIndices : ℕ → Codes → Type 0
HasIndices n z = All (λ code. code < factorial n) (codes z)

abbrev pub is_state : ℕ → List ℕ → Bool
is_state n x = list_any (is_same x) (states n)

unfoldable pub states_of : ℕ → Codes → Chain
states_of n z = λ x. is_state n x && holds z (rank x)
