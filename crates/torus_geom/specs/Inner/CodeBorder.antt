-- The border over codes, as the code keeps chains: a state is in a set of codes by its index.
--     states_where n test     the set of the indices of the states of size n that pass the test
--     codes_of n z            the indices of the states of size n in the chain z
--     border_of_state g x     the indices of the states to which an odd number of empty unmarked rectangles lead from x
--     border g z              the sum of the borders of the states whose indices are in z
use Rattle.std.specs.Prelude.{ℕ, Bool, List, length, map}
use Rattle.std.specs.List.{filter}
use Rattle.f2_algebra.specs.Chain.{Chain, of_codes, sum_over, is_odd}
use Rattle.state_rank.specs.States.{states, rank, unrank}
use Rattle.torus_geom.specs.Border.{is_step}
use Rattle.torus_geom.specs.Chains as chains
use Rattle.torus_geom.specs.Marks.{Marks, size}
use Rattle.torus_geom.specs.Rectangle.{rectangles}

abbrev pub states_where : ℕ → (List ℕ → Bool) → Chain
states_where n test = of_codes (map rank (filter test (states n)))

abbrev pub codes_of : ℕ → chains.Chain → Chain
codes_of n z = states_where n z

unfoldable pub border_of_state : Marks → List ℕ → Chain
border_of_state g x = states_where (size g) (λ y. is_odd (length (filter (is_step g x y) (rectangles (size g)))))

unfoldable pub border : Marks → Chain → Chain
border g z = sum_over z (λ code. border_of_state g (unrank (size g) code))
