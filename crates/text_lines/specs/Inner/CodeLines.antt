-- The words of a line over what the code keeps of a chain of states, the set of their indices.
--     set_line word n z      the words of the line of a set: one word, and the states of size n of the set, in
--                            ascending order
use Rattle.std.specs.Prelude.{ℕ, List, ◌∷◌, ◌++◌}
use Rattle.std.specs.List.{flat_map}
use Rattle.f2_algebra.specs.Chain.{Chain, codes as ranks}
use Rattle.state_rank.specs.States.{unrank, state_word}

abbrev pub set_line : List ℕ → ℕ → Chain → List ℕ
set_line word n z = word ++ flat_map (λ s. 32 ∷ state_word (unrank n s)) (ranks z)
