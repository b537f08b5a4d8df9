-- Lines of words, as bytes. One space stands between words, and one line feed ends each line.
--     line words             the words as a line
--     chain_line word n z    one word, and the states of size n in the chain z, in lexicographic order
use Rattle.std.specs.Prelude.{ℕ, List, [], ◌∷◌, ◌++◌}
use Rattle.std.specs.List.{flat_map}
use Rattle.state_rank.specs.States.{state_word}
use Rattle.torus_geom.specs.Chains.{Chain, members}

abbrev pub line : List ℕ → List ℕ
line words = words ++ 10 ∷ []

abbrev pub chain_line : List ℕ → ℕ → Chain → List ℕ
chain_line word n z = word ++ flat_map (λ x. 32 ∷ state_word x) (members n z)
