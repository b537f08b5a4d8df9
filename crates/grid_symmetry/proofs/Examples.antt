-- A worked example: the definitions at a grid of size three and at one of its states.
use Rattle.std.proofs.Common.{◌≡◌, ℕ, List, [], ◌∷◌, refl}
use Rattle.state_rank.specs.States.{transpose}
use Rattle.torus_geom.specs.Marks.{Marks}
use Rattle.torus_geom.specs.Transposed.{transposed}
use Rattle.torus_geom.specs.Components.{components}
use Rattle.grid_symmetry.specs.Symmetries.{reflected, reflected_state, half_turned, half_turned_state, marks_exchanged}

abbrev rows : ℕ → ℕ → ℕ → List ℕ
rows a b c = a ∷ b ∷ c ∷ []

-- the O on the diagonal; in columns 0, 1 and 2 the X is in rows 1, 2 and 0
abbrev unknot : Marks
unknot = record { o = rows 0 1 2; x = rows 1 2 0 }

transposed_unknot : transposed unknot ≡ record { o = rows 0 1 2; x = rows 2 0 1 }
transposed_unknot = refl

reflected_unknot : reflected unknot ≡ record { o = rows 2 1 0; x = rows 0 2 1 }
reflected_unknot = refl

half_turned_unknot : half_turned unknot ≡ record { o = rows 0 1 2; x = rows 2 0 1 }
half_turned_unknot = refl

exchanged_unknot : marks_exchanged unknot ≡ record { o = rows 1 2 0; x = rows 0 1 2 }
exchanged_unknot = refl

-- circle 0 stays, circles 1 and 2 change places
reflected_point : reflected_state (rows 1 2 0) ≡ rows 1 0 2
reflected_point = refl

half_turned_point : half_turned_state (rows 1 2 0) ≡ rows 2 0 1
half_turned_point = refl

transposed_point : transpose (rows 1 2 0) ≡ rows 2 0 1
transposed_point = refl

one_component : components unknot ≡ 1
unfolding components
one_component = refl
