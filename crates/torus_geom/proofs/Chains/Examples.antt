-- The definitions at work on a small grid: chains of states compute.
use Rattle.std.proofs.Common.{◌≡◌, [], ◌∷◌, refl}
use Rattle.state_rank.specs.States.{arrangements, states}
use Rattle.torus_geom.specs.Border.{border}
use Rattle.torus_geom.specs.Chains.{single, ◌⊕◌, members, reached}
use Rattle.torus_geom.specs.Marks.{Marks}

-- an unknot of size three
abbrev small : Marks
small = record { o = 2 ∷ 1 ∷ 0 ∷ []; x = 1 ∷ 0 ∷ 2 ∷ [] }

-- the border of the state 0 1 2 is the state 1 0 2
border-first : members 3 (border small (single (0 ∷ 1 ∷ 2 ∷ []))) ≡ (1 ∷ 0 ∷ 2 ∷ []) ∷ []
unfolding states arrangements reached
border-first = refl

-- of 0 2 1 and 1 0 2 the sum has both, in lexicographic order
members-sum : members 3 (single (1 ∷ 0 ∷ 2 ∷ []) ⊕ single (0 ∷ 2 ∷ 1 ∷ [])) ≡ (0 ∷ 2 ∷ 1 ∷ []) ∷ (1 ∷ 0 ∷ 2 ∷ []) ∷ []
unfolding states arrangements ◌⊕◌
members-sum = refl
