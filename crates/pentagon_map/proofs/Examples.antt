-- The definitions at work on a grid of size four, against images found by hand.
use Rattle.std.proofs.Common.{◌≡◌, ℕ, List, [], ◌∷◌, length, refl}
use Rattle.std.specs.List.{filter}
use Rattle.f2_algebra.specs.Chain.{is_odd}
use Rattle.state_rank.specs.States.{arrangements, states}
use Rattle.torus_geom.specs.Marks.{Marks}
use Rattle.torus_geom.specs.Rectangle.{rectangles}
use Rattle.pentagon_map.specs.Pentagon.{crossing_row, is_pentagon}
use Rattle.pentagon_map.specs.declared.Corner.{Corner}
use Rattle.pentagon_map.specs.declared.Corner.TheVariants.{Over, Under}

-- columns 0 and 1 commute
abbrev example : Marks
example = record { o = 0 ∷ 2 ∷ 1 ∷ 3 ∷ []; x = 1 ∷ 3 ∷ 2 ∷ 0 ∷ [] }

-- the states of the image of x
abbrev states_of_image : Corner → List ℕ → List (List ℕ)
states_of_image corner x =
    filter (λ y. is_odd (length (filter (is_pentagon example 1 (crossing_row example 1 corner) x y) (rectangles 4))))
    (states 4)

crossing-over : crossing_row example 1 Over ≡ 2
crossing-over = refl

crossing-under : crossing_row example 1 Under ≡ 1
crossing-under = refl

over-1203 : states_of_image Over (1 ∷ 2 ∷ 0 ∷ 3 ∷ []) ≡ (1 ∷ 0 ∷ 2 ∷ 3 ∷ []) ∷ []
unfolding states arrangements
over-1203 = refl

over-2031 : states_of_image Over (2 ∷ 0 ∷ 3 ∷ 1 ∷ []) ≡ (0 ∷ 2 ∷ 3 ∷ 1 ∷ []) ∷ (2 ∷ 3 ∷ 0 ∷ 1 ∷ []) ∷ []
unfolding states arrangements
over-2031 = refl

under-1203 : states_of_image Under (1 ∷ 2 ∷ 0 ∷ 3 ∷ []) ≡ (2 ∷ 1 ∷ 0 ∷ 3 ∷ []) ∷ []
unfolding states arrangements
under-1203 = refl
