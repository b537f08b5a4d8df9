-- The definitions at work on small grids, against values found by hand or by another program.
use Rattle.std.proofs.Common.{◌≡◌, [], ◌∷◌, length, map, refl}
use Rattle.std.specs.List.{filter}
use Rattle.std.proofs.Math.IntN.{pos, negsuc}
use Rattle.f2_algebra.specs.Chain.{is_odd}
use Rattle.state_rank.specs.States.{arrangements, states, rank}
use Rattle.torus_geom.specs.Marks.{Marks}
use Rattle.torus_geom.specs.Components.{components}
use Rattle.torus_geom.specs.Rectangle.{rectangles}
use Rattle.torus_geom.specs.Border.{is_step}
use Rattle.torus_geom.specs.Degrees.{maslov, maslov_o, alexander}
use Rattle.torus_geom.specs.Front.{writhe, thurston_bennequin, rotation, plus_state}

abbrev unknot : Marks
unknot = record { o = 1 ∷ 0 ∷ []; x = 0 ∷ 1 ∷ [] }

-- the trefoil of size five
abbrev trefoil : Marks
trefoil = record { o = 0 ∷ 1 ∷ 2 ∷ 3 ∷ 4 ∷ []; x = 2 ∷ 3 ∷ 4 ∷ 0 ∷ 1 ∷ [] }

-- an unknot of size three
abbrev small : Marks
small = record { o = 2 ∷ 1 ∷ 0 ∷ []; x = 1 ∷ 0 ∷ 2 ∷ [] }

-- the Hopf link
abbrev hopf : Marks
hopf = record { o = 0 ∷ 1 ∷ 2 ∷ 3 ∷ []; x = 2 ∷ 3 ∷ 0 ∷ 1 ∷ [] }

trefoil-thurston_bennequin : thurston_bennequin trefoil ≡ pos 1
unfolding thurston_bennequin writhe
trefoil-thurston_bennequin = refl

small-thurston_bennequin : thurston_bennequin small ≡ negsuc 1
unfolding thurston_bennequin writhe
small-thurston_bennequin = refl

small-rotation : rotation small ≡ negsuc 0
unfolding rotation
small-rotation = refl

unknot-thurston_bennequin : thurston_bennequin unknot ≡ negsuc 0
unfolding thurston_bennequin writhe
unknot-thurston_bennequin = refl

hopf-components : components hopf ≡ 2
unfolding components
hopf-components = refl

trefoil-components : components trefoil ≡ 1
unfolding components
trefoil-components = refl

trefoil-plus_state : plus_state trefoil ≡ 2 ∷ 3 ∷ 4 ∷ 0 ∷ 1 ∷ []
trefoil-plus_state = refl

trefoil-maslov : maslov_o trefoil (2 ∷ 3 ∷ 4 ∷ 0 ∷ 1 ∷ []) ≡ pos 2
unfolding maslov
trefoil-maslov = refl

trefoil-alexander : alexander trefoil (2 ∷ 3 ∷ 4 ∷ 0 ∷ 1 ∷ []) ≡ pos 1
unfolding maslov components alexander
trefoil-alexander = refl

-- 012, 021, 102, 120, 201, 210
small-states : states 3
    ≡ (0 ∷ 1 ∷ 2 ∷ []) ∷ (0 ∷ 2 ∷ 1 ∷ []) ∷ (1 ∷ 0 ∷ 2 ∷ []) ∷ (1 ∷ 2 ∷ 0 ∷ []) ∷ (2 ∷ 0 ∷ 1 ∷ []) ∷ (2 ∷ 1 ∷ 0 ∷ [])
    ∷ []
unfolding states arrangements
small-states = refl

small-rank : rank (1 ∷ 2 ∷ 0 ∷ []) ≡ 3
unfolding rank states arrangements
small-rank = refl

small-degrees : map (maslov_o small) (states 3) ≡ negsuc 0 ∷ pos 0 ∷ negsuc 1 ∷ negsuc 0 ∷ negsuc 0 ∷ negsuc 1 ∷ []
unfolding states arrangements maslov
small-degrees = refl

small-alexanders : map (alexander small) (states 3) ≡ negsuc 0 ∷ pos 0 ∷ negsuc 0 ∷ negsuc 0 ∷ negsuc 0 ∷ negsuc 1 ∷ []
unfolding states arrangements maslov components alexander
small-alexanders = refl

-- an odd number of rectangles lead from 012 to 102 alone, and an even number from 021 to each state
small-border : filter (λ y. is_odd (length (filter (is_step small (0 ∷ 1 ∷ 2 ∷ []) y) (rectangles 3)))) (states 3)
    ≡ (1 ∷ 0 ∷ 2 ∷ []) ∷ []
unfolding states arrangements
small-border = refl

small-border-empty : filter (λ y. is_odd (length (filter (is_step small (0 ∷ 2 ∷ 1 ∷ []) y) (rectangles 3)))) (states 3)
    ≡ []
unfolding states arrangements
small-border-empty = refl
