-- Chains of a grid: finite sets of states, as tests of lists. The states of size n are the bijections of 0 to n - 1.
--     Chain              which lists are in the set
--     IsChain n z        only states of size n are in z
--     nothing            the empty chain
--     single x           the chain of the state x alone
--     z ⊕ w              the sum, which is the symmetric difference: the states in exactly one of z and w
--     chain_sums         both, for words that speak of chains of any type
--     members n z        the states of size n in z, in lexicographic order
--     pairs_oddly n z f  z and f share an odd number of states
--     reached n leads z  the states y for which the number of pairs of a state x in z and a rectangle that leads
--                        from x to y is odd
--     carried n f z      the states f x of the states x in z
use Rattle.std.specs.Prelude.{◌≡◌, ℕ, Bool, true, false, ◌&&◌, ◌||◌, not, List, length}
use Rattle.std.specs.List.{filter, flat_map, list_any}
use Rattle.f2_algebra.specs.Chain.{is_odd}
use Rattle.state_rank.specs.Bijection.{IsBijection}
use Rattle.state_rank.specs.States.{states}
use Rattle.torus_geom.specs.Rectangle.{is_same, rectangles}
use Rattle.torus_geom.specs.declared.rects.Rect.{Rect}
use Rattle.f2_algebra.specs.Dimension.{Sums}

infixr 35 ◌⊕◌
abbrev pub Chain : Type 0
Chain = List ℕ → Bool

abbrev pub IsChain : ℕ → Chain → Type 0
IsChain n z = (x : List ℕ) → z x ≡ true → IsBijection n x

abbrev pub nothing : Chain
nothing = λ x. false

abbrev pub single : List ℕ → Chain
single x = λ y. is_same x y

unfoldable pub ◌⊕◌ : Chain → Chain → Chain
z ⊕ w = λ x. (z x && not (w x)) || (w x && not (z x))

abbrev pub chain_sums : Sums Chain
chain_sums = record { nothing = nothing; add = ◌⊕◌ }

abbrev pub members : ℕ → Chain → List (List ℕ)
members n z = filter z (states n)

unfoldable pub pairs_oddly : ℕ → Chain → Chain → Bool
pairs_oddly n z f = is_odd (length (filter f (members n z)))

unfoldable pub reached : ℕ → (List ℕ → List ℕ → Rect → Bool) → Chain → Chain
reached n leads z = λ y. is_odd (length (flat_map (λ x. filter (leads x y) (rectangles n)) (members n z)))

unfoldable pub carried : ℕ → (List ℕ → List ℕ) → Chain → Chain
carried n f z = λ y. list_any (λ x. is_same (f x) y) (members n z)
