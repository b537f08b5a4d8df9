-- Each state of the homotopy of a state has its Maslov degree and one more, and its Alexander degree: of chains of
-- states, and of lists of states whose indices are told.
use Rattle.std.proofs.Common.{◌≡◌, ℕ, ◌<◌, pos, ◌+ℤ◌, true, List, length, map, get_or, subst, All}
use Rattle.f2_algebra.specs.Chain.{codes}
use Rattle.state_rank.specs.Bijection.{IsBijection}
use Rattle.state_rank.specs.States.{IsState, rank}
use Rattle.torus_geom.specs.Chains.{single}
use Rattle.torus_geom.specs.Degrees.{maslov_o, alexander}
use Rattle.torus_geom.specs.Marks.{Marks, IsGrid, size}
use Rattle.grid_moves.specs.Moves.{are_commuting}
use Rattle.grid_moves.specs.declared.commutations.Axis.{Axis}
use Rattle.pentagon_map.proofs.Degrees.KeptDegrees.{listed_holds}
use Rattle.pentagon_map.specs.declared.Corner.{Corner}
use Rattle.hexagon_map.specs.Hexagon.{homotopy}
use Rattle.hexagon_map.specs.Inner.CodeHomotopies.{homotopy_of_state}
use Rattle.hexagon_map.proofs.Degrees.HexagonDegrees.{RaisesDegrees, RaisesDegrees-alexander, homotopy_RaisesDegrees}
use Rattle.hexagon_map.proofs.States.StateHomotopies.{in_homotopy_of_state}

module _ (axis : Axis) (g : Marks) (s : IsGrid g) (c : ℕ) (l : c < size g) (h : are_commuting axis g c ≡ true)
    (corner : Corner) where
  raised : (x y : List ℕ) → IsBijection (size g) x → homotopy axis g c corner (single x) y ≡ true → RaisesDegrees g x y
  raised x y sx held = let (sy, e) = in_homotopy_of_state axis g s c corner x sx y held in
      homotopy_RaisesDegrees axis g s c l h corner x y sx sy e

  pub maslov_o-in_homotopy : (x y : List ℕ) → IsBijection (size g) x → homotopy axis g c corner (single x) y ≡ true
      → maslov_o g y ≡ maslov_o g x +ℤ pos 1
  maslov_o-in_homotopy x y sx held = (raised x y sx held).by_o

  pub alexander-in_homotopy : (x y : List ℕ) → IsBijection (size g) x → homotopy axis g c corner (single x) y ≡ true
      → alexander g y ≡ alexander g x
  alexander-in_homotopy x y sx held = RaisesDegrees-alexander g x y (raised x y sx held)

  -- the same of each of a list of states whose indices are the codes of the homotopy
  module _ (x : List ℕ) (sx : IsBijection (size g) x) (ys : List (List ℕ))
      (listed : map rank ys ≡ codes (homotopy_of_state axis g c corner x))
      (states : All (λ y. IsState y × (length y ≡ size g)) ys) where
    each : (k : ℕ) (d : List ℕ) → k < length ys → RaisesDegrees g x (get_or ys k d)
    each k d lk =
        let (sy, ey) = states k d lk in
        homotopy_RaisesDegrees axis g s c l h corner x (get_or ys k d) sx
        (subst (λ n. IsBijection n (get_or ys k d)) ey sy.bijection)
        (listed_holds (homotopy_of_state axis g c corner x) ys listed k d lk)

    pub maslov_o-listed : All (λ y. maslov_o g y ≡ maslov_o g x +ℤ pos 1) ys
    maslov_o-listed k d lk = (each k d lk).by_o

    pub alexander-listed : All (λ y. alexander g y ≡ alexander g x) ys
    alexander-listed k d lk = RaisesDegrees-alexander g x (get_or ys k d) (each k d lk)
