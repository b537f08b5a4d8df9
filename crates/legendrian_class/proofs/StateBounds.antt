-- x+ bounds in a grid exactly if it bounds in the turned grid and in the exchanged grid, and so does x-.
use Rattle.std.proofs.Common.{◌≡◌, ◌↔◌, ℕ, ◌<◌, true, List, subst}
use Rattle.state_rank.specs.Bijection.{IsBijection}
use Rattle.torus_geom.specs.Border.{Bounds, border}
use Rattle.torus_geom.specs.Chains.{nothing, single}
use Rattle.torus_geom.proofs.Chains.CodesLemmas.{IsChain-single, IsChain-states_of}
use Rattle.torus_geom.specs.Codes.{states_of}
use Rattle.legendrian_class.specs.Followed.{after_commutation}
use Rattle.legendrian_class.specs.FollowedCodes.{FollowedCodes, followed_of}
use Rattle.front_data.proofs.FrontLemmas.{border-minus_state, border-plus_state}
use Rattle.pentagon_map.proofs.States.StateImages.{image-minus_state, image-plus_state}
use Rattle.pentagon_map.specs.Pentagon.{image}
use Rattle.pentagon_map.specs.declared.Corner.{Corner}
use Rattle.pentagon_map.specs.declared.Corner.TheVariants.{Over, Under}
use Rattle.hexagon_map.proofs.WayBack.SameHomology.{Bounds-image}
use Rattle.torus_geom.specs.Front.{minus_state, plus_state}
use Rattle.torus_geom.specs.Marks.{IsGrid, Marks, size}
use Rattle.grid_moves.specs.Moves.{are_commuting, swapped, turned}
use Rattle.grid_moves.specs.declared.commutations.Axis.{Axis}
use Rattle.grid_moves.specs.declared.turns.Side.{Side}
use Rattle.grid_moves.proofs.Turned.TurnLemmas.{IsGrid-turned}
use Rattle.pentagon_map.proofs.FrontStates.PlusState.{IsBijection-plus_state}
use Rattle.legendrian_class.proofs.StateVerdicts.{states_bound_alike}
use Rattle.legendrian_class.proofs.TurnedBounds.{minus_bounds_turned, plus_bounds_turned}

module _ (side : Side) (g : Marks) (s : IsGrid g) where
  pub plus_state_bounds_turned : Bounds g (single (plus_state g))
      ↔ Bounds (turned side g) (single (plus_state (turned side g)))
  plus_state_bounds_turned =
      let h = turned side g in
      states_bound_alike g h (plus_state g) (plus_state h) (IsBijection-plus_state g s)
      (IsBijection-plus_state h (IsGrid-turned side g s)) (plus_bounds_turned side g s)

  pub minus_state_bounds_turned : Bounds g (single (minus_state g))
      ↔ Bounds (turned side g) (single (minus_state (turned side g)))
  minus_state_bounds_turned =
      let h = turned side g in
      states_bound_alike g h (minus_state g) (minus_state h) s.x (IsGrid-turned side g s).x
      (minus_bounds_turned side g s)

-- Across a commutation both follow from what holds of every cycle.
module _ (axis : Axis) (g : Marks) (s : IsGrid g) (c : ℕ) (l : c < size g)
    (commutes : are_commuting axis g c ≡ true) where
  state_bounds_alike : (corner : Corner) (x y : List ℕ) → IsBijection (size g) x → border g (single x) ≡ nothing
      → image axis g c corner (single x) ≡ single y → Bounds g (single x) ↔ Bounds (swapped axis g c) (single y)
  state_bounds_alike corner x y sx cycle carried =
      subst (λ z. Bounds g (single x) ↔ Bounds (swapped axis g c) z) carried
      (Bounds-image axis g s c l commutes corner (single x) (IsChain-single (size g) x sx) cycle)

  pub plus_state_bounds_alike : Bounds g (single (plus_state g))
      ↔ Bounds (swapped axis g c) (single (plus_state (swapped axis g c)))
  plus_state_bounds_alike =
      state_bounds_alike Over (plus_state g) (plus_state (swapped axis g c)) (IsBijection-plus_state g s)
      (border-plus_state g s) (image-plus_state axis g s c l commutes)

  pub minus_state_bounds_alike : Bounds g (single (minus_state g))
      ↔ Bounds (swapped axis g c) (single (minus_state (swapped axis g c)))
  minus_state_bounds_alike =
      state_bounds_alike Under (minus_state g) (minus_state (swapped axis g c)) s.x (border-minus_state g s)
      (image-minus_state axis g s c l commutes)

-- a cycle that is followed
pub followed_bounds_alike : (axis : Axis) (p : FollowedCodes) → IsGrid p.grid → (c : ℕ) → c < size p.grid
    → are_commuting axis p.grid c ≡ true → (corner : Corner)
    → border p.grid (followed_of p).chain ≡ nothing
    → Bounds p.grid (followed_of p).chain
    ↔ Bounds (swapped axis p.grid c) (after_commutation axis c corner (followed_of p)).chain
followed_bounds_alike axis p s c l commutes corner cycle =
    Bounds-image axis p.grid s c l commutes corner (states_of (size p.grid) p.chain)
    (IsChain-states_of (size p.grid) p.chain) cycle
