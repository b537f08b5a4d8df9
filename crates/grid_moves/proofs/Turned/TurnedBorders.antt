-- A turn carries the border of a chain to the border of the turned chain.
use Rattle.std.proofs.Common.{List, ap, refl, subst, sym, ℕ, ◌<◌, ◌∙◌, ◌≡◌}
use Rattle.f2_algebra.specs.Chain.{Chain, holds, is_odd, sum_over}
use Rattle.state_rank.specs.Bijection.{IsBijection}
use Rattle.state_rank.specs.States.{factorial, rank, unrank}
use Rattle.std.specs.List.{filter}
use Rattle.std.proofs.Common.{length}
use Rattle.torus_geom.proofs.Circles.RectangleLemmas.{border_of_state-nil}
use Rattle.torus_geom.specs.Inner.CodeBorder.{border, border_of_state}
use Rattle.torus_geom.specs.Border.{is_step}
use Rattle.torus_geom.specs.Marks.{IsGrid, Marks, size}
use Rattle.torus_geom.specs.Rectangle.{rectangles}
use Rattle.grid_moves.proofs.Turned.CarriedChains.{IsOfStates, sum_over-carried}
use Rattle.torus_geom.proofs.Chains.StateChains.{holds-states_where, states_where-below}
use Rattle.grid_moves.proofs.Turned.TurnLemmas.{length-turned_rows}
use Rattle.grid_moves.proofs.Turned.TurnedStates.{IsBijection-turned_state, opposite, turned_AreInverse}
use Rattle.grid_moves.proofs.Turned.TurnedSteps.{odd_steps-turned}
use Rattle.grid_moves.specs.Inner.CodeCarried.{turned_chain}
use Rattle.grid_moves.specs.Carried.{turned_state}
use Rattle.grid_moves.specs.Moves.{turned}
use Rattle.grid_moves.specs.declared.turns.Side.{Side}

-- the border of a state has indices of states, and the empty list has none
pub border_IsOfStates : (h : Marks) (n : ℕ) → size h ≡ n → IsOfStates n (border_of_state h)
unfolding border_of_state
border_IsOfStates h n e = record {
  of_nil = border_of_state-nil h;
  below = λ x c sx k. subst (λ m. c < factorial m) e
      (states_where-below (size h) (λ y. is_odd (length (filter (is_step h x y) (rectangles (size h))))) c k);
}

-- what the border of a state holds
holds-border : (h : Marks) (n : ℕ) → size h ≡ n → (x y : List ℕ) → IsBijection n y
    → holds (border_of_state h x) (rank y) ≡ is_odd (length (filter (is_step h x y) (rectangles (size h))))
unfolding border_of_state
holds-border h n e x y sy =
    holds-states_where (size h) (λ z. is_odd (length (filter (is_step h x z) (rectangles (size h))))) y
    (subst (λ m. IsBijection m y) (sym e) sy)

module _ (side : Side) (g : Marks) (s : IsGrid g) where
  size_is : size (turned side g) ≡ size g
  size_is = length-turned_rows side (size g) g.o

  steps : (x y : List ℕ) → IsBijection (size g) x → IsBijection (size g) y
      → holds (border_of_state (turned side g) (turned_state side x)) (rank (turned_state side y))
      ≡ holds (border_of_state g x) (rank y)
  steps x y sx sy =
      holds-border (turned side g) (size g) size_is (turned_state side x) (turned_state side y)
      (IsBijection-turned_state side (size g) y sy)
      ∙ odd_steps-turned side g s x y sx sy
      ∙ sym (holds-border g (size g) refl x y sy)

  -- A turn carries the border of a chain to the border of the turned chain.
  pub border-turned : (z : Chain)
      → border (turned side g) (turned_chain side (size g) z) ≡ turned_chain side (size g) (border g z)
  unfolding border
  border-turned z =
      ap (λ m. sum_over (turned_chain side (size g) z) (λ code. border_of_state (turned side g) (unrank m code)))
      size_is
      ∙ sum_over-carried (size g) (turned_state side) (turned_state (opposite side)) (turned_AreInverse side (size g))
      (border_of_state g) (border_of_state (turned side g))
      (border_IsOfStates g (size g) refl) (border_IsOfStates (turned side g) (size g) size_is) steps z
