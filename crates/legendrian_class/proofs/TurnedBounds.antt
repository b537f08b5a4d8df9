-- x+ bounds in a grid exactly if it bounds in the turned grid, and so does x-: both turn with the grid, and so does
-- the border of each chain; and a turn is undone by the turn to the other side.
use Rattle.std.proofs.Common.{List, ap, refl, slice_index, subst, sym, ℕ, ◌∙◌, ◌≡◌, ◌↔◌}
use Rattle.f2_algebra.specs.Chain.{Chain}
use Rattle.state_rank.proofs.BijectionLemmas.{same_list}
use Rattle.state_rank.proofs.Pigeonhole.{onto}
use Rattle.state_rank.specs.Bijection.{IsBijection}
use Rattle.state_rank.specs.States.{rank}
use Rattle.f2_algebra.specs.Chain.{single}
use Rattle.torus_geom.proofs.Circles.TurnLemmas.{one_down_below}
use Rattle.torus_geom.specs.Front.{plus_state}
use Rattle.torus_geom.specs.Marks.{IsGrid, Marks, size}
use Rattle.torus_geom.specs.Range.{one_down, one_up}
use Rattle.grid_moves.proofs.Turned.CarriedChains.{carried-single}
use Rattle.grid_moves.proofs.Turned.Shifts.{IsShift-moved_row, IsShift-target_column}
use Rattle.grid_moves.proofs.Turned.TurnLemmas.{IsGrid-turned, length-turned_rows}
use Rattle.grid_moves.proofs.Turned.TurnedBorders.{border-turned}
use Rattle.grid_moves.proofs.Turned.TurnedStates.{IsBijection-turned_state, opposite, turned_AreInverse, turned_state-back}
use Rattle.grid_moves.proofs.Turned.TurnedSteps.{at_target, state-at_target}
use Rattle.grid_moves.specs.Carried.{target_column, turned_state}
use Rattle.grid_moves.specs.Inner.CodeCarried.{turned_chain}
use Rattle.grid_moves.specs.Moves.{moved_row, turned, turned_rows}
use Rattle.grid_moves.specs.declared.turns.Side.{Side}
use Rattle.pentagon_map.proofs.FrontStates.PlusState.{IsBijection-plus_state, length-plus_state, plus_state-at}
use Rattle.legendrian_class.proofs.FollowedLemmas.{HasIndices-turned}
use Rattle.legendrian_class.specs.Inner.CodeVerdicts.{Bounds, minus_chain, plus_chain}

module _ (side : Side) (g : Marks) (s : IsGrid g) where
  abbrev n : ℕ
  n = size g

  size_is : size (turned side g) ≡ size g
  size_is = length-turned_rows side (size g) g.o

  -- the upper right corners turn with the grid
  plus_state-turned : turned_state side (plus_state g) ≡ plus_state (turned side g)
  plus_state-turned =
      let f : ℕ → ℕ = target_column side n in
      let sf = IsShift-target_column side n in
      let sh = IsShift-moved_row side n in
      let sy = IsBijection-plus_state g s in
      same_list n (turned_state side (plus_state g)) (plus_state (turned side g))
      (IsBijection-turned_state side n (plus_state g) sy).long (length-plus_state n (turned side g) size_is) (λ e le.
      let (d, ld, is) = onto n f sf.one.small sf.one.apart e le in
      let k = one_down_below n d ld in
      ap (slice_index (turned_state side (plus_state g))) (sym is)
      ∙ state-at_target side n (plus_state g) sy d ld
      ∙ ap (moved_row side n) (plus_state-at n g refl d ld)
      ∙ sym (sh.after (slice_index g.x (one_down n d)) (s.x.small (one_down n d) k))
      ∙ ap (one_up n) (sym (at_target side n g.x (one_down n d) k)
      ∙ ap (slice_index (turned_rows side n g.x)) (sym (sf.before d ld)))
      ∙ sym (plus_state-at n (turned side g) size_is (f d) (sf.one.small d ld))
      ∙ ap (slice_index (plus_state (turned side g))) is)

  plus_chain-turned : turned_chain side n (plus_chain g) ≡ plus_chain (turned side g)
  plus_chain-turned =
      carried-single n (turned_state side) (turned_state (opposite side)) (turned_AreInverse side n) (plus_state g)
      (IsBijection-plus_state g s)
      ∙ ap (λ x. single (rank x)) plus_state-turned

  -- and the lower left ones
  minus_chain-turned : turned_chain side n (minus_chain g) ≡ minus_chain (turned side g)
  minus_chain-turned =
      carried-single n (turned_state side) (turned_state (opposite side)) (turned_AreInverse side n) g.x s.x
      ∙ ap (λ m. single (rank (turned_rows side m g.x))) s.x.long

  -- turned back
  turned-back : turned (opposite side) (turned side g) ≡ g
  turned-back =
      let by = λ (m : ℕ) (rows : List ℕ). turned_rows (opposite side) m rows in
      ap (λ m. record { o = by m (turned_rows side n g.o); x = by m (turned_rows side n g.x) }) size_is
      ∙ (λ i. record { o = of_rows g.o s.o i; x = of_rows g.x s.x i })
    where
      of_rows : (rows : List ℕ) → IsBijection (size g) rows
          → turned_rows (opposite side) (size g) (turned_rows side (size g) rows) ≡ rows
      of_rows rows b =
          ap (λ m. turned_rows (opposite side) m (turned_rows side (size g) rows))
          (sym (length-turned_rows side (size g) rows))
          ∙ ap (λ m. turned_state (opposite side) (turned_rows side m rows)) (sym b.long)
          ∙ turned_state-back side (size g) rows b

module _ (class : Marks → Chain)
    (carried : (side : Side) (g : Marks) → IsGrid g
    → turned_chain side (size g) (class g) ≡ class (turned side g)) where
  -- if the class bounds, it bounds in the turned grid
  there : (side : Side) (g : Marks) → IsGrid g → Bounds g (class g) → Bounds (turned side g) (class (turned side g))
  there side g s (b, is) = (
    turned_chain side (size g) b,
    record {
      states = HasIndices-turned side g b is.states;
      is_border = border-turned side g s b ∙ ap (turned_chain side (size g)) is.is_border ∙ carried side g s;
    },
  )

  -- and the other way round
  alike : (side : Side) (g : Marks) → IsGrid g → Bounds g (class g) ↔ Bounds (turned side g) (class (turned side g))
  alike side g s = (
    there side g s,
    λ bounds. subst (λ k. Bounds k (class k)) (turned-back side g s)
        (there (opposite side) (turned side g) (IsGrid-turned side g s) bounds),
  )

pub plus_bounds_turned : (side : Side) (g : Marks) → IsGrid g
    → Bounds g (plus_chain g) ↔ Bounds (turned side g) (plus_chain (turned side g))
plus_bounds_turned = alike plus_chain plus_chain-turned

pub minus_bounds_turned : (side : Side) (g : Marks) → IsGrid g
    → Bounds g (minus_chain g) ↔ Bounds (turned side g) (minus_chain (turned side g))
minus_bounds_turned = alike minus_chain minus_chain-turned
