-- The states of the upper right and of the lower left corners of the X: a turn by half exchanges the two.
use Rattle.std.proofs.Common.{◌≡◌, ℕ, zero, suc, ◌<◌, slice_index, ap, ◌∙◌, sym, arith, inl, inr}
use Rattle.std.proofs.lemmas.Bool.{cases_eq}
use Rattle.state_rank.proofs.BijectionLemmas.{same_list}
use Rattle.torus_geom.specs.Marks.{Marks, size, IsGrid}
use Rattle.torus_geom.specs.Range.{one_up, one_down}
use Rattle.torus_geom.specs.Front.{plus_state, minus_state}
use Rattle.torus_geom.proofs.Circles.TurnLemmas.{one_up-below, one_up-last, one_up-one_down, one_down_below}
use Rattle.grid_symmetry.specs.Symmetries.{opposite, half_turned, half_turned_state}
use Rattle.grid_symmetry.proofs.Opposites.{from_right, opposite_below, opposite-zero, opposite-positive, opposite-one_up}
use Rattle.pentagon_map.proofs.FrontStates.PlusState.{length-plus_state, plus_state-at}
use Rattle.grid_symmetry.proofs.HalfTurning.{half_turned_rows-at, half_turned_state-at, IsBijection-half_turned_state, half_turned_state-half_turned_state, half_turned-half_turned, size-half_turned, IsGrid-half_turned}

-- one circle up from a column counted from the right is the opposite circle
one_up-from_right : (n r : ℕ) → r < n → one_up n (from_right n r) ≡ opposite n r
one_up-from_right zero r l = absurd (omega arith)
one_up-from_right (suc m) r l = elim (cases_eq r 0) [
  | inl e ↦
      let i : from_right (suc m) r ≡ m = omega arith in
      ap (one_up (suc m)) i ∙ one_up-last m ∙ sym (ap (opposite (suc m)) e ∙ opposite-zero (suc m) (omega arith))
  | inr q ↦ one_up-below m (from_right (suc m) r) (omega arith)
      ∙ sym (opposite-positive (suc m) r (omega arith) l ∙ omega arith)
]

from_right-one_down : (n c : ℕ) → c < n → from_right n (one_down n c) ≡ opposite n c
from_right-one_down zero c l = absurd (omega arith)
from_right-one_down (suc m) c l =
    sym (opposite-one_up m (one_down (suc m) c) (one_down_below (suc m) c l))
    ∙ ap (opposite (suc m)) (one_up-one_down (suc m) c l)

-- A turn by half carries the lower left corners to the upper right ones of the turned grid.
pub minus_state-half_turned : (g : Marks) → IsGrid g → half_turned_state (minus_state g) ≡ plus_state (half_turned g)
minus_state-half_turned g s =
    let n : ℕ = size g in
    same_list n (half_turned_state g.x) (plus_state (half_turned g)) (IsBijection-half_turned_state n g.x s.x).long
    (length-plus_state n (half_turned g) (size-half_turned g)) (λ c l.
    let k = one_down_below n c l in
    let lo = opposite_below n c l in
    half_turned_state-at n g.x s.x c l
    ∙ sym (plus_state-at n (half_turned g) (size-half_turned g) c l
    ∙ ap (one_up n) (half_turned_rows-at n g.x s.x (one_down n c) k
    ∙ ap (λ t. from_right n (slice_index g.x t)) (from_right-one_down n c l))
    ∙ one_up-from_right n (slice_index g.x (opposite n c)) (s.x.small (opposite n c) lo)))

-- And the upper right corners to the lower left ones.
pub plus_state-half_turned : (g : Marks) → IsGrid g → half_turned_state (plus_state g) ≡ minus_state (half_turned g)
plus_state-half_turned g s =
    let h : Marks = half_turned g in
    let sh = IsGrid-half_turned g s in
    ap (λ k. half_turned_state (plus_state k)) (sym (half_turned-half_turned g s))
    ∙ ap half_turned_state (sym (minus_state-half_turned h sh))
    ∙ half_turned_state-half_turned_state (size h) h.x sh.x
