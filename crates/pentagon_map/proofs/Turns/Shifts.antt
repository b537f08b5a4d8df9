-- Renamings that keep cyclic ranges keep what is met between two numbers on the way up.
use Rattle.std.proofs.Common.{ap, not, sym, ℕ, ◌<◌, ◌∙◌, ◌≡◌}
use Rattle.state_rank.proofs.BijectionLemmas.{IsOneToOne}
use Rattle.rectangles.proofs.Square.CyclicOrder.{between}
use Rattle.rectangles.proofs.Square.RectangleTests.{in_range-between}
use Rattle.rectangles.proofs.Square.TwoSteps.{differ}
use Rattle.grid_moves.proofs.Turned.Shifts.{IsShift, eqb-shift}

pub between-shift : (n : ℕ) (f : ℕ → ℕ) → IsShift n f → (a b t : ℕ) → a < n → b < n → t < n
    → between (f a) (f b) (f t) ≡ between a b t
between-shift n f sf a b t la lb lt =
    sym (in_range-between n (f a) (f b) (f t) (sf.one.small a la) (sf.one.small b lb) (sf.one.small t lt))
    ∙ sf.range a b t la lb lt ∙ in_range-between n a b t la lb lt

-- numbers are different if they are after the renaming
pub differ-shift : (n : ℕ) (f : ℕ → ℕ) → IsOneToOne n f → (a b : ℕ) → a < n → b < n → differ (f a) (f b) ≡ differ a b
differ-shift n f one a b la lb = ap not (eqb-shift n f one a b la lb)
