-- The cells of the grid complex: each is the index of a state.
use Rattle.std.proofs.Common.{◌≡◌, ℕ, ◌<◌, Bool, true, false, Some, None, if◌then◌else◌, is_some, refl}
use Rattle.std.proofs.lemmas.Bool.{ltb-true}
use Rattle.std.proofs.lemmas.Cmp.{nat_eq_equiv}
use Rattle.std.proofs.lemmas.Map.Views.{list_any-from_Contains}
use Rattle.f2_algebra.proofs.Chains.Sets.{any}
use Rattle.f2_algebra.proofs.Ranks.Existence.{HasAllCells}
use Rattle.state_rank.specs.Bijection.{ascending}
use Rattle.state_rank.specs.States.{factorial, unrank}
use Rattle.state_rank.proofs.OrderLemmas.{Contains-ascending}
use Rattle.torus_geom.specs.Degrees.{bidegree}
use Rattle.torus_geom.specs.Inner.GridComplex.{grid_complex}
use Rattle.torus_geom.specs.Marks.{Marks, size}

-- the index of a state is among the numbers below the number of states
pub any-ascending : (n s : ℕ) → s < n → any s (ascending n) ≡ true
any-ascending n s within = list_any-from_Contains nat_eq_equiv s (ascending n) (Contains-ascending n s within)

-- so each cell is
pub has_all_cells : (g : Marks) → HasAllCells (grid_complex g) (ascending (factorial (size g)))
has_all_cells g s live = any-ascending (factorial (size g)) s (ltb-true s (factorial (size g)) (of_state s _ live))
  where
    of_state : (s : ℕ) (b : Bool) → is_some (if b then Some (bidegree g (unrank (size g) s)) else None) ≡ true
        → b ≡ true
    of_state s true h = refl
    of_state s false h = h
