-- The difference of the Maslov degrees by the O and by the X, less n - l, is even, for every grid and
-- state: so each state has an Alexander degree.
use Rattle.std.proofs.Common.{◌≡◌, ℕ, List, slice_index, sym, arith}
use Rattle.std.proofs.Math.IntN.{ℤ, pos, ◌+ℤ◌, ◌-ℤ◌, ◌*ℤ◌}
use Rattle.std.proofs.lemmas.Int.{ints}
use Rattle.state_rank.specs.Bijection.{IsBijection}
use Rattle.state_rank.proofs.BijectionLemmas.{IsOneToOne, one_to_one, row-column_of}
use Rattle.torus_geom.specs.Marks.{Marks, size, IsGrid}
use Rattle.torus_geom.specs.Components.{column_after, is_first}
use Rattle.torus_geom.specs.Degrees.{doubled_alexander, alexander}
use Rattle.torus_geom.proofs.Pairs.PairLemmas.{pairs, maslov-by_pairs}
use Rattle.torus_geom.proofs.Cycles.ComponentLemmas.{column_after_one, is_first_picks, components-count}
use Rattle.torus_geom.proofs.Sums.HalfLemmas.{two-int_div}
use Rattle.gradings.proofs.ParityLemmas.{pairs_parity}

module _ (g : Marks) (grid : IsGrid g) where
  abbrev o_one : IsOneToOne (size g) (slice_index g.o)
  o_one = one_to_one (size g) g.o grid.o

  abbrev x_one : IsOneToOne (size g) (slice_index g.x)
  x_one = one_to_one (size g) g.x grid.x

  module _ (x : List ℕ) (state : IsBijection (size g) x) where
    -- M_O - M_X - (n - l) is twice a whole number
    pub doubled_alexander_even : (half : ℤ) × (doubled_alexander g x ≡ half +ℤ half)
    doubled_alexander_even =
        let parity =
        pairs_parity (size g) (slice_index g.o) (size g) 0 (omega arith) (column_after g) (slice_index g.x)
        (column_after_one g grid) x_one
        (λ c l. sym (row-column_of (size g) (slice_index g.o) o_one (slice_index g.x c) (grid.x.small c l)))
        (is_first g) (is_first_picks g grid) (λ c l. absurd (omega arith)) in
        let even = parity.1 in
        let by_o = maslov-by_pairs (size g) g.o x grid.o state in
        let by_x = maslov-by_pairs (size g) g.x x grid.x state in
        let cycles = components-count g in (
          pos 0 -ℤ parity.0 -ℤ pairs (size g) (slice_index g.o) (slice_index x)
              +ℤ pairs (size g) (slice_index g.x) (slice_index x),
          omega (arith, ints),
        )

    -- the Alexander degree is whole
    pub two-alexander : pos 2 *ℤ alexander g x ≡ doubled_alexander g x
    unfolding alexander
    two-alexander = two-int_div (doubled_alexander g x) doubled_alexander_even.0 doubled_alexander_even.1
