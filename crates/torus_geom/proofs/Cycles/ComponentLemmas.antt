-- The components of a grid are the cycles of a bijection of its columns, and its first columns are one of
-- each cycle.
use Rattle.std.proofs.Common.{◌≡◌, ℕ, zero, suc, slice_index, refl, ap, ◌∙◌, sym, arith}
use Rattle.std.proofs.Math.IntN.{pos}
use Rattle.std.specs.Prelude.{nat_le}
use Rattle.std.proofs.lemmas.Bool.{leb-true, le-leb}
use Rattle.state_rank.proofs.BijectionLemmas.{IsOneToOne, one_to_one, column_of-one_to_one}
use Rattle.torus_geom.specs.Counts.{count_below}
use Rattle.torus_geom.specs.Marks.{Marks, size, IsGrid}
use Rattle.torus_geom.specs.Components.{column_after, walk, is_first, components, HasOneOfEachCycle}
use Rattle.torus_geom.proofs.Sums.AllBelowLemmas.{at_all_below, all_below-true}
use Rattle.torus_geom.proofs.Sums.TabulateLemmas.{pos-length-filter-ascending}
use Rattle.torus_geom.proofs.Cycles.CycleLemmas.{after, PicksOne, picks_first}

module _ (g : Marks) (grid : IsGrid g) where
  -- the step of the walk is a bijection
  pub column_after_one : IsOneToOne (size g) (column_after g)
  column_after_one =
      let columns = column_of-one_to_one (size g) (slice_index g.o) (one_to_one (size g) g.o grid.o) in
      record {
        small = λ c l. columns.small (slice_index g.x c) (grid.x.small c l);
        apart = λ b c lb lc p. columns.apart (slice_index g.x b) (slice_index g.x c) (grid.x.small b lb)
            (grid.x.small c lc) (grid.x.apart b c lb lc p);
      }

  -- the walk of the grid is that of its step
  pub walk-after : (k c : ℕ) → walk g k c ≡ after (column_after g) k c
  walk-after zero c = refl
  walk-after (suc k) c = ap (column_after g) (walk-after k c)

  -- the first columns are one of each cycle of the step
  pub is_first_picks : PicksOne (size g) (column_after g) (is_first g)
  is_first_picks = picks_first (size g) (column_after g) column_after_one (is_first g)
      (λ c first k l. let e = walk-after k c in
      let low = leb-true c (walk g k c) (at_all_below (size g) (λ i. nat_le c (walk g i c)) first k l) in omega arith)
      (λ c low. all_below-true (size g) (λ k. nat_le c (walk g k c))
      (λ k l. let e = walk-after k c in let least = low k l in le-leb c (walk g k c) (omega arith)))

  -- and so of the walk
  pub HasOneOfEachCycle-is_first : HasOneOfEachCycle g (is_first g)
  HasOneOfEachCycle-is_first = record {
    apart = λ c d lc ld fc fd p m. is_first_picks.apart c d lc ld fc fd p (m.0, sym (walk-after m.0 c) ∙ m.1);
    met = λ d l.
        let from = is_first_picks.met d l in
        let on = from.3 in
        (from.0, from.1, from.2, (on.0, walk-after on.0 from.0 ∙ on.1));
  }

-- the components are the first columns
pub components-count : (g : Marks) → pos (components g) ≡ count_below (size g) (is_first g)
unfolding components
components-count g = pos-length-filter-ascending (is_first g) (size g)
