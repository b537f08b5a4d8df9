-- The walk of a grid, and the first columns of its cycles.
use Rattle.std.proofs.Common.{◌≡◌, ℕ, zero, suc, ◌+◌, ◌<◌, ◌≤◌, true, false, cond, length, slice_index, ap, ◌∙◌, add-one, arith}
use Rattle.std.specs.Prelude.{nat_le}
use Rattle.std.specs.List.{filter}
use Rattle.std.proofs.lemmas.Bool.{lt-leb, le-leb}
use Rattle.state_rank.specs.Bijection.{ascending}
use Rattle.state_rank.proofs.BijectionLemmas.{one_to_one, column_of-below}
use Rattle.torus_geom.specs.Counts.{all_below}
use Rattle.torus_geom.specs.Marks.{Marks, size, IsGrid}
use Rattle.torus_geom.specs.Components.{column_after, walk, is_first}
use Rattle.torus_geom.specs.Front.{o_column}
use Rattle.torus_geom.proofs.Sums.AllBelowLemmas.{all_below-false, all_below-more}
use Rattle.torus_geom.proofs.Sums.TabulateLemmas.{length-filter-ascending}

module _ (g : Marks) (grid : IsGrid g) where
  -- the walk stays among the columns
  pub column_after-below : (c : ℕ) → c < size g → column_after g c < size g
  column_after-below c l =
      column_of-below (size g) (slice_index g.o) (one_to_one (size g) g.o grid.o) (slice_index g.x c) (grid.x.small c l)

  -- and so after any number of steps
  pub walk-below : (k c : ℕ) → c < size g → walk g k c < size g
  walk-below zero c l = l
  walk-below (suc k) c l = column_after-below (walk g k c) (walk-below k c l)

-- after k steps from c the walk is on this column, and was not left of c
pub record IsOn (g : Marks) (c k on : ℕ) : Type 0 where
  pub below : on < size g
  pub walked : on ≡ walk g k c
  pub first : all_below k (λ i. nat_le c (walk g i c)) ≡ true

-- one step of the walk more
pub IsOn-more : (g : Marks) (c k on x next : ℕ) → IsGrid g → IsOn g c k on → c ≤ on → x ≡ slice_index g.x on
    → next ≡ o_column g x → IsOn g c (k + 1) next
IsOn-more g c k on x next grid h right at_x at_next =
    let after : next ≡ column_after g on = at_next ∙ ap (o_column g) at_x in
    record {
      below = let l = column_after-below g grid on h.below in omega arith;
      walked = rw add-one (after ∙ ap (column_after g) h.walked);
      first = all_below-more k (λ i. nat_le c (walk g i c)) h.first
          (le-leb c (walk g k c) (let e = h.walked in omega arith));
    }

-- the walk came to a column left of c
pub is_first-false : (g : Marks) (c k on : ℕ) → k < size g → IsOn g c k on → on < c → is_first g c ≡ false
is_first-false g c k on l h left =
    all_below-false (size g) (λ i. nat_le c (walk g i c)) k l (lt-leb c (walk g k c) (let e = h.walked in omega arith))

-- the first columns among the columns left of c
abbrev pub firsts_below : Marks → ℕ → ℕ
firsts_below g c = length (filter (is_first g) (ascending c))

-- one column more
pub firsts_below_more : (g : Marks) (c : ℕ) → firsts_below g (c + 1) ≡ firsts_below g c + cond (is_first g c) 1 0
firsts_below_more g c = length-filter-ascending (is_first g) c
