-- If two columns commute: from the crossing row up to a row of the right column there is no row of the left
-- column but the crossing row itself. `Over` is at a row of the right column, `Under` at one of the left.
use Rattle.std.proofs.Common.{Bool, ap, cond, false, refl, slice_index, subst, sym, true, ℕ, ◌&&◌, ◌<◌, ◌∙◌, ◌≡◌}
use mathlib.Core.Bool.{beq}
use Rattle.f2_algebra.proofs.Chains.Tables.{and-false}
use Rattle.torus_geom.proofs.Circles.TurnLemmas.{one_down_below}
use Rattle.torus_geom.specs.Range.{one_down}
use Rattle.torus_geom.specs.Marks.{IsGrid, Marks, size}
use Rattle.rectangles.proofs.Square.CyclicOrder.{between, between_same}
use Rattle.rectangles.proofs.Square.RectangleTests.{in_range-between}
use Rattle.rectangles.proofs.Square.TwoSteps.{differ, differ-self}
use Rattle.grid_moves.specs.Moves.{are_commuting_columns}
use Rattle.pentagon_map.proofs.ChainMap.FourRows.{HasFourRows-commuting, are_same, not_separated}
use Rattle.pentagon_map.proofs.ChainMap.RowArcs.{above_of}
use Rattle.pentagon_map.proofs.Crossing.FourNumbers.{AreFourRows, first_at_q, first_at_t, last_at_o, last_at_p}
use Rattle.pentagon_map.specs.Pentagon.{crossing_row}
use Rattle.pentagon_map.specs.declared.Corner.{Corner}
use Rattle.pentagon_map.specs.declared.Corner.TheVariants.{Over, Under}

-- what is known of the crossing row
pub record IsCrossing (g : Marks) (c w : ℕ) : Type 0 where
  pub o-o : above_of w (slice_index g.o c) (slice_index g.o (one_down (size g) c)) ≡ false
  pub o-x : above_of w (slice_index g.o c) (slice_index g.x (one_down (size g) c)) ≡ false
  pub x-o : above_of w (slice_index g.x c) (slice_index g.o (one_down (size g) c)) ≡ false
  pub x-x : above_of w (slice_index g.x c) (slice_index g.x (one_down (size g) c)) ≡ false

-- tests that are the same are equal
beq_from : (x y : Bool) → are_same x y ≡ true → beq x y ≡ true
beq_from true true h = refl
beq_from true false h = h
beq_from false true h = h
beq_from false false h = refl

pub above_of-out : (w k i : ℕ) → between w k i ≡ false → above_of w k i ≡ false
above_of-out w k i h = ap (λ z. z && differ i w) h

pub above_of-start : (w k : ℕ) → above_of w k w ≡ false
above_of-start w k = ap (λ z. between w k w && z) (differ-self w) ∙ and-false (between w k w)

to_itself : (w i : ℕ) → above_of w w i ≡ false
to_itself w i = ap (λ z. z && differ i w) (between_same w i)

module _ (g : Marks) (s : IsGrid g) (c : ℕ) (lc : c < size g) (h : are_commuting_columns g c ≡ true) where
  abbrev n : ℕ
  n = size g

  abbrev b : ℕ
  b = one_down (size g) c

  abbrev o : ℕ
  o = slice_index g.o (one_down (size g) c)

  abbrev p : ℕ
  p = slice_index g.x (one_down (size g) c)

  abbrev q : ℕ
  q = slice_index g.x c

  abbrev t : ℕ
  t = slice_index g.o c

  lb : b < n
  lb = one_down_below n c lc

  -- the four rows are different
  pub four_rows : AreFourRows o p q t
  four_rows =
      let d = HasFourRows-commuting g c lc h in
      record { op = s.apart b lb; oq = d.o-x; ot = d.o-o; pq = d.x-x; pt = d.x-o; qt = λ e. s.apart c lc (sym e) }

  pub none_or_both : beq (between o p t) (between o p q) ≡ true
  none_or_both =
      beq_from _ _
      (sym (λ i. are_same (in_range-between n o p t (s.o.small b lb) (s.x.small b lb) (s.o.small c lc) i)
      (in_range-between n o p q (s.o.small b lb) (s.x.small b lb) (s.x.small c lc) i))
      ∙ not_separated g c lc h)

  over_at : (z : Bool) → between o q t ≡ z → IsCrossing g c (cond z t q)
  over_at true e =
      let k = first_at_t o p q t four_rows none_or_both e in
      record { o-o = to_itself t o; o-x = to_itself t p; x-o = above_of-out t q o k.1; x-x = above_of-out t q p k.0 }
  over_at false e =
      let k = first_at_q o p q t four_rows none_or_both e in
      record { o-o = above_of-out q t o k.1; o-x = above_of-out q t p k.0; x-o = to_itself q o; x-x = to_itself q p }

  under_at : (z : Bool) → between t p o ≡ z → IsCrossing g c (cond z p o)
  under_at true e =
      let k = last_at_p o p q t four_rows none_or_both e in
      record {
        o-o = above_of-out p t o k.0;
        o-x = above_of-start p t;
        x-o = above_of-out p q o k.1;
        x-x = above_of-start p q;
      }
  under_at false e =
      let k = last_at_o o p q t four_rows none_or_both e in
      record {
        o-o = above_of-start o t;
        o-x = above_of-out o t p k.0;
        x-o = above_of-start o q;
        x-x = above_of-out o q p k.1;
      }

  -- where `Over` is
  pub crossing_row-over : crossing_row g c Over ≡ cond (between o q t) t q
  crossing_row-over = ap (λ z. cond z t q) (in_range-between n o q t (s.o.small b lb) (s.x.small c lc) (s.o.small c lc))

  -- where `Under` is
  pub crossing_row-under : crossing_row g c Under ≡ cond (between t p o) p o
  crossing_row-under =
      ap (λ z. cond z p o) (in_range-between n t p o (s.o.small c lc) (s.x.small b lb) (s.o.small b lb))

  -- Up to a row of the right column there is no other row of the left one.
  pub crossing_row_IsCrossing : (corner : Corner) → IsCrossing g c (crossing_row g c corner)
  crossing_row_IsCrossing Over = subst (IsCrossing g c) (sym crossing_row-over) (over_at (between o q t) refl)
  crossing_row_IsCrossing Under = subst (IsCrossing g c) (sym crossing_row-under) (under_at (between t p o) refl)
