-- Each state of the homotopy of a state has its Maslov degree and one more, and its Alexander degree: for columns by
-- its hexagons, for rows since transposing keeps degrees.
use Rattle.std.proofs.Common.{Bool, List, ap, arith, eqb, false, inl, inr, not, refl, slice_index, subst, swap, sym, true, true≢false, ℕ, ◌&&◌, ◌<◌, ◌||◌, ◌∙◌, ◌≡◌, ◌≢◌, ◌⊎◌}
use Rattle.std.proofs.Math.IntN.{pos, ◌+ℤ◌}
use Rattle.std.specs.Prelude.{int_div}
use Rattle.std.proofs.lemmas.Int.{ints}
use Rattle.std.proofs.lemmas.Bool.{and_parts, eqb-true, ne_eqb, or_cases}
use Rattle.f2_algebra.specs.Chain.{holds}
use Rattle.f2_algebra.proofs.Chains.Sets.{weight-at}
use Rattle.state_rank.proofs.BijectionLemmas.{one_to_one}
use Rattle.state_rank.proofs.RankLemmas.{rank_one_to_one}
use Rattle.state_rank.proofs.SwapLemmas.{IsBijection-swap}
use Rattle.state_rank.specs.Bijection.{IsBijection}
use Rattle.state_rank.specs.States.{rank, transpose}
use Rattle.torus_geom.proofs.Pairs.PairLemmas.{maslov-by_pairs}
use Rattle.torus_geom.proofs.Sums.AllBelowLemmas.{at_all_below}
use Rattle.torus_geom.proofs.TransposeLemmas.{IsBijection-transposed, IsGrid-transposed}
use Rattle.torus_geom.specs.Degrees.{alexander, doubled_alexander, maslov, maslov_o, maslov_x}
use Rattle.torus_geom.specs.Marks.{IsGrid, Marks, size}
use Rattle.torus_geom.specs.Range.{one_down}
use Rattle.torus_geom.specs.Transposed.{transposed}
use Rattle.rectangles.proofs.Square.CyclicOrder.{between}
use Rattle.rectangles.proofs.Square.EmptyRectangles.{is_clear_of}
use Rattle.rectangles.proofs.Square.OpenRectangles.{marks}
use Rattle.rectangles.proofs.Square.TwoSteps.{differ, differ_apart}
use Rattle.rectangles.proofs.Sweep.OddPairLemmas.{parity_below-some}
use Rattle.grid_moves.proofs.Exchanged.TransposedGrids.{size-transposed, transpose_AreInverse}
use Rattle.grid_moves.proofs.Turned.CarriedChains.{holds-carried, moved-rank}
use Rattle.grid_moves.specs.Moves.{are_commuting, are_commuting_columns}
use Rattle.grid_moves.specs.declared.commutations.Axis.{Axis}
use Rattle.grid_moves.specs.declared.commutations.Axis.TheVariants.{Cols, Rows}
use Rattle.pentagon_map.proofs.ChainMap.PentagonSums.{crossing_row-below}
use Rattle.pentagon_map.proofs.ChainMap.PentagonTests.{two}
use Rattle.pentagon_map.proofs.Degrees.KeptDegrees.{IsExchange-swap, none_within, maslov_o-transposed, maslov_x-transposed}
use Rattle.pentagon_map.specs.Pentagon.{crossing_row}
use Rattle.pentagon_map.specs.declared.Corner.{Corner}
use Rattle.hexagon_map.specs.Hexagon.{crossing_row_back}
use Rattle.hexagon_map.specs.Inner.CodeHomotopies.{column_homotopy, homotopy_of_state}
use Rattle.hexagon_map.proofs.Degrees.MarksInHexagon.{IsHexagonOf, maslov-hexagon}
use Rattle.hexagon_map.proofs.Targets.OddHexagons.{crossing_row_back-below}
use Rattle.hexagon_map.proofs.WayBack.HexagonSums.{hexagon_at, weight-column_homotopy}
use Rattle.hexagon_map.proofs.WayBack.MarksBetween.{no_mark_between-crossings}

-- ---- columns
module _ (g : Marks) (s : IsGrid g) (c : ℕ) (lc : c < size g) (h : are_commuting_columns g c ≡ true) (corner : Corner)
    (x : List ℕ) (sx : IsBijection (size g) x) where
  abbrev n : ℕ
  n = size g

  abbrev r : ℕ
  r = one_down (size g) c

  abbrev w : ℕ
  w = crossing_row g c corner

  abbrev v : ℕ
  v = crossing_row_back g c corner

  abbrev f : ℕ → ℕ
  f = slice_index x

  lw : w < n
  lw = crossing_row-below g s c lc corner

  lv : v < n
  lv = crossing_row_back-below g s c lc corner

  record IsHexagonHere (a b : ℕ) : Type 0 where
    by_o : IsHexagonOf n (slice_index g.o) f c w v a b
    by_x : IsHexagonOf n (slice_index g.x) f c w v a b

  hexagon_here : (a b : ℕ) → a < n → b < n → hexagon_at g s c w v lc lw lv f a b ≡ true → IsHexagonHere a b
  hexagon_here a b la lb e =
      let (apart, e1) = and_parts (differ a b) _ e in
      let (empty, e2) = and_parts (is_clear_of n f a b (f a) (f b)) _ e1 in
      let (rows, clean) =
      and_parts (((eqb b c && between (f a) w v) || (eqb a c && between (f a) v w))
      && (between (f a) (f b) v && between (f a) (f b) w)) _ e2 in
      let (side, both) =
      and_parts ((eqb b c && between (f a) w v) || (eqb a c && between (f a) v w)) _ rows in
      let (has_v, has_w) = and_parts (between (f a) (f b) v) (between (f a) (f b) w) both in
      let on_side : ((b ≡ c) × (between (f a) w v ≡ true)) ⊎ ((a ≡ c) × (between (f a) v w ≡ true)) =
      elim (or_cases (eqb b c && between (f a) w v) (eqb a c && between (f a) v w) side) [
        | inl i ↦ let (on, first) = and_parts (eqb b c) (between (f a) w v) i in inl (eqb-true b c on, first)
        | inr i ↦ let (on, first) = and_parts (eqb a c) (between (f a) v w) i in inr (eqb-true a c on, first)
      ] in
      let outside = no_mark_between-crossings g s c lc h corner in
      let none : (d : ℕ) → d < n → d ≢ r → d ≢ c
      → not (between a b d && (between (f a) (f b) (slice_index g.o d) || between (f a) (f b) (slice_index g.x d)))
      ≡ true =
      λ d l p q. sym (λ i. (ne_eqb d r p i || ne_eqb d c q i)
      || not (between a b d
      && (between (f a) (f b) (slice_index g.o d) || between (f a) (f b) (slice_index g.x d))))
      ∙ at_all_below n (λ t. two r c t || not (between a b t
      && marks (slice_index g.o) (slice_index g.x) (between (f a) (f b)) t)) clean d l in
      record {
        by_o = record {
          a_below = la;
          b_below = lb;
          apart = differ_apart a b apart;
          on_side = on_side;
          w_below = lw;
          v_below = lv;
          has_v = has_v;
          has_w = has_w;
          none_beside =
              λ d l p q. (none_of_two (between a b d) (between (f a) (f b) (slice_index g.o d))
              (between (f a) (f b) (slice_index g.x d)) (none d l p q)).0;
          left = outside.left_o;
          right = outside.right_o;
          empty = none_within g s c lc h corner x sx a b empty;
        };
        by_x = record {
          a_below = la;
          b_below = lb;
          apart = differ_apart a b apart;
          on_side = on_side;
          w_below = lw;
          v_below = lv;
          has_v = has_v;
          has_w = has_w;
          none_beside =
              λ d l p q. (none_of_two (between a b d) (between (f a) (f b) (slice_index g.o d))
              (between (f a) (f b) (slice_index g.x d)) (none d l p q)).1;
          left = outside.left_x;
          right = outside.right_x;
          empty = none_within g s c lc h corner x sx a b empty;
        };
      }
    where
      none_of_two : (u v w : Bool) → not (u && (v || w)) ≡ true → ((u && v) ≡ false) × ((u && w) ≡ false)
      none_of_two true true w h = absurd (true≢false (sym h))
      none_of_two true false true h = absurd (true≢false (sym h))
      none_of_two true false false h = (refl, refl)
      none_of_two false v w h = (refl, refl)

  raised : (o : List ℕ) (so : IsBijection n o) (a b : ℕ) → IsHexagonOf n (slice_index o) f c w v a b
      → maslov n o (swap x a b) ≡ maslov n o x +ℤ pos 1
  raised o so a b d =
      maslov-by_pairs n o (swap x a b) so (IsBijection-swap n x a b d.a_below d.b_below sx)
      ∙ maslov-hexagon n (slice_index o) f (slice_index (swap x a b)) (one_to_one n o so)
      (one_to_one n x sx) c w v a b lc s.is_size.least d
      (IsExchange-swap g s c lc h corner x sx a b d.a_below d.b_below d.apart)
      ∙ ap (λ m. m +ℤ pos 1) (sym (maslov-by_pairs n o x so sx))

  -- a state of the homotopy comes by a hexagon
  hexagon_of : (y : List ℕ) → IsBijection n y → holds (column_homotopy g c corner x) (rank y) ≡ true
      → (a : ℕ) × (b : ℕ) × (a < n) × (b < n) × (hexagon_at g s c w v lc lw lv f a b ≡ true) × (y ≡ swap x a b)
  hexagon_of y sy e =
      let (a, la, e1) =
      parity_below-some n _ (sym (sym (weight-at (column_homotopy g c corner x) (rank y))
      ∙ weight-column_homotopy g s c corner lc lw lv x sx (λ t. eqb (rank y) t)) ∙ e) in
      let (b, lb, e2) = parity_below-some n _ e1 in
      let (p, q) = and_parts (hexagon_at g s c w v lc lw lv f a b) (eqb (rank y) (rank (swap x a b))) e2 in (
        a,
        b,
        la,
        lb,
        p,
        rank_one_to_one n y (swap x a b) sy (IsBijection-swap n x a b la lb sx)
            (eqb-true (rank y) (rank (swap x a b)) q),
      )

  -- it has the Maslov degrees of x and one more
  pub maslov_o-column_homotopy : (y : List ℕ) → IsBijection n y → holds (column_homotopy g c corner x) (rank y) ≡ true
      → maslov_o g y ≡ maslov_o g x +ℤ pos 1
  maslov_o-column_homotopy y sy e =
      let (a, b, la, lb, p, is) = hexagon_of y sy e in
      ap (maslov n g.o) is ∙ raised g.o s.o a b (hexagon_here a b la lb p).by_o

  pub maslov_x-column_homotopy : (y : List ℕ) → IsBijection n y → holds (column_homotopy g c corner x) (rank y) ≡ true
      → maslov_x g y ≡ maslov_x g x +ℤ pos 1
  maslov_x-column_homotopy y sy e =
      let (a, b, la, lb, p, is) = hexagon_of y sy e in
      ap (maslov n g.x) is ∙ raised g.x s.x a b (hexagon_here a b la lb p).by_x

-- ---- both
-- what a hexagon changes of the degrees
pub record RaisesDegrees (g : Marks) (x y : List ℕ) : Type 0 where
  pub by_o : maslov_o g y ≡ maslov_o g x +ℤ pos 1
  pub by_x : maslov_x g y ≡ maslov_x g x +ℤ pos 1

-- The homotopy of a state raises both Maslov degrees.
pub homotopy_RaisesDegrees : (axis : Axis) (g : Marks) → IsGrid g → (c : ℕ) → c < size g
    → are_commuting axis g c ≡ true
    → (corner : Corner) (x y : List ℕ) → IsBijection (size g) x → IsBijection (size g) y
    → holds (homotopy_of_state axis g c corner x) (rank y) ≡ true → RaisesDegrees g x y
homotopy_RaisesDegrees Cols g s c l h corner x y sx sy e =
    record {
      by_o = maslov_o-column_homotopy g s c l h corner x sx y sy e;
      by_x = maslov_x-column_homotopy g s c l h corner x sx y sy e;
    }
homotopy_RaisesDegrees Rows g s c l h corner x y sx sy e =
    let n : ℕ = size g in
    let t : Marks = transposed g in
    let st = IsGrid-transposed g s in
    let n_is = size-transposed g in
    let lt : c < size t = omega arith in
    let back =
    λ (z : List ℕ) (sz : IsBijection n z). subst (λ m. IsBijection m (transpose z)) (sym n_is)
    (IsBijection-transposed n z sz) in
    let held : holds (column_homotopy t c corner (transpose x)) (rank (transpose y)) ≡ true =
    ap (holds (column_homotopy t c corner (transpose x))) (sym (moved-rank n transpose y sy))
    ∙ sym (holds-carried n transpose transpose (transpose_AreInverse n) (column_homotopy t c corner (transpose x))
    (rank y)) ∙ e in
    record {
      by_o = sym (maslov_o-transposed g n refl s y sy)
          ∙ maslov_o-column_homotopy t st c lt h corner (transpose x) (back x sx) (transpose y) (back y sy) held
          ∙ ap (λ m. m +ℤ pos 1) (maslov_o-transposed g n refl s x sx);
      by_x = sym (maslov_x-transposed g n refl s y sy)
          ∙ maslov_x-column_homotopy t st c lt h corner (transpose x) (back x sx) (transpose y) (back y sy) held
          ∙ ap (λ m. m +ℤ pos 1) (maslov_x-transposed g n refl s x sx);
    }

-- and so it keeps the Alexander degree
pub RaisesDegrees-alexander : (g : Marks) (x y : List ℕ) → RaisesDegrees g x y → alexander g y ≡ alexander g x
unfolding alexander
RaisesDegrees-alexander g x y d =
    let by_o = d.by_o in
    let by_x = d.by_x in
    let doubled : doubled_alexander g y ≡ doubled_alexander g x = omega (arith, ints) in
    ap (λ z. int_div z (pos 2)) doubled
