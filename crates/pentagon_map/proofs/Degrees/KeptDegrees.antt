-- The image of a state has its Maslov and its Alexander degree, in the exchanged grid: for columns by its pentagons,
-- for rows since transposing keeps degrees.
use Rattle.rectangles.proofs.Square.RectangleTests.{swap-with_exchanged as slice_index-exchanged}
use Rattle.std.proofs.Common.{All, Bool, List, ap, arith, eqb, false, get_or, inl, inr, length, map, not, refl, slice_index, subst, swap, sym, true, true≢false, ℕ, ◌&&◌, ◌<◌, ◌||◌, ◌∙◌, ◌≡◌, ◌≢◌, ◌⊎◌}
use Rattle.std.proofs.Math.IntN.{pos}
use Rattle.std.proofs.lemmas.Bool.{and_parts, eqb-true, ne_eqb, or_cases, not-true, or_parts}
use Rattle.std.proofs.lemmas.List.{get_or-map, length-map}
use Rattle.std.proofs.lemmas.List.Edits.{length-swap}
use Rattle.f2_algebra.proofs.Chains.Lists.{All-codes}
use Rattle.f2_algebra.specs.Chain.{Chain, codes, holds}
use Rattle.state_rank.proofs.BijectionLemmas.{column_of-below, one_to_one}
use Rattle.state_rank.proofs.RankLemmas.{rank_one_to_one}
use Rattle.state_rank.proofs.SwapLemmas.{exchanged, exchanged_below, exchanged_back, slice_index-swap, slice_index-swap_first, slice_index-swap_second, slice_index-swap_other, IsBijection-swap}
use Rattle.state_rank.specs.Bijection.{IsBijection, column_of}
use Rattle.state_rank.specs.States.{IsState, rank, transpose}
use Rattle.torus_geom.proofs.Sums.AllBelowLemmas.{at_all_below}
use Rattle.torus_geom.proofs.Pairs.ExchangeLaw.{IsExchange, points_within}
use Rattle.torus_geom.proofs.Pairs.PairLemmas.{maslov-by_pairs, maslov_by_pairs}
use Rattle.torus_geom.proofs.Pairs.RowPairLemmas.{maslov_by_pairs-column_of, maslov_by_pairs_same}
use Rattle.torus_geom.proofs.Sums.SumLemmas.{sum_below_vanishes}
use Rattle.torus_geom.proofs.TransposeLemmas.{IsBijection-transposed, IsGrid-transposed, length-transpose, slice_index-transpose}
use Rattle.torus_geom.proofs.Circles.TurnLemmas.{one_down_below}
use Rattle.torus_geom.specs.Components.{column_after, components}
use Rattle.torus_geom.specs.Counts.{one_if}
use Rattle.torus_geom.specs.Degrees.{alexander, maslov, maslov_o, maslov_x}
use Rattle.torus_geom.specs.Range.{one_down}
use Rattle.torus_geom.specs.Marks.{IsGrid, Marks, size}
use Rattle.torus_geom.specs.Transposed.{transposed}
use Rattle.rectangles.proofs.Square.CyclicOrder.{between}
use Rattle.rectangles.proofs.Square.EmptyRectangles.{free, is_clear_of}
use Rattle.rectangles.proofs.Square.OpenRectangles.{marks}
use Rattle.rectangles.proofs.Square.TwoSteps.{differ, differ_apart}
use Rattle.grid_moves.proofs.Exchanged.SwappedTwice.{size-swapped}
use Rattle.grid_moves.proofs.Turned.CarriedChains.{holds-carried, moved-rank}
use Rattle.grid_moves.proofs.Turned.ComponentLemmas.{alexander_same, components-along, components-back, row-column_after}
use Rattle.grid_moves.proofs.Exchanged.SwapGridLemmas.{IsGrid-swapped_columns}
use Rattle.grid_moves.specs.Moves.{are_commuting, are_commuting_columns, swapped, swapped_columns}
use Rattle.grid_moves.specs.declared.commutations.Axis.{Axis}
use Rattle.grid_moves.specs.declared.commutations.Axis.TheVariants.{Cols, Rows}
use Rattle.pentagon_map.proofs.ChainMap.PentagonSums.{crossing_row-below, holds-column_image, pentagon_at}
use Rattle.pentagon_map.proofs.Crossing.CrossingRow.{IsCrossing, crossing_row_IsCrossing}
use Rattle.pentagon_map.proofs.Degrees.MarksInPentagon.{IsPentagonOf, maslov-pentagon}
use Rattle.grid_moves.proofs.Exchanged.TransposedGrids.{size-transposed, transpose-at, transpose-transpose, transpose_AreInverse}
use Rattle.pentagon_map.specs.Inner.CodeImages.{column_image, image_of_state}
use Rattle.pentagon_map.specs.Pentagon.{crossing_row}
use Rattle.pentagon_map.specs.declared.Corner.{Corner}
use Rattle.torus_geom.proofs.Circles.BetweenLemmas.{is_between}
use Rattle.rectangles.proofs.Sweep.OddPairLemmas.{parity_below-some}
use Rattle.pentagon_map.proofs.ChainMap.PentagonTests.{two, lacks}

-- ---- columns
module _ (g : Marks) (s : IsGrid g) (c : ℕ) (lc : c < size g) (h : are_commuting_columns g c ≡ true) (corner : Corner)
    (x : List ℕ) (sx : IsBijection (size g) x) where
  abbrev n : ℕ
  n = size g

  abbrev r : ℕ
  r = one_down (size g) c

  abbrev w : ℕ
  w = crossing_row g c corner

  abbrev f : ℕ → ℕ
  f = slice_index x

  lw : w < n
  lw = crossing_row-below g s c lc corner

  lr : r < n
  lr = one_down_below n c lc

  crossing : IsCrossing g c w
  crossing = crossing_row_IsCrossing g s c lc h corner

  -- no point of the state is inside, as a count
  pub none_within : (a b : ℕ) → is_clear_of n f a b (f a) (f b) ≡ true → points_within n f a b (f a) (f b) ≡ pos 0
  none_within a b e =
      sum_below_vanishes n _ (λ t l. ap one_if (not-true _
      (at_all_below n (λ t. not (is_between a b t && is_between (f a) (f b) (f t))) e t l)))

  record IsPentagonHere (a b : ℕ) : Type 0 where
    by_o : IsPentagonOf n (slice_index g.o) f c w a b
    by_x : IsPentagonOf n (slice_index g.x) f c w a b

  pentagon_here : (a b : ℕ) → a < n → b < n → pentagon_at g s c w lc lw f a b ≡ true → IsPentagonHere a b
  pentagon_here a b la lb e =
      let (apart, e1) = and_parts (differ a b) _ e in
      let (empty, e2) = and_parts (is_clear_of n f a b (f a) (f b)) _ e1 in
      let (on, e3) = and_parts (eqb a c || eqb b c) _ e2 in
      let (cross, e4) = and_parts (between (f a) (f b) w) _ e3 in
      let (clean, e5) =
      and_parts (free n (two r c) (between a b) (marks (slice_index g.o) (slice_index g.x)
      (between (f a) (f b)))) _ e4 in
      let (low, high) = and_parts (lacks (slice_index g.o) (slice_index g.x) c (between (f a) w)) _ e5 in
      let low_parts = or_parts _ _ (not-true _ low) in
      let high_parts = or_parts _ _ (not-true _ high) in
      let on_circle : (a ≡ c) ⊎ (b ≡ c) =
      elim (or_cases (eqb a c) (eqb b c) on) [ inl i ↦ inl (eqb-true a c i) | inr i ↦ inr (eqb-true b c i) ] in
      let none : (d : ℕ) → d < n → d ≢ r → d ≢ c
      → not (between a b d && (between (f a) (f b) (slice_index g.o d) || between (f a) (f b) (slice_index g.x d)))
      ≡ true =
      λ d l p q. sym (λ i. (ne_eqb d r p i || ne_eqb d c q i)
      || not (between a b d
      && (between (f a) (f b) (slice_index g.o d) || between (f a) (f b) (slice_index g.x d))))
      ∙ at_all_below n (λ t. two r c t || not (between a b t
      && marks (slice_index g.o) (slice_index g.x) (between (f a) (f b)) t)) clean d l in
      record {
        by_o = record {
          a_below = la;
          b_below = lb;
          apart = differ_apart a b apart;
          on_circle = on_circle;
          w_below = lw;
          crosses = cross;
          none_beside =
              λ d l p q. (none_of_two (between a b d) (between (f a) (f b) (slice_index g.o d))
              (between (f a) (f b) (slice_index g.x d)) (none d l p q)).0;
          below = low_parts.0;
          above = high_parts.0;
          crossing = crossing.o-o;
          empty = none_within a b empty;
        };
        by_x = record {
          a_below = la;
          b_below = lb;
          apart = differ_apart a b apart;
          on_circle = on_circle;
          w_below = lw;
          crosses = cross;
          none_beside =
              λ d l p q. (none_of_two (between a b d) (between (f a) (f b) (slice_index g.o d))
              (between (f a) (f b) (slice_index g.x d)) (none d l p q)).1;
          below = low_parts.1;
          above = high_parts.1;
          crossing = crossing.x-x;
          empty = none_within a b empty;
        };
      }
    where
      none_of_two : (u v w : Bool) → not (u && (v || w)) ≡ true → ((u && v) ≡ false) × ((u && w) ≡ false)
      none_of_two true true w h = absurd (true≢false (sym h))
      none_of_two true false true h = absurd (true≢false (sym h))
      none_of_two true false false h = (refl, refl)
      none_of_two false v w h = (refl, refl)

  -- the exchange along a rectangle
  pub IsExchange-swap : (a b : ℕ) → a < n → b < n → a ≢ b → IsExchange n a b (f a) (f b) f (slice_index (swap x a b))
  IsExchange-swap a b la lb p =
      let long = sx.long in
      let la' : a < length x = omega arith in
      let lb' : b < length x = omega arith in
      record {
        a_below = la;
        b_below = lb;
        apart = p;
        one = one_to_one n x sx;
        one_after = one_to_one n (swap x a b) (IsBijection-swap n x a b la lb sx);
        from_a = refl;
        from_b = refl;
        to_a = slice_index-swap_first x a b la' lb';
        to_b = slice_index-swap_second x a b la' lb';
        others = λ d l q t. sym (slice_index-swap_other x a b d la' lb' q t);
      }

  kept : (o : List ℕ) (so : IsBijection n o) (a b : ℕ) → IsPentagonOf n (slice_index o) f c w a b
      → maslov n (swap o r c) (swap x a b) ≡ maslov n o x
  kept o so a b d =
      let long = so.long in
      maslov-by_pairs n (swap o r c) (swap x a b) (IsBijection-swap n o r c lr lc so)
      (IsBijection-swap n x a b d.a_below d.b_below sx)
      ∙ ap (λ (k : ℕ → ℕ). maslov_by_pairs n k (slice_index (swap x a b)))
      (slice_index-exchanged o r c (omega arith) (omega arith))
      ∙ maslov-pentagon n (slice_index o) f (slice_index (swap x a b)) (one_to_one n o so)
      (one_to_one n x sx) c w a b lc s.is_size.least d (IsExchange-swap a b d.a_below d.b_below d.apart)
      ∙ sym (maslov-by_pairs n o x so sx)

  -- a state of the image comes by a pentagon
  pentagon_of : (y : List ℕ) → IsBijection n y → holds (column_image g c corner x) (rank y) ≡ true
      → (a : ℕ) × (b : ℕ) × (a < n) × (b < n) × (pentagon_at g s c w lc lw f a b ≡ true) × (y ≡ swap x a b)
  pentagon_of y sy e =
      let (a, la, e1) = parity_below-some n _ (sym (holds-column_image g s c corner lc lw x sx (rank y)) ∙ e) in
      let (b, lb, e2) = parity_below-some n _ e1 in
      let (p, q) = and_parts (pentagon_at g s c w lc lw f a b) (eqb (rank y) (rank (swap x a b))) e2 in (
        a,
        b,
        la,
        lb,
        p,
        rank_one_to_one n y (swap x a b) sy (IsBijection-swap n x a b la lb sx)
            (eqb-true (rank y) (rank (swap x a b)) q),
      )

  same_size : size (swapped_columns g c) ≡ n
  same_size = length-swap g.o r c

  -- it has the Maslov degrees of x
  pub maslov_o-column_image : (y : List ℕ) → IsBijection n y → holds (column_image g c corner x) (rank y) ≡ true
      → maslov_o (swapped_columns g c) y ≡ maslov_o g x
  maslov_o-column_image y sy e =
      let (a, b, la, lb, p, is) = pentagon_of y sy e in
      ap (λ m. maslov m (swap g.o r c) y) same_size ∙ ap (maslov n (swap g.o r c)) is
      ∙ kept g.o s.o a b (pentagon_here a b la lb p).by_o

  pub maslov_x-column_image : (y : List ℕ) → IsBijection n y → holds (column_image g c corner x) (rank y) ≡ true
      → maslov_x (swapped_columns g c) y ≡ maslov_x g x
  maslov_x-column_image y sy e =
      let (a, b, la, lb, p, is) = pentagon_of y sy e in
      ap (λ m. maslov m (swap g.x r c) y) same_size ∙ ap (maslov n (swap g.x r c)) is
      ∙ kept g.x s.x a b (pentagon_here a b la lb p).by_x

-- ---- components
-- the exchange of two columns renames them
pub components-swapped_columns : (g : Marks) → IsGrid g → (c : ℕ) → c < size g
    → components (swapped_columns g c) ≡ components g
components-swapped_columns g s c lc =
    let n : ℕ = size g in
    let r : ℕ = one_down n c in
    let lr = one_down_below n c lc in
    let at : (rows : List ℕ) → length rows ≡ n → (d : ℕ)
    → slice_index (swap rows r c) (exchanged r c d) ≡ slice_index rows d =
    λ rows e d. slice_index-swap rows r c (exchanged r c d) (omega arith) (omega arith)
    ∙ ap (slice_index rows) (exchanged_back r c d) in
    components-along g (swapped_columns g c) s (IsGrid-swapped_columns g c s lc) (length-swap g.o r c) (exchanged r c)
    (record {
      small = λ d l. exchanged_below n r c d lr lc l;
      apart = λ d e ld le p q. p (sym (exchanged_back r c d) ∙ ap (exchanged r c) q ∙ exchanged_back r c e);
    })
    (λ d l. at g.x s.x.long d ∙ sym (row-column_after g s d l) ∙ sym (at g.o refl (column_after g d)))

-- ---- rows
pub maslov-transposed : (n : ℕ) (o x : List ℕ) → IsBijection n o → IsBijection n x
    → maslov n (transpose o) (transpose x) ≡ maslov n o x
maslov-transposed n o x bo bx =
    maslov-by_pairs n (transpose o) (transpose x) (IsBijection-transposed n o bo) (IsBijection-transposed n x bx)
    ∙ maslov_by_pairs_same n (slice_index (transpose o)) (column_of n (slice_index o)) (slice_index (transpose x))
    (column_of n (slice_index x))
    (λ c l. slice_index-transpose n o c bo.long l) (λ c l. slice_index-transpose n x c bx.long l)
    ∙ sym (maslov_by_pairs-column_of n (slice_index o) (slice_index x) (one_to_one n o bo) (one_to_one n x bx))
    ∙ sym (maslov-by_pairs n o x bo bx)

module _ (h : Marks) (n : ℕ) (e : size h ≡ n) (s : IsGrid h) where
  so : IsBijection n h.o
  so = subst (λ m. IsBijection m h.o) e s.o

  sxm : IsBijection n h.x
  sxm = subst (λ m. IsBijection m h.x) e s.x

  pub maslov_o-transposed : (x : List ℕ) → IsBijection n x → maslov_o (transposed h) (transpose x) ≡ maslov_o h x
  maslov_o-transposed x sx = ap (λ m. maslov m (transpose h.o) (transpose x)) (length-transpose h.o ∙ e)
      ∙ maslov-transposed n h.o x so sx ∙ ap (λ m. maslov m h.o x) (sym e)

  pub maslov_x-transposed : (x : List ℕ) → IsBijection n x → maslov_x (transposed h) (transpose x) ≡ maslov_x h x
  maslov_x-transposed x sx = ap (λ m. maslov m (transpose h.x) (transpose x)) (length-transpose h.o ∙ e)
      ∙ maslov-transposed n h.x x sxm sx ∙ ap (λ m. maslov m h.x x) (sym e)

-- the transposed grid has as many components
pub components-transposed : (g : Marks) → IsGrid g → components (transposed g) ≡ components g
components-transposed g s =
    let n : ℕ = size g in
    components-back g (transposed g) s (IsGrid-transposed g s) (length-transpose g.o) (slice_index g.x)
    (one_to_one n g.x s.x) (λ c l.
    transpose-at n g.x s.x (column_after g c)
    (column_of-below n (slice_index g.o) (one_to_one n g.o s.o) (slice_index g.x c) (s.x.small c l))
    ∙ sym (slice_index-transpose n g.o (slice_index g.x c) refl (s.x.small c l)))

-- ---- both
-- what an exchange of columns or rows keeps
pub record KeepsDegrees (axis : Axis) (g : Marks) (c : ℕ) (x y : List ℕ) : Type 0 where
  pub by_o : maslov_o (swapped axis g c) y ≡ maslov_o g x
  pub by_x : maslov_x (swapped axis g c) y ≡ maslov_x g x

-- The image of a state keeps both Maslov degrees.
pub image_KeepsDegrees : (axis : Axis) (g : Marks) → IsGrid g → (c : ℕ) → c < size g → are_commuting axis g c ≡ true
    → (corner : Corner) (x y : List ℕ) → IsBijection (size g) x → IsBijection (size g) y
    → holds (image_of_state axis g c corner x) (rank y) ≡ true → KeepsDegrees axis g c x y
image_KeepsDegrees Cols g s c l h corner x y sx sy e =
    record {
      by_o = maslov_o-column_image g s c l h corner x sx y sy e;
      by_x = maslov_x-column_image g s c l h corner x sx y sy e;
    }
image_KeepsDegrees Rows g s c l h corner x y sx sy e =
    let n : ℕ = size g in
    let t : Marks = transposed g in
    let st = IsGrid-transposed g s in
    let n_is = size-transposed g in
    let lt : c < size t = omega arith in
    let back =
    λ (z : List ℕ) (sz : IsBijection n z). subst (λ m. IsBijection m (transpose z)) (sym n_is)
    (IsBijection-transposed n z sz) in
    let sy' = IsBijection-transposed n y sy in
    let there = IsGrid-swapped_columns t c st lt in
    let same = length-swap t.o (one_down (size t) c) c ∙ n_is in
    let held : holds (column_image t c corner (transpose x)) (rank (transpose y)) ≡ true =
    ap (holds (column_image t c corner (transpose x))) (sym (moved-rank n transpose y sy))
    ∙ sym (holds-carried n transpose transpose (transpose_AreInverse n) (column_image t c corner (transpose x))
    (rank y)) ∙ e in
    let y_is : y ≡ transpose (transpose y) = sym (transpose-transpose n y sy) in
    record {
      by_o = ap (maslov_o (transposed (swapped_columns t c))) y_is
          ∙ maslov_o-transposed (swapped_columns t c) n same there (transpose y) sy'
          ∙ maslov_o-column_image t st c lt h corner (transpose x) (back x sx) (transpose y) (back y sy) held
          ∙ maslov_o-transposed g n refl s x sx;
      by_x = ap (maslov_x (transposed (swapped_columns t c))) y_is
          ∙ maslov_x-transposed (swapped_columns t c) n same there (transpose y) sy'
          ∙ maslov_x-column_image t st c lt h corner (transpose x) (back x sx) (transpose y) (back y sy) held
          ∙ maslov_x-transposed g n refl s x sx;
    }

-- an exchange keeps the number of components
pub components-swapped : (axis : Axis) (g : Marks) → IsGrid g → (c : ℕ) → c < size g
    → components (swapped axis g c) ≡ components g
components-swapped Cols g s c l = components-swapped_columns g s c l
components-swapped Rows g s c l =
    let t : Marks = transposed g in
    let st = IsGrid-transposed g s in
    let lt : c < size t = let e = size-transposed g in omega arith in
    components-transposed (swapped_columns t c) (IsGrid-swapped_columns t c st lt)
    ∙ components-swapped_columns t st c lt ∙ components-transposed g s

-- and so the Alexander degree.
pub alexander-image : (axis : Axis) (g : Marks) (s : IsGrid g) (c : ℕ) → c < size g → are_commuting axis g c ≡ true
    → (corner : Corner) (x y : List ℕ) → IsBijection (size g) x → IsBijection (size g) y
    → holds (image_of_state axis g c corner x) (rank y) ≡ true → alexander (swapped axis g c) y ≡ alexander g x
alexander-image axis g s c l h corner x y sx sy e =
    let k = image_KeepsDegrees axis g s c l h corner x y sx sy e in
    alexander_same g (swapped axis g c) x y (size-swapped axis g c) (components-swapped axis g s c l) k.by_o k.by_x

-- ---- as the contracts say it
pub maslov_o-image_of_state : (axis : Axis) (g : Marks) → IsGrid g → (c : ℕ) → c < size g
    → are_commuting axis g c ≡ true → (corner : Corner) (x y : List ℕ) → IsState x → length x ≡ size g → IsState y
    → length y ≡ size g
    → holds (image_of_state axis g c corner x) (rank y) ≡ true → maslov_o (swapped axis g c) y ≡ maslov_o g x
maslov_o-image_of_state axis g s c l h corner x y sx ex sy ey e =
    (image_KeepsDegrees axis g s c l h corner x y (subst (λ n. IsBijection n x) ex sx.bijection)
    (subst (λ n. IsBijection n y) ey sy.bijection) e).by_o

pub alexander-image_of_state : (axis : Axis) (g : Marks) → IsGrid g → (c : ℕ) → c < size g
    → are_commuting axis g c ≡ true → (corner : Corner) (x y : List ℕ) → IsState x → length x ≡ size g → IsState y
    → length y ≡ size g
    → holds (image_of_state axis g c corner x) (rank y) ≡ true → alexander (swapped axis g c) y ≡ alexander g x
alexander-image_of_state axis g s c l h corner x y sx ex sy ey e =
    alexander-image axis g s c l h corner x y (subst (λ n. IsBijection n x) ex sx.bijection)
    (subst (λ n. IsBijection n y) ey sy.bijection) e

-- a state of a list whose indices are the codes of a chain is in the chain
pub listed_holds : (z : Chain) (ys : List (List ℕ)) → map rank ys ≡ codes z → (k : ℕ) (d : List ℕ) → k < length ys
    → holds z (rank (get_or ys k d)) ≡ true
listed_holds z ys listed k d l =
    let held : All (λ c. holds z c ≡ true) (map rank ys) =
    subst (All (λ c. holds z c ≡ true)) (sym listed) (All-codes (λ c. holds z c ≡ true) z (λ c h. h)) in
    let long : length (map rank ys) ≡ length ys = length-map ys rank in
    ap (holds z) (sym (get_or-map rank ys k d 0 l)) ∙ held k 0 (omega arith)
