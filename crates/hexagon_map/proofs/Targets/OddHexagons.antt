-- The homotopy of a state as a sum over the circles other than c: those for which exactly one of the two rectangles
-- between c and them is a hexagon. For rows the same, with columns and rows exchanged.
use Rattle.std.proofs.Common.{Bool, List, ap, arith, cond, eqb, false, inl, inr, length, map, not, refl, slice_index, subst, swap, sym, ℕ, ◌&&◌, ◌<◌, ◌||◌, ◌∙◌, ◌≡◌, ◌≢◌}
use Rattle.std.proofs.lemmas.Bool.{cases_eq, ne_eqb}
use Rattle.std.proofs.lemmas.List.Edits.{length-swap}
use Rattle.std.specs.Int.{bit_at}
use Rattle.f2_algebra.proofs.Chains.ParityLemmas.{parity_below, parity_below-same}
use Rattle.f2_algebra.proofs.Chains.Sets.{weight-at}
use Rattle.f2_algebra.proofs.Chains.Tables.{and-false, same, ◌⊻◌}
use Rattle.f2_algebra.specs.Chain.{codes, holds}
use Rattle.state_rank.proofs.BijectionLemmas.{one_to_one}
use Rattle.state_rank.proofs.SwapLemmas.{IsBijection-swap}
use Rattle.state_rank.specs.Bijection.{IsBijection}
use Rattle.state_rank.specs.States.{IsState, rank, transpose}
use Rattle.torus_geom.proofs.TransposeLemmas.{IsBijection-transposed, IsGrid-transposed}
use Rattle.torus_geom.specs.Marks.{IsGrid, Marks, size}
use Rattle.torus_geom.specs.Range.{in_range, one_down}
use Rattle.torus_geom.specs.Rectangle.{is_empty}
use Rattle.torus_geom.specs.Transposed.{transposed}
use Rattle.rectangles.proofs.Square.TwoSteps.{differ, differ-self, differ_comm}
use Rattle.rectangles.specs.Inner.Open.{leaving}
use Rattle.grid_moves.proofs.Exchanged.SwapGridLemmas.{IsGrid-swapped_columns}
use Rattle.grid_moves.proofs.Exchanged.TransposedGrids.{size-transposed, transpose-transpose, transpose_AreInverse}
use Rattle.grid_moves.proofs.Turned.CarriedChains.{eqb-renamed, eqb_alike, holds-carried, moved-rank, moved-undone}
use Rattle.grid_moves.proofs.Turned.Reindexing.{parity_below_reindex}
use Rattle.grid_moves.specs.Moves.{swapped_columns}
use Rattle.grid_moves.specs.declared.commutations.Axis.{Axis}
use Rattle.grid_moves.specs.declared.commutations.Axis.TheVariants.{Cols, Rows}
use Rattle.pentagon_map.proofs.ChainMap.PentagonSums.{crossing_row-below}
use Rattle.pentagon_map.proofs.Rows.Transposing.{transpose-swap}
use Rattle.pentagon_map.proofs.Targets.InOrder.{codes-in_order}
use Rattle.pentagon_map.proofs.Targets.OddSums.{cross_sum, set_alike, set_by, swap_comm}
use Rattle.pentagon_map.specs.Inner.Exchanges.{across, in_order, is_set}
use Rattle.pentagon_map.specs.Pentagon.{crossing_row, is_unmarked_beside}
use Rattle.pentagon_map.specs.declared.Corner.{Corner}
use Rattle.hexagon_map.specs.Hexagon.{crossing_row_back}
use Rattle.hexagon_map.specs.Inner.Hexagons.{is_hexagon_at, is_odd_circle}
use Rattle.hexagon_map.proofs.WayBack.HexagonSums.{hexagon_at, passes_at-hexagon, weight-column_homotopy}
use Rattle.grid_moves.specs.Inner.CodeCarried.{moved}
use Rattle.hexagon_map.specs.Inner.CodeHomotopies.{column_homotopy, homotopy_of_state}

-- the crossing row of the way back is a row
pub crossing_row_back-below : (g : Marks) → IsGrid g → (c : ℕ) → c < size g → (corner : Corner)
    → crossing_row_back g c corner < size g
crossing_row_back-below g s c lc corner =
    let e = length-swap g.o (one_down (size g) c) c in
    let l = crossing_row-below (swapped_columns g c) (IsGrid-swapped_columns g c s lc) c (omega arith) corner in
    omega arith

module _ (g : Marks) (s : IsGrid g) (c : ℕ) (corner : Corner) (lc : c < size g) (x : List ℕ)
    (sx : IsBijection (size g) x) where
  abbrev w : ℕ
  w = crossing_row g c corner

  abbrev v : ℕ
  v = crossing_row_back g c corner

  lw : w < size g
  lw = crossing_row-below g s c lc corner

  lv : v < size g
  lv = crossing_row_back-below g s c lc corner

  abbrev H : ℕ → ℕ → Bool
  H a b = is_hexagon_at g c (crossing_row g c corner) (crossing_row_back g c corner) x a b

  -- the rectangle is a hexagon if the test of the state holds
  hexagon_is : (a b : ℕ) → a < size g → b < size g
      → hexagon_at g s c w v lc lw lv (slice_index x) a b ≡ (differ a b && H a b)
  unfolding is_hexagon_at
  hexagon_is a b la lb = sym (passes_at-hexagon g s c w v lc lw lv x sx a b la lb)

  -- if no circle is c there is none
  off_circle : (a b : ℕ) → a ≢ c → b ≢ c → H a b ≡ false
  unfolding is_hexagon_at
  off_circle a b p q =
      (λ i. is_empty x (leaving x a b)
      && (((ne_eqb b c q i && in_range (size g) (slice_index x a) w v)
      || (ne_eqb a c p i && in_range (size g) (slice_index x a) v w))
      && ((in_range (size g) (slice_index x a) (slice_index x b) v
      && in_range (size g) (slice_index x a) (slice_index x b) w) && is_unmarked_beside g c (leaving x a b))))
      ∙ and-false (is_empty x (leaving x a b))

  odd_is : (b : ℕ) → (t : Bool)
      → ((differ c b && H c b) && t) ⊻ ((differ b c && H b c) && t)
      ≡ (differ b c && (is_odd_circle g c (crossing_row g c corner) (crossing_row_back g c corner) x b && t))
  unfolding is_odd_circle
  odd_is b t =
      ap (λ d. ((d && H c b) && t) ⊻ ((differ b c && H b c) && t)) (differ_comm c b)
      ∙ same 4 (λ d u v t. ((d && u) && t) ⊻ ((d && v) && t))
      (λ d u v t. d && ((d && ((u && not v) || (not u && v))) && t)) refl (differ b c) (H c b) (H b c) t

  -- what the homotopy across columns holds
  pub holds-column_homotopy : (odd : ℕ)
      → ((b : ℕ) → b < size g
      → bit_at odd b ≡ cond (is_odd_circle g c (crossing_row g c corner) (crossing_row_back g c corner) x b) 1 0)
      → (q : ℕ)
      → holds (column_homotopy g c corner x) q
      ≡ parity_below (size g) (λ b. differ b c && (is_set odd b && eqb q (rank (swap x c b))))
  holds-column_homotopy odd has q =
      sym (weight-at (column_homotopy g c corner x) q)
      ∙ weight-column_homotopy g s c corner lc lw lv x sx (λ t. eqb q t)
      ∙ parity_below-same (size g) _ _
      (λ a la. parity_below-same (size g) _ (λ b. (differ a b && H a b) && eqb q (rank (swap x a b)))
      (λ b lb. ap (λ t. t && eqb q (rank (swap x a b))) (hexagon_is a b la lb)))
      ∙ cross_sum (size g) c (λ a b. (differ a b && H a b) && eqb q (rank (swap x a b))) lc
      (λ a b la lb p r. ap (λ t. (differ a b && t) && eqb q (rank (swap x a b))) (off_circle a b p r)
      ∙ same 2 (λ u v. (u && false) && v) (λ u v. false) refl (differ a b) (eqb q (rank (swap x a b))))
      (ap (λ t. (t && H c c) && eqb q (rank (swap x c c))) (differ-self c))
      ∙ parity_below-same (size g) _ _ (λ b lb.
      ap (λ y. ((differ c b && H c b) && eqb q (rank (swap x c b))) ⊻ ((differ b c && H b c) && eqb q (rank y)))
      (swap_comm (size g) x sx b c lb lc)
      ∙ odd_is b (eqb q (rank (swap x c b)))
      ∙ ap (λ t. differ b c && (t && eqb q (rank (swap x c b))))
      (sym (set_by odd b (is_odd_circle g c (crossing_row g c corner) (crossing_row_back g c corner) x b) (has b lb))))

-- The exchanges of circle c, in order, are the homotopy across columns.
pub codes-column_homotopy : (g : Marks) → IsGrid g → (c : ℕ) (corner : Corner) → c < size g → (x : List ℕ)
    → IsBijection (size g) x → (odd : ℕ)
    → ((b : ℕ) → b < size g
    → bit_at odd b ≡ cond (is_odd_circle g c (crossing_row g c corner) (crossing_row_back g c corner) x b) 1 0)
    → map rank (in_order x c odd) ≡ codes (column_homotopy g c corner x)
codes-column_homotopy g s c corner lc x sx odd has =
    codes-in_order (size g) x sx c odd lc (column_homotopy g c corner x)
    (holds-column_homotopy g s c corner lc x sx odd has)

-- The exchanges of the circle of row c, in order, are the homotopy across rows.
pub codes-row_homotopy : (g : Marks) → IsGrid g → (c : ℕ) (corner : Corner) → c < size g → (x : List ℕ)
    → IsBijection (size g) x
    → (odd bits : ℕ)
    → ((d : ℕ) → d < size g
    → bit_at odd d ≡ cond (is_odd_circle (transposed g) c (crossing_row (transposed g) c corner)
    (crossing_row_back (transposed g) c corner) (transpose x) d) 1 0)
    → ((d : ℕ) → d < size g → bit_at bits (slice_index (transpose x) d) ≡ bit_at odd d)
    → map rank (in_order x (slice_index (transpose x) c) bits) ≡ codes (homotopy_of_state Rows g c corner x)
codes-row_homotopy g s c corner lc x sx odd bits has carries =
    let n : ℕ = size g in
    let t : Marks = transposed g in
    let u : List ℕ = transpose x in
    let e = size-transposed g in
    let su = IsBijection-transposed n x sx in
    let st = IsGrid-transposed g s in
    let a : ℕ = slice_index u c in
    let is = transpose_AreInverse n in
    codes-in_order n x sx a bits (su.small c lc) (homotopy_of_state Rows g c corner x) (λ q.
    holds-carried n transpose transpose is (column_homotopy t c corner u) q
    ∙ holds-column_homotopy t st c corner (omega arith) u (subst (λ m. IsBijection m u) (sym e) su) odd
    (λ b l. has b (omega arith)) (moved n transpose q)
    ∙ ap (λ m. parity_below m (λ d. differ d c && (is_set odd d && eqb (moved n transpose q) (rank (swap u c d))))) e
    ∙ parity_below-same n _ (λ d. differ (slice_index u d) a
    && (is_set bits (slice_index u d) && eqb q (rank (swap x a (slice_index u d))))) (λ d ld.
    let moved_is : moved n transpose (rank (swap u c d)) ≡ rank (swap x a (slice_index u d)) =
    moved-rank n transpose (swap u c d) (IsBijection-swap n u c d lc ld su)
    ∙ ap rank (sym (transpose-swap n u su c d lc ld) ∙ ap (λ y. swap y a (slice_index u d))
    (transpose-transpose n x sx)) in
    λ i. other d ld i && (set_alike odd bits d (slice_index u d) (sym (carries d ld)) i
    && (sym (eqb-renamed (moved n transpose) (moved n transpose) (moved-undone n transpose transpose is)
    (moved-undone n transpose transpose is) q (rank (swap u c d))) ∙ ap (eqb q) moved_is) i))
    ∙ parity_below_reindex n (slice_index u) (one_to_one n u su)
    (λ b. differ b a && (is_set bits b && eqb q (rank (swap x a b)))))
  where
    other : (d : ℕ) → d < size g → differ d c ≡ differ (slice_index (transpose x) d) (slice_index (transpose x) c)
    other d ld =
        let su = IsBijection-transposed (size g) x sx in
        ap not (eqb_alike d c (slice_index (transpose x) d) (slice_index (transpose x) c)
        (ap (slice_index (transpose x)))
        (λ e. elim (cases_eq d c) [ inl i ↦ i | inr p ↦ absurd (su.apart d c ld lc p e) ]))

-- ---- the answers of the two axes
module _ (t g : Marks) (st : IsGrid t) (axis : Axis) (c w v : ℕ) (corner : Corner) (x : List ℕ) (sx : IsState x)
    (same_size : length x ≡ size t) (lc : c < size t) where
  bijection : IsBijection (size t) x
  bijection = subst (λ m. IsBijection m x) same_size sx.bijection

  -- columns
  pub column_hexagons_listed : axis ≡ Cols → t ≡ across axis g → w ≡ crossing_row t c corner
      → v ≡ crossing_row_back t c corner
      → (odd : ℕ) → ((b : ℕ) → b < size t → bit_at odd b ≡ cond (is_odd_circle t c w v x b) 1 0)
      → (items : List (List ℕ)) → items ≡ in_order x c odd
      → map rank items ≡ codes (homotopy_of_state axis g c corner x)
  column_hexagons_listed by_cols is there back odd has items listed =
      ap (map rank) listed
      ∙ codes-column_homotopy t st c corner lc x bijection odd
      (λ b l. has b l ∙ (λ i. cond (is_odd_circle t c (there i) (back i) x b) 1 0))
      ∙ ap (λ h. codes (column_homotopy h c corner x)) (is ∙ ap (λ a. across a g) by_cols)
      ∙ ap (λ a. codes (homotopy_of_state a g c corner x)) (sym by_cols)

  -- rows
  pub row_hexagons_listed : IsGrid g → axis ≡ Rows → t ≡ across axis g → w ≡ crossing_row t c corner
      → v ≡ crossing_row_back t c corner → (columns : List ℕ) → columns ≡ transpose x
      → (odd bits a : ℕ) → ((d : ℕ) → d < size t → bit_at odd d ≡ cond (is_odd_circle t c w v columns d) 1 0)
      → ((d : ℕ) → d < length columns → bit_at bits (slice_index columns d) ≡ bit_at odd d) → a ≡ slice_index columns c
      → (items : List (List ℕ)) → items ≡ in_order x a bits
      → map rank items ≡ codes (homotopy_of_state axis g c corner x)
  row_hexagons_listed sg by_rows is there back columns turned odd bits a has carries at items listed =
      let grid_is : t ≡ transposed g = is ∙ ap (λ a. across a g) by_rows in
      let n_is : size t ≡ size g = ap size grid_is ∙ size-transposed g in
      let sx' = subst (λ m. IsBijection m x) n_is bijection in
      let long = (IsBijection-transposed (size g) x sx').long in
      let long' : length columns ≡ size g = ap length turned ∙ long in
      ap (map rank) (listed ∙ ap (λ k. in_order x k bits) (at ∙ ap (λ u. slice_index u c) turned))
      ∙ codes-row_homotopy g sg c corner (omega arith) x sx' odd bits
      (λ d l. has d (omega arith)
      ∙ (λ i. cond (is_odd_circle t c (there i) (back i) (turned i) d) 1 0)
      ∙ ap (λ h. cond (is_odd_circle h c (crossing_row h c corner) (crossing_row_back h c corner) (transpose x) d) 1 0)
      grid_is)
      (λ d l. ap (λ u. bit_at bits (slice_index u d)) (sym turned) ∙ carries d (omega arith))
      ∙ ap (λ a. codes (homotopy_of_state a g c corner x)) (sym by_rows)
