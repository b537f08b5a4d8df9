-- The homotopy for columns: a chain and its image there and back differ by the border of its homotopy and the homotopy
-- of its border, for every place, the seam too, and for both corners.
-- Route: for a state, the three are sums over two steps: a pentagon and one of the way back, a rectangle and then a
-- hexagon, or a hexagon and then a rectangle; together they come to the state itself (ThinHexagons). A chain is a sum
-- over its states.
use Rattle.std.proofs.Common.{Bool, List, ap, ap₂, arith, eqb, not, refl, slice_index, subst, swap, sym, true, ℕ, inl, inr, ◌&&◌, ◌||◌, ◌<◌, ◌∙◌, ◌≡◌, ◌≢◌, ◌⊎◌}
use Rattle.std.proofs.lemmas.Bool.{cases_eq, eq-eqb}
use Rattle.std.proofs.lemmas.List.Edits.{length-swap}
use Rattle.f2_algebra.proofs.Chains.ParityLemmas.{parity_below}
use Rattle.f2_algebra.proofs.Chains.Sets.{holds-add, same_chain, weight, weight-at, weight-same, weight-xor}
use Rattle.f2_algebra.proofs.Chains.Sums.{holds-sum_over, weight-sum_over}
use Rattle.f2_algebra.proofs.Chains.Tables.{same, ◌⊻◌}
use Rattle.f2_algebra.specs.Chain.{Chain, holds, sum_over, ◌⊕◌}
use Rattle.state_rank.proofs.BijectionLemmas.{one_to_one}
use Rattle.state_rank.proofs.RankLemmas.{IsBijection-unrank, rank-unrank}
use Rattle.state_rank.specs.Bijection.{IsBijection, tabulate}
use Rattle.state_rank.specs.States.{factorial, rank, unrank}
use Rattle.torus_geom.proofs.Circles.TurnLemmas.{one_down_below}
use Rattle.torus_geom.specs.Range.{one_down, one_up}
use Rattle.torus_geom.specs.Marks.{IsGrid, Marks, size}
use Rattle.rectangles.proofs.Square.CyclicOrder.{between}
use Rattle.rectangles.proofs.Square.EmptyRectangles.{free, is_clear_of}
use Rattle.rectangles.proofs.Square.OpenRectangles.{is_open, marks}
use Rattle.rectangles.proofs.Square.TwoSteps.{differ}
use Rattle.grid_moves.proofs.Exchanged.SwapGridLemmas.{IsGrid-swapped_columns}
use Rattle.grid_moves.specs.Moves.{are_commuting_columns, swapped_columns}
use Rattle.pentagon_map.proofs.ChainMap.FourRows.{AreBusy-rows, AreSides-rows, HasFourRows-commuting, IsThin-rows}
use Rattle.pentagon_map.proofs.ChainMap.ImageOfBorder.{border_weight, has_rank, image_by_columns, sum4_xor, two_step_sum}
use Rattle.pentagon_map.proofs.ChainMap.PentagonSums.{crossing_row-below, weight-column_image}
use Rattle.pentagon_map.proofs.ChainMap.RowArcs.{above_of}
use Rattle.pentagon_map.specs.Pentagon.{crossing_row}
use Rattle.pentagon_map.specs.declared.Corner.{Corner}
use Rattle.hexagon_map.specs.Hexagon.{crossing_row_back}
use Rattle.hexagon_map.proofs.WayBack.HexagonSums.{weight-column_homotopy}
use Rattle.hexagon_map.proofs.WayBack.Hexagons.{open_back, open_hexa}
use Rattle.hexagon_map.proofs.WayBack.MarksBetween.{no_mark_between-crossings}
use Rattle.hexagon_map.proofs.WayBack.ThinHexagons.{return_is}
use Rattle.torus_geom.specs.Inner.CodeBorder.{border, border_of_state}
use Rattle.torus_geom.proofs.Sums.AllBelowLemmas.{all_below-same}
use Rattle.rectangles.proofs.Square.Exchanges.{with_exchanged, with_exchanged-first, with_exchanged-other, with_exchanged-second}
use Rattle.rectangles.proofs.Square.RectangleTests.{swap-with_exchanged}
use Rattle.torus_geom.proofs.Sums.TabulateLemmas.{tabulate-slice_index}
use Rattle.pentagon_map.proofs.ChainMap.PentagonTests.{AreSides, O', X', is_open_pentagon, lacks, two}
use Rattle.pentagon_map.specs.Inner.CodeImages.{column_image}
use Rattle.hexagon_map.specs.Inner.CodeHomotopies.{column_homotopy}

-- a pentagon of the exchanged grid, by the marks of the grid
module _ (n r s w v : ℕ) (O X : ℕ → ℕ) (sd : AreSides n r s) where
  free_back : (P Q : ℕ → Bool)
      → free n (two r s) P (marks (O' n r s w O X) (X' n r s w O X) Q) ≡ free n (two r s) P (marks O X Q)
  free_back P Q =
      all_below-same n (λ t. two r s t || not (P t && marks (O' n r s w O X) (X' n r s w O X) Q t))
      (λ t. two r s t || not (P t && marks O X Q t)) (λ t l. each t (cases_eq t r) (cases_eq t s))
    where
      each : (t : ℕ) → (t ≡ r) ⊎ (t ≢ r) → (t ≡ s) ⊎ (t ≢ s)
          → (two r s t || not (P t && (Q (with_exchanged O r s t) || Q (with_exchanged X r s t))))
          ≡ (two r s t || not (P t && (Q (O t) || Q (X t))))
      each t (inl i) y =
          ap (λ z. (z || eqb t s) || not
          (P t && (Q (with_exchanged O r s t) || Q (with_exchanged X r s t)))) (eq-eqb t r i)
          ∙ sym (ap (λ z. (z || eqb t s) || not (P t && (Q (O t) || Q (X t)))) (eq-eqb t r i))
      each t (inr p) (inl i) =
          ap (λ z. (eqb t r || z) || not
          (P t && (Q (with_exchanged O r s t) || Q (with_exchanged X r s t)))) (eq-eqb t s i)
          ∙ same 3 (λ x y z. (x || true) || y) (λ x y z. (x || true) || z) refl (eqb t r)
          (not (P t && (Q (with_exchanged O r s t) || Q (with_exchanged X r s t)))) (not (P t && (Q (O t) || Q (X t))))
          ∙ sym (ap (λ z. (eqb t r || z) || not (P t && (Q (O t) || Q (X t)))) (eq-eqb t s i))
      each t (inr p) (inr q) =
          λ i. two r s t || not (P t && (Q (with_exchanged-other O r s t p q i)
          || Q (with_exchanged-other X r s t p q i)))

  lacks_right : (Q : ℕ → Bool) → lacks (O' n r s w O X) (X' n r s w O X) s Q ≡ lacks O X r Q
  lacks_right Q = λ i. not (Q (with_exchanged-second O r s sd.apart i) || Q (with_exchanged-second X r s sd.apart i))

  lacks_left : (Q : ℕ → Bool) → lacks (O' n r s w O X) (X' n r s w O X) r Q ≡ lacks O X s Q
  lacks_left Q = λ i. not (Q (with_exchanged-first O r s i) || Q (with_exchanged-first X r s i))

  pub back_is : (f : ℕ → ℕ) (a b : ℕ)
      → is_open_pentagon n r s v (O' n r s w O X) (X' n r s w O X) f a b ≡ open_back n r s w v O X f a b
  back_is f a b =
      λ i. differ a b && (is_clear_of n f a b (f a) (f b) && ((eqb a s || eqb b s) && (between (f a) (f b) v
      && (free_back (between a b) (between (f a) (f b)) i
      && (lacks_right (between (f a) v) i && lacks_left (above_of v (f b)) i)))))

-- the image of a state of a grid of size n
image_weight : (h : Marks) (n : ℕ) → size h ≡ n → IsGrid h → (c : ℕ) → c < size h → (corner : Corner) → (x : List ℕ)
    → IsBijection n x → (p : ℕ → Bool)
    → weight p (column_image h c corner x)
    ≡ parity_below n (λ a. parity_below n (λ b. is_open_pentagon n (one_down n c) c (crossing_row h c corner)
    (slice_index h.o) (slice_index h.x) (slice_index x) a b && p (rank (swap x a b))))
image_weight h n e s c lc corner =
    let P : ℕ → Type 0 = λ m. (x : List ℕ) → IsBijection m x → (p : ℕ → Bool)
    → weight p (column_image h c corner x)
    ≡ parity_below m (λ a. parity_below m (λ b. is_open_pentagon m (one_down m c) c (crossing_row h c corner)
    (slice_index h.o) (slice_index h.x) (slice_index x) a b && p (rank (swap x a b)))) in
    subst P e (λ x sx p. weight-column_image h s c corner lc (crossing_row-below h s c lc corner) x sx p)

balance : (u f l m : Bool) → u ⊻ (f ⊻ l) ≡ m → m ⊻ u ≡ l ⊻ f
balance u f l m e =
    ap (λ t. t ⊻ u) (sym e) ∙ same 3 (λ u f l. (u ⊻ (f ⊻ l)) ⊻ u) (λ u f l. l ⊻ f) refl u f l

-- the homotopy of a chain across columns
unfoldable pub homotopy_by_columns : Marks → ℕ → Corner → Chain → Chain
homotopy_by_columns g c corner z = sum_over z (λ code. column_homotopy g c corner (unrank (size g) code))

module _ (g : Marks) (s : IsGrid g) (c : ℕ) (lc : c < size g) (commutes : are_commuting_columns g c ≡ true)
    (corner : Corner) where
  abbrev n : ℕ
  n = size g

  abbrev b : ℕ
  b = one_down (size g) c

  abbrev w : ℕ
  w = crossing_row g c corner

  abbrev v : ℕ
  v = crossing_row_back g c corner

  abbrev there : Marks
  there = swapped_columns g c

  same_size : size there ≡ n
  same_size = length-swap g.o b c

  is_grid : IsGrid there
  is_grid = IsGrid-swapped_columns g c s lc

  lc_there : c < size there
  lc_there = let e = same_size in let l = lc in omega arith

  lw : w < n
  lw = crossing_row-below g s c lc corner

  lv : v < n
  lv = let e = same_size in let l = crossing_row-below there is_grid c lc_there corner in omega arith

  lb : b < n
  lb = one_down_below n c lc

  rows_exchanged : (rows : List ℕ) → IsBijection n rows
      → slice_index (swap rows b c) ≡ with_exchanged (slice_index rows) b c
  rows_exchanged rows k = let e = k.long in let l = lc in let m = lb in
      swap-with_exchanged rows b c (omega arith) (omega arith)

  abbrev rectangle : (ℕ → ℕ) → ℕ → ℕ → Bool
  rectangle f i j = is_open n (slice_index g.o) (slice_index g.x) f i j

  abbrev pentagon : (ℕ → ℕ) → ℕ → ℕ → Bool
  pentagon f i j = is_open_pentagon n b c w (slice_index g.o) (slice_index g.x) f i j

  abbrev pentagon_there : (ℕ → ℕ) → ℕ → ℕ → Bool
  pentagon_there f i j = is_open_pentagon n b c v (slice_index there.o) (slice_index there.x) f i j

  abbrev pentagon_back : (ℕ → ℕ) → ℕ → ℕ → Bool
  pentagon_back f i j = open_back n b c w v (slice_index g.o) (slice_index g.x) f i j

  abbrev hexagon : (ℕ → ℕ) → ℕ → ℕ → Bool
  hexagon f i j = open_hexa n b c w v (slice_index g.o) (slice_index g.x) f i j

  sides : AreSides n b c
  sides = AreSides-rows g s c (HasFourRows-commuting g c lc commutes)

  back_pentagon : (f : ℕ → ℕ) (i j : ℕ) → pentagon_there f i j ≡ pentagon_back f i j
  back_pentagon f i j =
      ap₂ (λ O X. is_open_pentagon n b c v O X f i j) (rows_exchanged g.o s.o) (rows_exchanged g.x s.x)
      ∙ back_is n b c w v (slice_index g.o) (slice_index g.x) sides f i j

  -- what each of the three holds of a state
  holds_back : (y : List ℕ) → IsBijection n y → (q : ℕ)
      → holds (column_image there c corner y) q
      ≡ parity_below n (λ i. parity_below n (λ j. pentagon_there (slice_index y) i j && eqb q (rank (swap y i j))))
  holds_back y sy q =
      sym (weight-at (column_image there c corner y) q)
      ∙ image_weight there n same_size is_grid c lc_there corner y sy (λ t. eqb q t)

  holds_border : (y : List ℕ) → IsBijection n y → (q : ℕ)
      → holds (border_of_state g y) q
      ≡ parity_below n (λ i. parity_below n (λ j. rectangle (slice_index y) i j && eqb q (rank (swap y i j))))
  holds_border y sy q =
      sym (weight-at (border_of_state g y) q) ∙ border_weight g n refl s y sy (λ t. eqb q t)

  holds_homotopy : (y : List ℕ) → IsBijection n y → (q : ℕ)
      → holds (column_homotopy g c corner y) q
      ≡ parity_below n (λ i. parity_below n (λ j. hexagon (slice_index y) i j && eqb q (rank (swap y i j))))
  holds_homotopy y sy q =
      sym (weight-at (column_homotopy g c corner y) q)
      ∙ weight-column_homotopy g s c corner lc lw lv y sy (λ t. eqb q t)

  -- for a state
  of_state : (x : List ℕ) → IsBijection n x → (q : ℕ)
      → eqb q (rank x) ⊻ weight (λ t. holds (column_image there c corner (unrank n t)) q) (column_image g c corner x)
      ≡ weight (λ t. holds (border_of_state g (unrank n t)) q) (column_homotopy g c corner x)
      ⊻ weight (λ t. holds (column_homotopy g c corner (unrank n t)) q) (border_of_state g x)
  of_state x sx q =
      let f : ℕ → ℕ = slice_index x in
      let T : (ℕ → ℕ) → Bool = has_rank n x sx rectangle hexagon q in
      let k = no_mark_between-crossings g s c lc commutes corner in
      let over : ((ℕ → ℕ) → ℕ → ℕ → Bool) → ((ℕ → ℕ) → ℕ → ℕ → Bool) → Bool =
      λ one other. parity_below n (λ i. parity_below n (λ j. parity_below n
      (λ d. parity_below n (λ e. one f i j && (other (with_exchanged f i j) d e
      && T (with_exchanged (with_exchanged f i j) d e)))))) in
      let there_back : weight (λ t. holds (column_image there c corner (unrank n t)) q) (column_image g c corner x)
      ≡ over pentagon pentagon_back =
      weight-column_image g s c corner lc lw x sx (λ t. holds (column_image there c corner (unrank n t)) q)
      ∙ two_step_sum n x sx pentagon pentagon_there q (λ y. holds (column_image there c corner y) q)
      (λ y sy. holds_back y sy q)
      ∙ (λ z. over pentagon (λ h i j. back_pentagon h i j z)) in
      let border_first : weight (λ t. holds (column_homotopy g c corner (unrank n t)) q) (border_of_state g x)
      ≡ over rectangle hexagon =
      border_weight g n refl s x sx (λ t. holds (column_homotopy g c corner (unrank n t)) q)
      ∙ two_step_sum n x sx rectangle hexagon q (λ y. holds (column_homotopy g c corner y) q)
      (λ y sy. holds_homotopy y sy q) in
      let border_last : weight (λ t. holds (border_of_state g (unrank n t)) q) (column_homotopy g c corner x)
      ≡ over hexagon rectangle =
      weight-column_homotopy g s c corner lc lw lv x sx (λ t. holds (border_of_state g (unrank n t)) q)
      ∙ two_step_sum n x sx hexagon rectangle q (λ y. holds (border_of_state g y) q)
      (λ y sy. holds_border y sy q) in
      let whole : over pentagon pentagon_back ⊻ (over rectangle hexagon ⊻ over hexagon rectangle)
      ≡ eqb q (rank x) =
      ap (λ t. over pentagon pentagon_back ⊻ t) (sym (sum4_xor n _ _))
      ∙ sym (sum4_xor n _ _)
      ∙ return_is n b c (one_up n c) w v (slice_index g.o) (slice_index g.x) sides
      (IsThin-rows g s c (HasFourRows-commuting g c lc commutes))
      (AreBusy-rows g s c (HasFourRows-commuting g c lc commutes)) (λ d l. (s.o.small d l, s.x.small d l)) lw lv
      k.differ (λ z. not (k.right_o z || k.right_x z)) (λ z. not (k.left_o z || k.left_x z)) f (one_to_one n x sx) T
      ∙ ap (λ y. eqb q (rank y)) (ap (λ m. tabulate m f) (sym sx.long) ∙ tabulate-slice_index x) in
      ap (λ t. eqb q (rank x) ⊻ t) there_back
      ∙ balance (over pentagon pentagon_back) (over rectangle hexagon) (over hexagon rectangle) (eqb q (rank x)) whole
      ∙ sym (ap₂ (λ t u. t ⊻ u) border_last border_first)

  -- A chain of states and its image there and back together are the border of its homotopy and the homotopy of its
  -- border.
  pub homotopy_by_columns-law : (z : Chain) → ((k : ℕ) → holds z k ≡ true → k < factorial (size g))
      → z ⊕ image_by_columns (swapped_columns g c) c corner (image_by_columns g c corner z)
      ≡ border g (homotopy_by_columns g c corner z) ⊕ homotopy_by_columns g c corner (border g z)
  unfolding image_by_columns homotopy_by_columns border
  homotopy_by_columns-law z states = same_chain _ _ (λ q.
      let image_of : ℕ → Chain = λ code. column_image g c corner (unrank n code) in
      let back_of : ℕ → Chain = λ code. column_image there c corner (unrank n code) in
      let border_of : ℕ → Chain = λ code. border_of_state g (unrank n code) in
      let homotopy_of : ℕ → Chain = λ code. column_homotopy g c corner (unrank n code) in
      holds-add z _ q
      ∙ ap₂ (λ t u. t ⊻ u) (sym (weight-at z q))
      (ap (λ m. holds (sum_over (sum_over z image_of) (λ code. column_image there c corner (unrank m code))) q)
      same_size
      ∙ two_sums z image_of back_of q)
      ∙ sym (weight-xor (λ k. eqb q k) (λ k. weight (λ t. holds (back_of t) q) (image_of k)) z)
      ∙ weight-same _ _ z (λ k in_z.
      let l = states k in_z in
      ap (λ r. eqb q r ⊻ weight (λ t. holds (back_of t) q) (image_of k)) (sym (rank-unrank n k l))
      ∙ of_state (unrank n k) (IsBijection-unrank n k l) q)
      ∙ weight-xor (λ k. weight (λ t. holds (border_of t) q) (homotopy_of k))
      (λ k. weight (λ t. holds (homotopy_of t) q) (border_of k)) z
      ∙ sym (holds-add (sum_over (sum_over z homotopy_of) border_of) (sum_over (sum_over z border_of) homotopy_of) q
      ∙ ap₂ (λ t u. t ⊻ u) (two_sums z homotopy_of border_of q) (two_sums z border_of homotopy_of q)))
    where
      two_sums : (z : Chain) (f h : ℕ → Chain) (q : ℕ)
          → holds (sum_over (sum_over z f) h) q ≡ weight (λ k. weight (λ t. holds (h t) q) (f k)) z
      two_sums z f h q = holds-sum_over (sum_over z f) h q ∙ weight-sum_over (λ t. holds (h t) q) z f
