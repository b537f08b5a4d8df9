-- The chain map for columns: the image of the border of a chain is the border, in the exchanged grid, of its
-- image, for every place, the seam too, and for both crossings.
-- Route: for a state, both sides are sums over two steps, a rectangle and then a pentagon, or a pentagon and
-- then a rectangle of the exchanged grid; together they vanish (ThinAnnuli). The image of a chain is a sum over
-- its states, and a code that is the index of no state has the empty list for its state, which no pentagon leaves.
use Rattle.std.proofs.Common.{Bool, List, [], ap, ap₂, arith, eqb, false, inl, inr, length, map, not, refl, slice_index, subst, swap, sym, ℕ, ◌&&◌, ◌<◌, ◌∙◌, ◌≡◌}
use Rattle.std.proofs.lemmas.Bool.{cases_lt}
use Rattle.std.proofs.lemmas.List.Edits.{length-swap}
use Rattle.std.specs.List.{filter}
use Rattle.f2_algebra.proofs.Chains.ParityLemmas.{below, is_odd-filter, parity-and, parity-xor, parity_below, parity_below-none, parity_below-same}
use Rattle.f2_algebra.proofs.Chains.Sets.{same_chain, weight, weight-at, weight-nothing, weight-same}
use Rattle.f2_algebra.proofs.Chains.Sums.{holds-sum_over, weight-sum_over}
use Rattle.f2_algebra.proofs.Chains.Tables.{same, xor_zero, ◌⊻◌}
use Rattle.f2_algebra.specs.Chain.{Chain, holds, is_odd, nothing, of_codes, sum_over}
use Rattle.state_rank.proofs.BijectionLemmas.{one_to_one}
use Rattle.state_rank.proofs.RankLemmas.{IsBijection-unrank, unrank-rank, unrank-past}
use Rattle.state_rank.proofs.SwapLemmas.{IsBijection-swap}
use Rattle.state_rank.specs.Bijection.{IsBijection, tabulate}
use Rattle.state_rank.specs.States.{factorial, rank, states, unrank}
use Rattle.torus_geom.proofs.Circles.TurnLemmas.{one_down_below}
use Rattle.torus_geom.specs.Inner.CodeBorder.{border, border_of_state}
use Rattle.torus_geom.specs.Range.{one_down, one_up}
use Rattle.torus_geom.specs.Marks.{IsGrid, Marks, size}
use Rattle.torus_geom.specs.Rectangle.{is_empty, is_same, leads, rectangles}
use Rattle.torus_geom.specs.declared.rects.Rect.{Rect}
use Rattle.rectangles.proofs.Square.Exchanges.{with_exchanged}
use Rattle.rectangles.proofs.Square.OpenRectangles.{is_open}
use Rattle.rectangles.proofs.Square.RectangleSums.{parity-rectangles, weight-border_of_state}
use Rattle.rectangles.proofs.Square.RectangleTests.{swap-with_exchanged}
use Rattle.rectangles.proofs.Square.TwoSteps.{differ}
use Rattle.grid_moves.proofs.Exchanged.SwapGridLemmas.{IsGrid-swapped_columns}
use Rattle.grid_moves.specs.Moves.{swapped_columns}
use Rattle.pentagon_map.proofs.ChainMap.FourRows.{AreBusy-rows, AreSides-rows, HasFourRows, IsThin-rows}
use Rattle.pentagon_map.proofs.ChainMap.PentagonSums.{crossing_row-below, pentagon_at, weight-column_image}
use Rattle.pentagon_map.proofs.ChainMap.ThinAnnuli.{pairs_none}
use Rattle.pentagon_map.specs.Inner.CodeImages.{column_image}
use Rattle.pentagon_map.specs.Pentagon.{crossing_row, is_pentagon, is_pentagonal}
use Rattle.pentagon_map.specs.declared.Corner.{Corner}
use Rattle.torus_geom.proofs.Circles.RectangleLemmas.{corners, border_of_state-nil}
use Rattle.torus_geom.proofs.Sums.TabulateLemmas.{filter-none, tabulate-slice_index}

-- the sum of two terms, over two steps
pub sum4_xor : (n : ℕ) (f h : ℕ → ℕ → ℕ → ℕ → Bool)
    → parity_below n (λ a. parity_below n (λ b. parity_below n (λ c. parity_below n (λ d. f a b c d ⊻ h a b c d))))
    ≡ parity_below n (λ a. parity_below n (λ b. parity_below n (λ c. parity_below n (f a b c))))
    ⊻ parity_below n (λ a. parity_below n (λ b. parity_below n (λ c. parity_below n (h a b c))))
sum4_xor n f h =
    parity_below-same n _ (λ a. parity_below n (λ b. parity_below n (λ c. parity_below n (f a b c)))
    ⊻ parity_below n (λ b. parity_below n (λ c. parity_below n (h a b c)))) (λ a la.
    parity_below-same n _ (λ b. parity_below n (λ c. parity_below n (f a b c))
    ⊻ parity_below n (λ c. parity_below n (h a b c))) (λ b lb.
    parity_below-same n _ (λ c. parity_below n (f a b c) ⊻ parity_below n (h a b c))
    (λ c lc. parity-xor (f a b c) (h a b c) (below n))
    ∙ parity-xor (λ c. parity_below n (f a b c)) (λ c. parity_below n (h a b c)) (below n))
    ∙ parity-xor (λ b. parity_below n (λ c. parity_below n (f a b c)))
    (λ b. parity_below n (λ c. parity_below n (h a b c))) (below n))
    ∙ parity-xor (λ a. parity_below n (λ b. parity_below n (λ c. parity_below n (f a b c))))
    (λ a. parity_below n (λ b. parity_below n (λ c. parity_below n (h a b c)))) (below n)

-- a first step and a second one: the weight of the second is a sum for each first one
module _ (n : ℕ) (x : List ℕ) (sx : IsBijection n x) (first second : (ℕ → ℕ) → ℕ → ℕ → Bool) (q : ℕ) where
  -- the state of f has the index q
  abbrev pub has_rank : (ℕ → ℕ) → Bool
  has_rank f = eqb q (rank (tabulate n f))

  swap-exchanged : (y : List ℕ) → IsBijection n y → (a b : ℕ) → a < n → b < n
      → slice_index (swap y a b) ≡ with_exchanged (slice_index y) a b
  swap-exchanged y sy a b la lb = let e = sy.long in swap-with_exchanged y a b (omega arith) (omega arith)

  swap-tabulate : (y : List ℕ) → IsBijection n y → (a b : ℕ) → a < n → b < n
      → swap y a b ≡ tabulate n (with_exchanged (slice_index y) a b)
  swap-tabulate y sy a b la lb =
      let st = IsBijection-swap n y a b la lb sy in
      sym (tabulate-slice_index (swap y a b)) ∙ ap₂ (λ m f. tabulate m f) st.long (swap-exchanged y sy a b la lb)

  pub two_step_sum : (W : List ℕ → Bool)
      → ((y : List ℕ) → IsBijection n y
      → W y ≡ parity_below n (λ a. parity_below n (λ b. second (slice_index y) a b && eqb q (rank (swap y a b)))))
      → parity_below n (λ a. parity_below n (λ b. first (slice_index x) a b && W (unrank n (rank (swap x a b)))))
      ≡ parity_below n (λ a. parity_below n (λ b. parity_below n (λ c. parity_below n (λ d.
      first (slice_index x) a b
      && (second (with_exchanged (slice_index x) a b) c d
      && has_rank (with_exchanged (with_exchanged (slice_index x) a b) c d))))))
  two_step_sum W is =
      let f : ℕ → ℕ = slice_index x in
      parity_below-same n _ _ (λ a la. parity_below-same n _ _ (λ b lb.
      let u : List ℕ = swap x a b in
      let su = IsBijection-swap n x a b la lb sx in
      ap (λ y. first f a b && W y) (unrank-rank n u su)
      ∙ ap (λ t. first f a b && t) (is u su
      ∙ parity_below-same n _ (λ c. parity_below n (λ d. second (slice_index u) c d
      && has_rank (with_exchanged (slice_index u) c d)))
      (λ c lc. parity_below-same n _ (λ d. second (slice_index u) c d && has_rank (with_exchanged (slice_index u) c d))
      (λ d ld.
      ap (λ y. second (slice_index u) c d && eqb q (rank y)) (swap-tabulate u su c d lc ld))))
      ∙ ap (λ h. first f a b && parity_below n
      (λ c. parity_below n (λ d. second h c d && has_rank (with_exchanged h c d))))
      (swap-exchanged x sx a b la lb)
      ∙ sym (parity-and (first f a b)
      (λ c. parity_below n (λ d. second (with_exchanged f a b) c d
      && has_rank (with_exchanged (with_exchanged f a b) c d)))
      (below n))
      ∙ parity_below-same n _ _ (λ c lc.
      sym (parity-and (first f a b) (λ d. second (with_exchanged f a b) c d
      && has_rank (with_exchanged (with_exchanged f a b) c d))
      (below n)))))

-- the border of a state of a grid of size n
pub border_weight : (h : Marks) (n : ℕ) → size h ≡ n → IsGrid h → (x : List ℕ) → IsBijection n x → (p : ℕ → Bool)
    → weight p (border_of_state h x)
    ≡ parity_below n (λ a. parity_below n (λ b. is_open n (slice_index h.o) (slice_index h.x) (slice_index x) a b
    && p (rank (swap x a b))))
border_weight h n e s =
    let P : ℕ → Type 0 = λ m. (x : List ℕ) → IsBijection m x → (p : ℕ → Bool)
    → weight p (border_of_state h x)
    ≡ parity_below m (λ a. parity_below m (λ b. is_open m (slice_index h.o) (slice_index h.x) (slice_index x) a b
    && p (rank (swap x a b)))) in
    subst P e (λ x sx p. weight-border_of_state h s x sx p)

-- ---- codes that are indices of no state

leads_nowhere : (j k : ℕ) (s t : Bool) → (differ j k && ((eqb 0 j && (eqb 0 k && s)) && t)) ≡ false
leads_nowhere j k s t = by j k s t
  where
    by : (j k : ℕ) (s t : Bool) → (not (eqb j k) && ((eqb 0 j && (eqb 0 k && s)) && t)) ≡ false
    by j k s t = grind arith

pub none_leads : (n : ℕ) (ok : Rect → Bool) (y : List ℕ)
    → is_odd (length (filter (λ r. leads r [] y && ok r) (rectangles n))) ≡ false
none_leads n ok y =
    is_odd-filter (λ r. leads r [] y && ok r) (rectangles n) ∙ parity-rectangles (λ r. leads r [] y && ok r) n
    ∙ parity_below-none n _ (λ a la. parity_below-none n _ (λ b lb.
    ap (λ t. differ a b && t) (parity_below-none n _ (λ j lj. parity_below-none n _
    (λ k lk. leads_nowhere j k (is_same (swap [] a b) y) (ok (corners a b j k)))))
    ∙ same 1 (λ d. d && false) (λ d. false) refl (differ a b)))

-- no pentagon leaves the empty list
pub column_image-nil : (g : Marks) (c : ℕ) (corner : Corner) → column_image g c corner [] ≡ nothing
unfolding column_image
column_image-nil g c corner =
    ap (λ ys. of_codes (map rank ys))
    (filter-none (λ y. is_odd (length (filter (is_pentagon g c (crossing_row g c corner) [] y)
    (rectangles (size g))))) (states (size g))
    (none_leads (size g) (λ r. is_empty [] r && is_pentagonal g c (crossing_row g c corner) r)))

-- the image of a chain across columns
unfoldable pub image_by_columns : Marks → ℕ → Corner → Chain → Chain
image_by_columns g c corner z = sum_over z (λ code. column_image g c corner (unrank (size g) code))

module _ (g : Marks) (s : IsGrid g) (c : ℕ) (d : HasFourRows g c) (corner : Corner) where
  abbrev n : ℕ
  n = size g

  abbrev w : ℕ
  w = crossing_row g c corner

  lw : w < n
  lw = crossing_row-below g s c d.below corner

  -- the exchanged grid
  abbrev there : Marks
  there = swapped_columns g c

  same_size : size there ≡ n
  same_size = length-swap g.o (one_down n c) c

  is_grid : IsGrid there
  is_grid = IsGrid-swapped_columns g c s d.below

  lb : one_down n c < n
  lb = one_down_below n c d.below

  rows_exchanged : (rows : List ℕ) → IsBijection n rows
      → slice_index (swap rows (one_down n c) c) ≡ with_exchanged (slice_index rows) (one_down n c) c
  rows_exchanged rows b = let e = b.long in let l = d.below in let k = lb in
      swap-with_exchanged rows (one_down n c) c (omega arith) (omega arith)

  abbrev rectangle : (ℕ → ℕ) → ℕ → ℕ → Bool
  rectangle f a b = is_open n (slice_index g.o) (slice_index g.x) f a b

  abbrev rectangle_there : (ℕ → ℕ) → ℕ → ℕ → Bool
  rectangle_there f a b = is_open n (slice_index there.o) (slice_index there.x) f a b

  abbrev pentagon : (ℕ → ℕ) → ℕ → ℕ → Bool
  pentagon f a b = pentagon_at g s c w d.below lw f a b

  -- what the image of a state holds, and what its border there does
  holds_image : (y : List ℕ) → IsBijection n y → (q : ℕ)
      → holds (column_image g c corner y) q
      ≡ parity_below n (λ a. parity_below n (λ b. pentagon (slice_index y) a b && eqb q (rank (swap y a b))))
  holds_image y sy q =
      sym (weight-at (column_image g c corner y) q) ∙ weight-column_image g s c corner d.below lw y sy (λ t. eqb q t)

  holds_border : (y : List ℕ) → IsBijection n y → (q : ℕ)
      → holds (border_of_state there y) q
      ≡ parity_below n (λ a. parity_below n (λ b. rectangle_there (slice_index y) a b && eqb q (rank (swap y a b))))
  holds_border y sy q =
      sym (weight-at (border_of_state there y) q) ∙ border_weight there n same_size is_grid y sy (λ t. eqb q t)

  -- for a state
  of_state : (x : List ℕ) → IsBijection n x → (q : ℕ)
      → weight (λ t. holds (column_image g c corner (unrank n t)) q) (border_of_state g x)
      ≡ weight (λ t. holds (border_of_state there (unrank n t)) q) (column_image g c corner x)
  of_state x sx q =
      let f : ℕ → ℕ = slice_index x in
      let T : (ℕ → ℕ) → Bool = has_rank n x sx rectangle pentagon q in
      let sides = AreSides-rows g s c d in
      let o_there = rows_exchanged g.o s.o in
      let x_there = rows_exchanged g.x s.x in
      let there_is : rectangle_there
      ≡ (λ f a b. is_open n (with_exchanged (slice_index g.o) (one_down n c) c)
      (with_exchanged (slice_index g.x) (one_down n c) c) f a b) =
      λ i f a b. is_open n (o_there i) (x_there i) f a b in
      let one : Bool =
      parity_below n (λ a. parity_below n (λ b. parity_below n
      (λ k. parity_below n (λ e. rectangle f a b && (pentagon (with_exchanged f a b) k e
      && T (with_exchanged (with_exchanged f a b) k e)))))) in
      let other : Bool =
      parity_below n (λ a. parity_below n (λ b. parity_below n
      (λ k. parity_below n (λ e. pentagon f a b && (is_open n (with_exchanged (slice_index g.o) (one_down n c) c)
      (with_exchanged (slice_index g.x) (one_down n c) c) (with_exchanged f a b) k e
      && T (with_exchanged (with_exchanged f a b) k e)))))) in
      let left : weight (λ t. holds (column_image g c corner (unrank n t)) q) (border_of_state g x) ≡ one =
      border_weight g n refl s x sx (λ t. holds (column_image g c corner (unrank n t)) q)
      ∙ two_step_sum n x sx rectangle pentagon q (λ y. holds (column_image g c corner y) q)
      (λ y sy. holds_image y sy q) in
      let right : weight (λ t. holds (border_of_state there (unrank n t)) q) (column_image g c corner x) ≡ other =
      weight-column_image g s c corner d.below lw x sx (λ t. holds (border_of_state there (unrank n t)) q)
      ∙ two_step_sum n x sx pentagon rectangle_there q (λ y. holds (border_of_state there y) q)
      (λ y sy. holds_border y sy q)
      ∙ ap (λ R. parity_below n (λ a. parity_below n (λ b. parity_below n
      (λ k. parity_below n (λ e. pentagon f a b && (R (with_exchanged f a b) k e
      && T (with_exchanged (with_exchanged f a b) k e))))))) there_is in
      left
      ∙ sym (xor_zero other one (sym (sum4_xor n _ _) ∙ pairs_none n (one_down n c) c (one_up n c) w (slice_index g.o)
      (slice_index g.x) sides (IsThin-rows g s c d) (AreBusy-rows g s c d) f (one_to_one n x sx) T))
      ∙ sym right

  of_code : (q k : ℕ)
      → weight (λ t. holds (column_image g c corner (unrank n t)) q) (border_of_state g (unrank n k))
      ≡ weight (λ t. holds (border_of_state there (unrank n t)) q) (column_image g c corner (unrank n k))
  of_code q k = elim (cases_lt k (factorial n)) [
    | inl l ↦ of_state (unrank n k) (IsBijection-unrank n k l) q
    | inr l ↦
        let e = unrank-past n k l in
        ap (λ x. weight (λ t. holds (column_image g c corner (unrank n t)) q) (border_of_state g x)) e
        ∙ ap (weight (λ t. holds (column_image g c corner (unrank n t)) q)) (border_of_state-nil g) ∙ weight-nothing _
        ∙ sym (ap (λ x. weight (λ t. holds (border_of_state there (unrank n t)) q) (column_image g c corner x)) e
        ∙ ap (weight (λ t. holds (border_of_state there (unrank n t)) q)) (column_image-nil g c corner)
        ∙ weight-nothing _)
  ]

  -- The image of the border is the border of the image.
  pub image_by_columns-border : (z : Chain)
      → image_by_columns g c corner (border g z) ≡ border (swapped_columns g c) (image_by_columns g c corner z)
  unfolding image_by_columns border
  image_by_columns-border z = same_chain _ _ (λ q.
      holds-sum_over (sum_over z (λ code. border_of_state g (unrank n code)))
      (λ code. column_image g c corner (unrank n code)) q
      ∙ weight-sum_over (λ t. holds (column_image g c corner (unrank n t)) q) z
      (λ code. border_of_state g (unrank n code))
      ∙ weight-same _ _ z (λ k _. of_code q k)
      ∙ sym (holds-sum_over (sum_over z (λ code. column_image g c corner (unrank n code)))
      (λ code. border_of_state there (unrank (size there) code)) q
      ∙ ap (λ m. weight (λ t. holds (border_of_state there (unrank m t)) q)
      (sum_over z (λ code. column_image g c corner (unrank n code)))) same_size
      ∙ weight-sum_over (λ t. holds (border_of_state there (unrank n t)) q) z
      (λ code. column_image g c corner (unrank n code))))
