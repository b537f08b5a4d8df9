-- A turn carries the image of a chain across columns to the image, in the turned grid, of the turned chain.
use Rattle.std.proofs.Common.{Bool, List, ap, ap₂, cond, eqb, false, refl, slice_index, subst, swap, sym, true, ℕ, ◌&&◌, ◌<◌, ◌∙◌, ◌≡◌}
use Rattle.f2_algebra.proofs.Chains.ParityLemmas.{parity_below, parity_below-same}
use Rattle.f2_algebra.specs.Chain.{Chain, holds, sum_over}
use Rattle.state_rank.proofs.RankLemmas.{rank_one_to_one}
use Rattle.state_rank.proofs.SwapLemmas.{IsBijection-swap}
use Rattle.state_rank.specs.Bijection.{IsBijection}
use Rattle.state_rank.specs.States.{rank, unrank}
use Rattle.torus_geom.proofs.Circles.TurnLemmas.{one_down_below}
use Rattle.torus_geom.specs.Range.{one_down}
use Rattle.torus_geom.specs.Marks.{IsGrid, Marks, size}
use Rattle.torus_geom.specs.Range.{in_range}
use Rattle.grid_moves.proofs.Turned.CarriedChains.{eqb_alike, sum_over-carried}
use Rattle.grid_moves.proofs.Turned.TurnLemmas.{IsGrid-turned, length-turned_rows}
use Rattle.grid_moves.proofs.Turned.TurnedStates.{IsBijection-turned_state, opposite, turned_AreInverse, turned_state-back}
use Rattle.grid_moves.specs.Carried.{target_column, turned_state}
use Rattle.grid_moves.specs.Inner.CodeCarried.{turned_chain}
use Rattle.grid_moves.specs.Moves.{moved_row, turned}
use Rattle.grid_moves.specs.declared.turns.Side.{Side}
use Rattle.pentagon_map.proofs.ChainMap.ImageOfBorder.{image_by_columns}
use Rattle.pentagon_map.proofs.ChainMap.PentagonSums.{crossing_row-below, holds-column_image}
use Rattle.pentagon_map.proofs.Rows.ImageByRows.{column_image_IsOfStates}
use Rattle.grid_moves.proofs.Turned.Reindexing.{parity_below_reindex_both}
use Rattle.grid_moves.proofs.Turned.Shifts.{IsShift, IsShift-moved_row, IsShift-target_column}
use Rattle.grid_moves.proofs.Turned.TurnedSteps.{at_target, state-at_target, swap-turned}
use Rattle.pentagon_map.proofs.Turns.TurnedPentagons.{pentagon-turned}
use Rattle.pentagon_map.specs.Inner.CodeImages.{column_image}
use Rattle.pentagon_map.specs.Pentagon.{crossing_row, first_met, last_met}
use Rattle.pentagon_map.specs.declared.Corner.{Corner}
use Rattle.pentagon_map.specs.declared.Corner.TheVariants.{Over, Under}
use Rattle.pentagon_map.proofs.ChainMap.PentagonTests.{is_open_pentagon}

-- what the image of a state holds, for a grid whose size is given by a name
holds-named : (g : Marks) (s : IsGrid g) (n : ℕ) → size g ≡ n → (c : ℕ) (corner : Corner) → c < n → (x : List ℕ)
    → IsBijection n x → (q : ℕ)
    → holds (column_image g c corner x) q
    ≡ parity_below n (λ a. parity_below n (λ b. is_open_pentagon n (one_down n c) c (crossing_row g c corner)
    (slice_index g.o) (slice_index g.x) (slice_index x) a b && eqb q (rank (swap x a b))))
holds-named g s n e c corner =
    let P : ℕ → Type 0 = λ m. c < m → (x : List ℕ) → IsBijection m x → (q : ℕ)
    → holds (column_image g c corner x) q
    ≡ parity_below m (λ a. parity_below m (λ b. is_open_pentagon m (one_down m c) c (crossing_row g c corner)
    (slice_index g.o) (slice_index g.x) (slice_index x) a b && eqb q (rank (swap x a b)))) in
    subst P e (λ lc x sx q. holds-column_image g s c corner lc (crossing_row-below g s c lc corner) x sx q)

-- of rows that are moved, the one that is met first, or last
first_met-moved : (n : ℕ) (h : ℕ → ℕ) → IsShift n h → (i j k : ℕ) → i < n → j < n → k < n
    → first_met n (h i) (h j) (h k) ≡ h (first_met n i j k)
first_met-moved n h sh i j k li lj lk =
    ap (λ z. cond z (h j) (h k)) (sh.range i k j li lk lj)
    ∙ by (in_range n i k j)
  where
    by : (z : Bool) → cond z (h j) (h k) ≡ h (cond z j k)
    by true = refl
    by false = refl

last_met-moved : (n : ℕ) (h : ℕ → ℕ) → IsShift n h → (i j k : ℕ) → i < n → j < n → k < n
    → last_met n (h i) (h j) (h k) ≡ h (last_met n i j k)
last_met-moved n h sh i j k li lj lk =
    ap (λ z. cond z (h k) (h j)) (sh.range i k j li lk lj)
    ∙ by (in_range n i k j)
  where
    by : (z : Bool) → cond z (h k) (h j) ≡ h (cond z k j)
    by true = refl
    by false = refl

module _ (side : Side) (g : Marks) (s : IsGrid g) (c : ℕ) (lc : c < size g) (corner : Corner) where
  abbrev n : ℕ
  n = size g

  abbrev f : ℕ → ℕ
  f = target_column side (size g)

  abbrev h : ℕ → ℕ
  h = moved_row side (size g)

  abbrev t : Marks
  t = turned side g

  abbrev T : List ℕ → List ℕ
  T = turned_state side

  sf : IsShift n f
  sf = IsShift-target_column side n

  sh : IsShift n h
  sh = IsShift-moved_row side n

  size_is : size t ≡ n
  size_is = length-turned_rows side n g.o

  lr : one_down n c < n
  lr = one_down_below n c lc

  -- the crossing row moves with the marks
  crossing-turned : (corner : Corner) → crossing_row t (f c) corner ≡ h (crossing_row g c corner)
  crossing-turned Over =
      ap (λ m. first_met m (slice_index t.o (one_down m (f c))) (slice_index t.o (f c)) (slice_index t.x (f c))) size_is
      ∙ ap (λ d. first_met n (slice_index t.o d) (slice_index t.o (f c)) (slice_index t.x (f c))) (sf.before c lc)
      ∙ (λ i. first_met n (at_target side n g.o (one_down n c) lr i) (at_target side n g.o c lc i)
      (at_target side n g.x c lc i))
      ∙ first_met-moved n h sh _ _ _ (s.o.small (one_down n c) lr) (s.o.small c lc) (s.x.small c lc)
  crossing-turned Under =
      ap (λ m. last_met m (slice_index t.o (f c)) (slice_index t.o (one_down m (f c)))
      (slice_index t.x (one_down m (f c)))) size_is
      ∙ ap (λ d. last_met n (slice_index t.o (f c)) (slice_index t.o d) (slice_index t.x d)) (sf.before c lc)
      ∙ (λ i. last_met n (at_target side n g.o c lc i) (at_target side n g.o (one_down n c) lr i)
      (at_target side n g.x (one_down n c) lr i))
      ∙ last_met-moved n h sh _ _ _ (s.o.small c lc) (s.o.small (one_down n c) lr) (s.x.small (one_down n c) lr)

  same_rank : (y z : List ℕ) → IsBijection n y → IsBijection n z → eqb (rank (T y)) (rank (T z)) ≡ eqb (rank y) (rank z)
  same_rank y z sy sz =
      eqb_alike (rank (T y)) (rank (T z)) (rank y) (rank z)
      (λ e. ap rank (sym (turned_state-back side n y sy) ∙ ap (turned_state (opposite side))
      (rank_one_to_one n (T y) (T z) (IsBijection-turned_state side n y sy)
      (IsBijection-turned_state side n z sz) e) ∙ turned_state-back side n z sz))
      (λ e. ap (λ w. rank (T w)) (rank_one_to_one n y z sy sz e))

  steps : (x y : List ℕ) → IsBijection n x → IsBijection n y
      → holds (column_image t (f c) corner (T x)) (rank (T y)) ≡ holds (column_image g c corner x) (rank y)
  steps x y sx sy =
      let w : ℕ = crossing_row g c corner in
      let lw = crossing_row-below g s c lc corner in
      let st = IsBijection-turned_state side n x sx in
      holds-named t (IsGrid-turned side g s) n size_is (f c) corner (sf.one.small c lc) (T x) st (rank (T y))
      ∙ sym (parity_below_reindex_both n f sf.one
      (λ a b. is_open_pentagon n (one_down n (f c)) (f c) (crossing_row t (f c) corner) (slice_index t.o)
      (slice_index t.x) (slice_index (T x)) a b && eqb (rank (T y)) (rank (swap (T x) a b))))
      ∙ parity_below-same n _ _ (λ a la. parity_below-same n _ _ (λ b lb.
      ap₂ (λ u v. u && v)
      ((λ i. is_open_pentagon n (sf.before c lc i) (f c) (crossing-turned corner i) (slice_index t.o) (slice_index t.x)
      (slice_index (T x)) (f a) (f b))
      ∙ pentagon-turned n f h sf sh (slice_index g.o) (slice_index g.x) (slice_index t.o)
      (slice_index t.x) s.o.small s.x.small (at_target side n g.o) (at_target side n g.x)
      (slice_index x) (slice_index (T x)) sx.small (state-at_target side n x sx) (one_down n c) c w a b lr lc lw la lb)
      (ap (λ z. eqb (rank (T y)) (rank z)) (swap-turned side n x sx a b la lb)
      ∙ same_rank y (swap x a b) sy (IsBijection-swap n x a b la lb sx))))
      ∙ sym (holds-named g s n refl c corner lc x sx (rank y))

  -- A turn carries the image of a chain to that of the turned chain.
  pub image_by_columns-turned : (z : Chain)
      → image_by_columns t (f c) corner (turned_chain side n z) ≡ turned_chain side n (image_by_columns g c corner z)
  unfolding image_by_columns
  image_by_columns-turned z =
      ap (λ m. sum_over (turned_chain side n z) (λ code. column_image t (f c) corner (unrank m code))) size_is
      ∙ sum_over-carried n (turned_state side) (turned_state (opposite side)) (turned_AreInverse side n)
      (column_image g c corner) (column_image t (f c) corner)
      (column_image_IsOfStates g n refl c corner) (column_image_IsOfStates t n size_is (f c) corner) steps z
