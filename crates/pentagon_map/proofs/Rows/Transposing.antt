-- Transposing a grid: twice is nothing, and it carries steps to steps.
-- Route: the rectangle of x with circles a, b and rows x(a), x(b) becomes that of the transposed state
-- with circles x(a), x(b) and rows a, b. Empty and unmarked are tests of all columns, which are taken in
-- the order of rows; the sum over two circles that tells the border is taken in the order of rows too.
use Rattle.std.proofs.Common.{Bool, List, ap, ap₂, arith, eqb, false, not, refl, slice_index, subst, swap, sym, ℕ, ◌&&◌, ◌<◌, ◌||◌, ◌∙◌, ◌≡◌}
use Rattle.std.proofs.lemmas.List.Edits.{length-swap}
use Rattle.f2_algebra.proofs.Chains.ParityLemmas.{parity_below, parity_below-same}
use Rattle.f2_algebra.proofs.Chains.Sets.{weight-at}
use Rattle.f2_algebra.proofs.Chains.Tables.{and_comm}
use Rattle.f2_algebra.specs.Chain.{Chain, holds, sum_over}
use Rattle.state_rank.proofs.BijectionLemmas.{IsOneToOne, one_to_one, same_list}
use Rattle.state_rank.proofs.RankLemmas.{rank_one_to_one}
use Rattle.state_rank.proofs.SwapLemmas.{exchanged, exchanged_below, exchanged_back, slice_index-swap, IsBijection-swap}
use Rattle.state_rank.specs.Bijection.{IsBijection}
use Rattle.state_rank.specs.States.{rank, transpose, unrank}
use Rattle.torus_geom.proofs.TransposeLemmas.{IsBijection-transposed, IsGrid-transposed}
use Rattle.torus_geom.specs.Inner.CodeBorder.{border, border_of_state}
use Rattle.torus_geom.specs.Marks.{IsGrid, Marks, size}
use Rattle.torus_geom.specs.Transposed.{transposed}
use Rattle.rectangles.proofs.Square.CyclicOrder.{between}
use Rattle.rectangles.proofs.Square.EmptyRectangles.{free, free_rows, is_clear_of}
use Rattle.rectangles.proofs.Square.OpenRectangles.{is_open, unmarked}
use Rattle.rectangles.proofs.Square.RectangleSums.{weight-border_of_state}
use Rattle.rectangles.proofs.Square.TwoSteps.{differ}
use Rattle.grid_moves.proofs.Turned.CarriedChains.{eqb_alike, sum_over-carried}
use Rattle.grid_moves.proofs.Turned.Shifts.{exchanged-row}
use Rattle.grid_moves.proofs.Turned.TurnedBorders.{border_IsOfStates}
use Rattle.grid_moves.proofs.Exchanged.TransposedGrids.{transpose-at, transpose-transpose, size-transposed, transpose_AreInverse}
use Rattle.grid_moves.specs.Inner.CodeCarried.{transposed_chain}
use Rattle.grid_moves.proofs.Turned.Reindexing.{all_below_reindex, parity_below_reindex_both}
use Rattle.torus_geom.proofs.Sums.AllBelowLemmas.{all_below-same}
use Rattle.torus_geom.proofs.Circles.BetweenLemmas.{is_between}

-- the rectangle of circles a and b of x is open, and leads to the state of index q
abbrev pub leads_to : ℕ → Marks → List ℕ → ℕ → ℕ → ℕ → Bool
leads_to n g x q a b = is_open n (slice_index g.o) (slice_index g.x) (slice_index x) a b && eqb q (rank (swap x a b))

-- the border holds q if an odd number of rectangles are so
pub held_by : (n : ℕ) (g : Marks) → size g ≡ n → IsGrid g → (x : List ℕ) → IsBijection n x → (q : ℕ)
    → holds (border_of_state g x) q ≡ parity_below n (λ a. parity_below n (leads_to n g x q a))
held_by n g e s =
    let P : ℕ → Type 0 =
    λ m. (x : List ℕ) → IsBijection m x → (q : ℕ)
    → holds (border_of_state g x) q ≡ parity_below m (λ a. parity_below m (leads_to m g x q a)) in
    subst P e (λ x sx q. sym (weight-at (border_of_state g x) q) ∙ weight-border_of_state g s x sx (λ t. eqb q t))

-- ---- exchanges
-- the exchange of two circles becomes that of two rows
pub transpose-swap : (n : ℕ) (x : List ℕ) → IsBijection n x → (a b : ℕ) → a < n → b < n
    → swap (transpose x) (slice_index x a) (slice_index x b) ≡ transpose (swap x a b)
transpose-swap n x sx a b la lb =
    let one = one_to_one n x sx in
    let u = transpose x in
    let su = IsBijection-transposed n x sx in
    let y = swap x a b in
    let sy = IsBijection-swap n x a b la lb sx in
    same_list n (swap u (slice_index x a) (slice_index x b)) (transpose y)
    (length-swap u (slice_index x a) (slice_index x b) ∙ su.long) (IsBijection-transposed n y sy).long (λ r lr.
    let c = slice_index u r in
    let lc : c < n = su.small r lr in
    let is : slice_index x c ≡ r = transpose_row r lr in
    let d = exchanged a b c in
    let ld : d < n = exchanged_below n a b c la lb lc in
    let la' = sx.small a la in
    let lb' = sx.small b lb in
    let lu = su.long in
    let lx = sx.long in
    slice_index-swap u (slice_index x a) (slice_index x b) r (omega arith) (omega arith)
    ∙ ap (λ t. slice_index u (exchanged (slice_index x a) (slice_index x b) t)) (sym is)
    ∙ ap (slice_index u) (exchanged-row n (slice_index x) one a b c la lb lc)
    ∙ transpose-at n x sx d ld
    ∙ sym (transpose-at n y sy d ld)
    ∙ ap (slice_index (transpose y))
    (slice_index-swap x a b d (omega arith) (omega arith) ∙ ap (slice_index x) (exchanged_back a b c) ∙ is))
  where
    transpose_row : (r : ℕ) → r < n → slice_index x (slice_index (transpose x) r) ≡ r
    transpose_row r lr =
        let su = IsBijection-transposed n x sx in
        ap (λ t. slice_index t (slice_index (transpose x) r)) (sym (transpose-transpose n x sx))
        ∙ transpose-at n (transpose x) su r lr

-- ---- open rectangles
module _ (n : ℕ) (O X f O' X' u : ℕ → ℕ) (oo : IsOneToOne n O) (ox : IsOneToOne n X) (of : IsOneToOne n f)
    (back_o : (c : ℕ) → c < n → O' (O c) ≡ c) (back_x : (c : ℕ) → c < n → X' (X c) ≡ c)
    (back_f : (c : ℕ) → c < n → u (f c) ≡ c) where
  -- no mark of P in the columns from a up to b and the rows from j up to k, by rows and by columns
  free_by_rows : (P P' : ℕ → ℕ) → IsOneToOne n P → ((c : ℕ) → c < n → P' (P c) ≡ c) → (a b j k : ℕ)
      → free n (λ t. false) (between j k) (λ t. between a b (P' t))
      ≡ free n (λ t. false) (between a b) (λ t. between j k (P t))
  free_by_rows P P' one back a b j k =
      sym (all_below_reindex n P one (λ t. false || not (between j k t && between a b (P' t))))
      ∙ all_below-same n (λ c. false || not (between j k (P c) && between a b (P' (P c))))
      (λ c. false || not (between a b c && between j k (P c))) (λ c l.
      ap (λ t. not (between j k (P c) && between a b t)) (back c l)
      ∙ ap not (and_comm (between j k (P c)) (between a b c)))

  unmarked_by_rows : (a b j k : ℕ) → unmarked n O' X' j k a b ≡ unmarked n O X a b j k
  unmarked_by_rows a b j k =
      free_rows n (λ t. false) (between j k) (λ t. between a b (O' t)) (λ t. between a b (X' t))
      ∙ ap₂ (λ p q. p && q) (free_by_rows O O' oo back_o a b j k) (free_by_rows X X' ox back_x a b j k)
      ∙ sym (free_rows n (λ t. false) (between a b) (λ t. between j k (O t)) (λ t. between j k (X t)))

  clear_by_rows : (a b j k : ℕ) → is_clear_of n u j k a b ≡ is_clear_of n f a b j k
  clear_by_rows a b j k =
      sym (all_below_reindex n f of (λ t. not (is_between j k t && is_between a b (u t))))
      ∙ all_below-same n (λ c. not (is_between j k (f c) && is_between a b (u (f c))))
      (λ c. not (is_between a b c && is_between j k (f c))) (λ c l.
      ap (λ t. not (is_between j k (f c) && is_between a b t)) (back_f c l)
      ∙ ap not (and_comm (is_between j k (f c)) (is_between a b c)))

  -- the rectangle of circles a and b is open if the transposed one is
  pub open_by_rows : (a b : ℕ) → a < n → b < n → is_open n O' X' u (f a) (f b) ≡ is_open n O X f a b
  open_by_rows a b la lb =
      ap₂ (λ s t. differ (f a) (f b) && (is_clear_of n u (f a) (f b) s t && unmarked n O' X' (f a) (f b) s t))
      (back_f a la) (back_f b lb)
      ∙ ap₂ (λ p q. p && q) (ap not (eqb_alike (f a) (f b) a b (λ e. sym (back_f a la) ∙ ap u e ∙ back_f b lb) (ap f)))
      (ap₂ (λ p q. p && q) (clear_by_rows a b (f a) (f b)) (unmarked_by_rows a b (f a) (f b)))

-- ---- steps
module _ (g : Marks) (s : IsGrid g) where
  abbrev n : ℕ
  n = size g

  -- transposing carries the steps of g to those of the transposed grid
  pub transposed_steps : (x y : List ℕ) → IsBijection n x → IsBijection n y
      → holds (border_of_state (transposed g) (transpose x)) (rank (transpose y)) ≡ holds (border_of_state g x) (rank y)
  transposed_steps x y sx sy =
      let u = transpose x in
      let v = transpose y in
      let su = IsBijection-transposed n x sx in
      let sv = IsBijection-transposed n y sy in
      let one = one_to_one n x sx in
      held_by n (transposed g) (size-transposed g) (IsGrid-transposed g s) u su (rank v)
      ∙ sym (parity_below_reindex_both n (slice_index x) one (leads_to n (transposed g) u (rank v)))
      ∙ parity_below-same n _ (λ a. parity_below n (leads_to n g x (rank y) a)) (λ a la.
      parity_below-same n _ (leads_to n g x (rank y) a) (λ b lb.
      let z = swap x a b in
      let sz = IsBijection-swap n x a b la lb sx in
      ap₂ (λ p q. p && q)
      (open_by_rows n (slice_index g.o) (slice_index g.x) (slice_index x) (slice_index (transpose g.o))
      (slice_index (transpose g.x)) (slice_index u)
      (one_to_one n g.o s.o) (one_to_one n g.x s.x) one (transpose-at n g.o s.o) (transpose-at n g.x s.x)
      (transpose-at n x sx) a b la lb)
      (ap (λ w. eqb (rank v) (rank w)) (transpose-swap n x sx a b la lb)
      ∙ eqb_alike (rank v) (rank (transpose z)) (rank y) (rank z)
      (λ e. ap rank (sym (transpose-transpose n y sy) ∙ ap transpose
      (rank_one_to_one n v (transpose z) sv (IsBijection-transposed n z sz) e) ∙ transpose-transpose n z sz))
      (λ e. ap (λ w. rank (transpose w)) (rank_one_to_one n y z sy sz e)))))
      ∙ sym (held_by n g refl s x sx (rank y))

-- The border of the transposed chain is the transposed border.
pub border-transposed : (g : Marks) → IsGrid g → (z : Chain)
    → border (transposed g) (transposed_chain (size g) z) ≡ transposed_chain (size g) (border g z)
unfolding border
border-transposed g s z =
    ap (λ m. sum_over (transposed_chain (size g) z) (λ code. border_of_state (transposed g) (unrank m code)))
    (size-transposed g)
    ∙ sum_over-carried (size g) transpose transpose (transpose_AreInverse (size g)) (border_of_state g)
    (border_of_state (transposed g))
    (border_IsOfStates g (size g) refl) (border_IsOfStates (transposed g) (size g) (size-transposed g))
    (transposed_steps g s) z
