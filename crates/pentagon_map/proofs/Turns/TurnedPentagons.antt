-- A turn carries pentagons to pentagons: with the columns moved by f and the rows by h, each test of a pentagon is
-- that of the turned one, since tests of all columns may be taken in another order.
use Rattle.std.proofs.Common.{ap, ap₂, not, sym, ℕ, ◌&&◌, ◌<◌, ◌||◌, ◌∙◌, ◌≡◌}
use Rattle.rectangles.proofs.Square.CyclicOrder.{between}
use Rattle.rectangles.proofs.Square.EmptyRectangles.{free, is_clear_of}
use Rattle.rectangles.proofs.Square.OpenRectangles.{marks}
use Rattle.rectangles.proofs.Square.TwoSteps.{differ}
use Rattle.pentagon_map.proofs.ChainMap.RowArcs.{above_of}
use Rattle.grid_moves.proofs.Turned.Reindexing.{all_below_reindex}
use Rattle.grid_moves.proofs.Turned.Shifts.{IsShift, eqb-shift}
use Rattle.pentagon_map.proofs.Turns.Shifts.{between-shift, differ-shift}
use Rattle.torus_geom.proofs.Sums.AllBelowLemmas.{all_below-same}
use Rattle.torus_geom.proofs.Circles.BetweenLemmas.{is_between}
use Rattle.pentagon_map.proofs.ChainMap.PentagonTests.{two, lacks, penta, is_open_pentagon}

module _ (n : ℕ) (f h : ℕ → ℕ) (sf : IsShift n f) (sh : IsShift n h) where
  -- the points of a state, or marks, before and after
  abbrev Moves : (ℕ → ℕ) → (ℕ → ℕ) → Type 0
  Moves p q = (c : ℕ) → c < n → q (f c) ≡ h (p c)

  abbrev Small : (ℕ → ℕ) → Type 0
  Small p = (c : ℕ) → c < n → p c < n

  inside-shift : (k : ℕ → ℕ) → IsShift n k → (a b t : ℕ) → a < n → b < n → t < n
      → is_between (k a) (k b) (k t) ≡ is_between a b t
  inside-shift k sk a b t la lb lt =
      ap₂ (λ u v. u && v) (between-shift n k sk a b t la lb lt) (differ-shift n k sk.one t a lt la)

  clear-turned : (p q : ℕ → ℕ) → Small p → Moves p q → (a b j k : ℕ) → a < n → b < n → j < n → k < n
      → is_clear_of n q (f a) (f b) (h j) (h k) ≡ is_clear_of n p a b j k
  clear-turned p q small moves a b j k la lb lj lk =
      sym (all_below_reindex n f sf.one (λ t. not (is_between (f a) (f b) t && is_between (h j) (h k) (q t))))
      ∙ all_below-same n _ (λ t. not (is_between a b t && is_between j k (p t))) (λ t l.
      (λ i. not (inside-shift f sf a b t la lb l i && is_between (h j) (h k) (moves t l i)))
      ∙ ap (λ v. not (is_between a b t && v)) (inside-shift h sh j k (p t) lj lk (small t l)))

  module _ (o x o' x' : ℕ → ℕ) (so : Small o) (sx : Small x) (mo : Moves o o') (mx : Moves x x') where
    marks-turned : (j k t : ℕ) → j < n → k < n → t < n
        → marks o' x' (between (h j) (h k)) (f t) ≡ marks o x (between j k) t
    marks-turned j k t lj lk lt =
        (λ i. between (h j) (h k) (mo t lt i) || between (h j) (h k) (mx t lt i))
        ∙ (λ i. between-shift n h sh j k (o t) lj lk (so t lt) i || between-shift n h sh j k (x t) lj lk (sx t lt) i)

    free-turned : (r c a b j k : ℕ) → r < n → c < n → a < n → b < n → j < n → k < n
        → free n (two (f r) (f c)) (between (f a) (f b)) (marks o' x' (between (h j) (h k)))
        ≡ free n (two r c) (between a b) (marks o x (between j k))
    free-turned r c a b j k lr lc la lb lj lk =
        sym (all_below_reindex n f sf.one
        (λ t. two (f r) (f c) t || not (between (f a) (f b) t && marks o' x' (between (h j) (h k)) t)))
        ∙ all_below-same n _ (λ t. two r c t || not (between a b t && marks o x (between j k) t)) (λ t l.
        λ i. (eqb-shift n f sf.one t r l lr i || eqb-shift n f sf.one t c l lc i)
        || not (between-shift n f sf a b t la lb l i && marks-turned j k t lj lk l i))

    lacks-turned : (c j k : ℕ) → c < n → j < n → k < n
        → lacks o' x' (f c) (between (h j) (h k)) ≡ lacks o x c (between j k)
    lacks-turned c j k lc lj lk = ap not (marks-turned j k c lj lk lc)

    above-turned : (c w k : ℕ) → c < n → w < n → k < n
        → lacks o' x' (f c) (above_of (h w) (h k)) ≡ lacks o x c (above_of w k)
    above-turned c w k lc lw lk =
        (λ i. not (above_of (h w) (h k) (mo c lc i) || above_of (h w) (h k) (mx c lc i)))
        ∙ (λ i. not ((between-shift n h sh w k (o c) lw lk (so c lc) i
        && differ-shift n h sh.one (o c) w (so c lc) lw i)
        || (between-shift n h sh w k (x c) lw lk (sx c lc) i && differ-shift n h sh.one (x c) w (sx c lc) lw i)))

    -- a pentagon of the turned grid
    pub pentagon-turned : (p q : ℕ → ℕ) → Small p → Moves p q → (r c w a b : ℕ) → r < n → c < n → w < n → a < n → b < n
        → is_open_pentagon n (f r) (f c) (h w) o' x' q (f a) (f b) ≡ is_open_pentagon n r c w o x p a b
    pentagon-turned p q small moves r c w a b lr lc lw la lb =
        let lj = small a la in
        let lk = small b lb in
        (λ i. differ (f a) (f b)
        && (is_clear_of n q (f a) (f b) (moves a la i) (moves b lb i)
        && penta n (f r) (f c) (h w) o' x' (f a) (f b) (moves a la i) (moves b lb i)))
        ∙ (λ i. differ-shift n f sf.one a b la lb i && (clear-turned p q small moves a b (p a) (p b) la lb lj lk i
        && ((eqb-shift n f sf.one a c la lc i || eqb-shift n f sf.one b c lb lc i)
        && (between-shift n h sh (p a) (p b) w lj lk lw i
        && (free-turned r c a b (p a) (p b) lr lc la lb lj lk i
        && (lacks-turned c (p a) w lc lj lw i && above-turned r w (p b) lr lw lk i))))))
