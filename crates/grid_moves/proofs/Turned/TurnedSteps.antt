-- A turn carries each step of the border to a step: each test of a rectangle is that of the turned one, since
-- tests of all columns may be taken in another order; and the rectangles are turned to all rectangles.
use Rattle.std.proofs.Common.{Bool, Contains, List, [], ◌∷◌, ap, ap₂, arith, eqb, length, map, not, refl, slice_index, swap, sym, ℕ, ◌&&◌, ◌<◌, ◌||◌, ◌∙◌, ◌≡◌, ◌≢◌}
use Rattle.std.specs.List.{filter}
use Rattle.f2_algebra.proofs.Chains.ParityLemmas.{Each, is_odd-filter, parity, parity-ext, parity-filter, parity-flat_map, parity-map, parity-same_on, parity_below, parity_below-same}
use Rattle.f2_algebra.specs.Chain.{is_odd}
use Rattle.state_rank.proofs.BijectionLemmas.{IsOneToOne, same_list}
use Rattle.state_rank.proofs.MemberLemmas.{member_head, member_tail}
use Rattle.state_rank.proofs.Pigeonhole.{onto}
use Rattle.state_rank.proofs.SwapLemmas.{IsBijection-swap, exchanged, exchanged_below, slice_index-swap}
use Rattle.state_rank.specs.Bijection.{IsBijection, ascending}
use Rattle.torus_geom.proofs.Circles.RectangleLemmas.{member_of_pairs_apart, corners}
use Rattle.torus_geom.specs.Border.{is_step}
use Rattle.torus_geom.specs.Counts.{all_below}
use Rattle.torus_geom.specs.Marks.{IsGrid, Marks, size}
use Rattle.torus_geom.specs.Range.{in_range, is_inside}
use Rattle.torus_geom.specs.Rectangle.{is_empty, is_same, leads, pairs_apart, rectangles}
use Rattle.torus_geom.specs.declared.rects.Rect.{Rect}
use Rattle.grid_moves.proofs.Turned.Reindexing.{all_below_reindex, parity_below_reindex_both}
use Rattle.grid_moves.proofs.Turned.Shifts.{IsShift, IsShift-moved_row, IsShift-target_column, eqb-shift, exchanged-row}
use Rattle.grid_moves.proofs.Turned.TurnLemmas.{length-turned_rows, slice_index-turned_rows}
use Rattle.grid_moves.proofs.Turned.TurnedStates.{IsBijection-turned_state, source-target, turned_state-at}
use Rattle.grid_moves.specs.Carried.{target_column, turned_state}
use Rattle.grid_moves.specs.Moves.{moved_row, turned, turned_rows}
use Rattle.grid_moves.specs.declared.turns.Side.{Side}
use Rattle.torus_geom.proofs.Sums.AllBelowLemmas.{all_below-same}
use Rattle.torus_geom.proofs.Sums.TabulateLemmas.{parity-tabulate}

-- ---- sums over rectangles
-- what holds of each member
each_member : {A : Type 0} (P : A → Type 0) (xs : List A) → ((x : A) → Contains xs x → P x) → Each P xs
each_member P [] h = tt
each_member P (x ∷ xs) h = (h x (member_head x xs), each_member P xs (λ y m. h y (member_tail x xs y m)))

-- over the ordered pairs of different numbers
parity_pairs : (p : ℕ × ℕ → Bool) (n : ℕ)
    → parity p (pairs_apart n) ≡ parity_below n (λ a. parity_below n (λ b. not (eqb a b) && p (a, b)))
parity_pairs p n =
    parity-flat_map p (λ a. map (λ b. (a, b)) (filter (λ b. not (eqb a b)) (ascending n))) (ascending n)
    ∙ parity-tabulate (λ a. parity p (map (λ b. (a, b)) (filter (λ b. not (eqb a b)) (ascending n)))) n (λ c. c)
    ∙ parity_below-same n _ (λ a. parity_below n (λ b. not (eqb a b) && p (a, b))) (λ a l.
    parity-map p (λ b. (a, b)) (filter (λ b. not (eqb a b)) (ascending n))
    ∙ parity-filter (λ b. p (a, b)) (λ b. not (eqb a b)) (ascending n)
    ∙ parity-tabulate (λ b. not (eqb a b) && p (a, b)) n (λ c. c))

-- a renaming of the numbers keeps the sum
pairs_renamed : (n : ℕ) (f : ℕ → ℕ) → IsOneToOne n f → (p : ℕ × ℕ → Bool)
    → parity (λ (c : ℕ × ℕ). p (f c.0, f c.1)) (pairs_apart n) ≡ parity p (pairs_apart n)
pairs_renamed n f one p =
    parity_pairs (λ (c : ℕ × ℕ). p (f c.0, f c.1)) n
    ∙ parity_below-same n _ (λ a. parity_below n (λ b. not (eqb (f a) (f b)) && p (f a, f b))) (λ a la.
    parity_below-same n _ (λ b. not (eqb (f a) (f b)) && p (f a, f b))
    (λ b lb. ap (λ t. not t && p (f a, f b)) (sym (eqb-shift n f one a b la lb))))
    ∙ parity_below_reindex_both n f one (λ a b. not (eqb a b) && p (a, b))
    ∙ sym (parity_pairs p n)

-- over rectangles, by their vertical and their horizontal circles
parity_rectangles : (p : Rect → Bool) (n : ℕ)
    → parity p (rectangles n)
    ≡ parity (λ (c : ℕ × ℕ). parity (λ (r : ℕ × ℕ). p (corners c.0 c.1 r.0 r.1)) (pairs_apart n)) (pairs_apart n)
parity_rectangles p n =
    parity-flat_map p (λ (c : ℕ × ℕ). map (λ (r : ℕ × ℕ). corners c.0 c.1 r.0 r.1) (pairs_apart n)) (pairs_apart n)
    ∙ parity-ext _ (λ (c : ℕ × ℕ). parity (λ (r : ℕ × ℕ). p (corners c.0 c.1 r.0 r.1)) (pairs_apart n)) (pairs_apart n)
    (λ c.
    parity-map p (λ (r : ℕ × ℕ). corners c.0 c.1 r.0 r.1) (pairs_apart n))

abbrev AreApart : ℕ → ℕ × ℕ → Type 0
AreApart n c = (c.0 < n) × (c.1 < n) × (c.0 ≢ c.1)

-- if p' holds of the renamed rectangles as p does, they have one sum
pub rectangles_renamed : (n : ℕ) (f h : ℕ → ℕ) → IsOneToOne n f → IsOneToOne n h → (p p' : Rect → Bool)
    → ((a b j k : ℕ) → a < n → b < n → j < n → k < n → p' (corners (f a) (f b) (h j) (h k)) ≡ p (corners a b j k))
    → parity p' (rectangles n) ≡ parity p (rectangles n)
rectangles_renamed n f h of oh p p' same =
    parity_rectangles p' n
    ∙ sym (pairs_renamed n f of (λ (c : ℕ × ℕ). parity (λ (r : ℕ × ℕ). p' (corners c.0 c.1 r.0 r.1)) (pairs_apart n)))
    ∙ parity-same_on (AreApart n) _ (λ (c : ℕ × ℕ). parity (λ (r : ℕ × ℕ). p (corners c.0 c.1 r.0 r.1)) (pairs_apart n))
    (pairs_apart n) (each_member (AreApart n) (pairs_apart n) (member_of_pairs_apart n)) (λ c lc.
    sym (pairs_renamed n h oh (λ (r : ℕ × ℕ). p' (corners (f c.0) (f c.1) r.0 r.1)))
    ∙ parity-same_on (AreApart n) _ (λ (r : ℕ × ℕ). p (corners c.0 c.1 r.0 r.1)) (pairs_apart n)
    (each_member (AreApart n) (pairs_apart n) (member_of_pairs_apart n)) (λ r lr.
    same c.0 c.1 r.0 r.1 lc.0 lc.1 lr.0 lr.1))
    ∙ sym (parity_rectangles p n)

-- ---- rectangles of turned states

inside-shift : (n : ℕ) (k : ℕ → ℕ) → IsShift n k → (a b t : ℕ) → a < n → b < n → t < n
    → is_inside n (k a) (k b) (k t) ≡ is_inside n a b t
inside-shift n k sk a b t la lb lt = ap₂ (λ u v. u && not v) (sk.range a b t la lb lt) (eqb-shift n k sk.one t a lt la)

module _ (side : Side) (n : ℕ) where
  abbrev f : ℕ → ℕ
  f = target_column side n

  abbrev h : ℕ → ℕ
  h = moved_row side n

  abbrev T : List ℕ → List ℕ
  T = turned_state side

  sf : IsShift n f
  sf = IsShift-target_column side n

  sh : IsShift n h
  sh = IsShift-moved_row side n

  -- the rows of a turned list, at the target of each column
  pub at_target : (rows : List ℕ) (d : ℕ) → d < n → slice_index (turned_rows side n rows) (f d) ≡ h (slice_index rows d)
  at_target rows d l = slice_index-turned_rows side n rows (f d) (sf.one.small d l)
      ∙ ap (λ e. h (slice_index rows e)) (source-target side n d l)

  -- and of a turned state
  pub state-at_target : (x : List ℕ) → IsBijection n x → (d : ℕ) → d < n → slice_index (T x) (f d) ≡ h (slice_index x d)
  state-at_target x sx d l = turned_state-at side n x sx.long (f d) (sf.one.small d l)
      ∙ ap (λ e. h (slice_index x e)) (source-target side n d l)

  -- the exchange of two circles turns to that of their targets
  pub swap-turned : (x : List ℕ) → IsBijection n x → (a b : ℕ) → a < n → b < n → swap (T x) (f a) (f b) ≡ T (swap x a b)
  swap-turned x sx a b la lb =
      let sy = IsBijection-swap n x a b la lb sx in
      let st = IsBijection-turned_state side n x sx in
      let su = IsBijection-turned_state side n (swap x a b) sy in
      let fa = sf.one.small a la in
      let fb = sf.one.small b lb in
      same_list n (swap (T x) (f a) (f b)) (T (swap x a b)) (IsBijection-swap n (T x) (f a) (f b) fa fb st).long su.long
      (λ e le.
      let (d, ld, is) = onto n f sf.one.small sf.one.apart e le in
      let lx = sx.long in
      let lt = st.long in
      slice_index-swap (T x) (f a) (f b) e (omega arith) (omega arith)
      ∙ ap (λ i. slice_index (T x) (exchanged (f a) (f b) i)) (sym is)
      ∙ ap (slice_index (T x)) (exchanged-row n f sf.one a b d la lb ld)
      ∙ state-at_target x sx (exchanged a b d) (exchanged_below n a b d la lb ld)
      ∙ ap h (sym (slice_index-swap x a b d (omega arith) (omega arith)))
      ∙ sym (state-at_target (swap x a b) sy d ld)
      ∙ ap (slice_index (T (swap x a b))) is)

  -- turned states are the same if the states are
  same-turned : (x y : List ℕ) → IsBijection n x → IsBijection n y → is_same (T x) (T y) ≡ is_same x y
  same-turned x y sx sy =
      let tx = IsBijection-turned_state side n x sx in
      let ty = IsBijection-turned_state side n y sy in
      ap₂ (λ p q. eqb p q && all_below p (λ c. eqb (slice_index (T x) c) (slice_index (T y) c))) tx.long ty.long
      ∙ ap (λ b. eqb n n && b)
      (sym (all_below_reindex n f sf.one (λ c. eqb (slice_index (T x) c) (slice_index (T y) c)))
      ∙ all_below-same n _ (λ c. eqb (slice_index x c) (slice_index y c)) (λ c l.
      ap₂ eqb (state-at_target x sx c l) (state-at_target y sy c l)
      ∙ eqb-shift n h sh.one (slice_index x c) (slice_index y c) (sx.small c l) (sy.small c l)))
      ∙ sym (ap₂ (λ p q. eqb p q && all_below p (λ c. eqb (slice_index x c) (slice_index y c))) sx.long sy.long)

  module _ (a b j k : ℕ) (la : a < n) (lb : b < n) (lj : j < n) (lk : k < n) where
    leads-turned : (x y : List ℕ) → IsBijection n x → IsBijection n y
        → leads (corners (f a) (f b) (h j) (h k)) (T x) (T y) ≡ leads (corners a b j k) x y
    leads-turned x y sx sy =
        ap₂ (λ p q. p && q)
        (ap (λ r. eqb r (h j)) (state-at_target x sx a la)
        ∙ eqb-shift n h sh.one (slice_index x a) j (sx.small a la) lj)
        (ap₂ (λ p q. p && q)
        (ap (λ r. eqb r (h k)) (state-at_target x sx b lb)
        ∙ eqb-shift n h sh.one (slice_index x b) k (sx.small b lb) lk)
        (ap (λ z. is_same z (T y)) (swap-turned x sx a b la lb)
        ∙ same-turned (swap x a b) y (IsBijection-swap n x a b la lb sx) sy))

    empty-turned : (x : List ℕ) → IsBijection n x
        → is_empty (T x) (corners (f a) (f b) (h j) (h k)) ≡ is_empty x (corners a b j k)
    empty-turned x sx =
        ap (λ m. all_below m (λ c. not (is_inside m (f a) (f b) c && is_inside m (h j) (h k) (slice_index (T x) c))))
        (IsBijection-turned_state side n x sx).long
        ∙ sym (all_below_reindex n f sf.one
        (λ c. not (is_inside n (f a) (f b) c && is_inside n (h j) (h k) (slice_index (T x) c))))
        ∙ all_below-same n _ (λ c. not (is_inside n a b c && is_inside n j k (slice_index x c))) (λ c l.
        ap₂ (λ p q. not (p && q)) (inside-shift n f sf a b c la lb l)
        (ap (is_inside n (h j) (h k)) (state-at_target x sx c l)
        ∙ inside-shift n h sh j k (slice_index x c) lj lk (sx.small c l)))
        ∙ sym (ap (λ m. all_below m (λ c. not (is_inside m a b c && is_inside m j k (slice_index x c)))) sx.long)

    -- a mark is in the turned rows if it was in the rows
    mark-turned : (rows : List ℕ) → IsBijection n rows → (c : ℕ) → c < n
        → in_range n (h j) (h k) (slice_index (turned_rows side n rows) (f c)) ≡ in_range n j k (slice_index rows c)
    mark-turned rows s c l =
        ap (in_range n (h j) (h k)) (at_target rows c l) ∙ sh.range j k (slice_index rows c) lj lk (s.small c l)

    unmarked-turned : (g : Marks) → size g ≡ n → IsBijection n g.o → IsBijection n g.x
        → all_below n (λ c. not (in_range n (f a) (f b) c && (in_range n (h j) (h k)
        (slice_index (turned_rows side n g.o) c)
        || in_range n (h j) (h k) (slice_index (turned_rows side n g.x) c))))
        ≡ all_below n (λ c. not (in_range n a b c && (in_range n j k (slice_index g.o c)
        || in_range n j k (slice_index g.x c))))
    unmarked-turned g e so sx =
        sym (all_below_reindex n f sf.one
        (λ c. not (in_range n (f a) (f b) c && (in_range n (h j) (h k) (slice_index (turned_rows side n g.o) c)
        || in_range n (h j) (h k) (slice_index (turned_rows side n g.x) c)))))
        ∙ all_below-same n _ (λ c. not (in_range n a b c && (in_range n j k (slice_index g.o c)
        || in_range n j k (slice_index g.x c)))) (λ c l.
        λ i. not (sf.range a b c la lb l i && (mark-turned g.o so c l i || mark-turned g.x sx c l i)))

module _ (side : Side) (g : Marks) (s : IsGrid g) where
  abbrev n : ℕ
  n = size g

  size_is : size (turned side g) ≡ size g
  size_is = length-turned_rows side (size g) g.o

  -- a step of the turned grid
  step-turned : (x y : List ℕ) → IsBijection n x → IsBijection n y → (a b j k : ℕ) → a < n → b < n → j < n → k < n
      → is_step (turned side g) (turned_state side x) (turned_state side y)
      (corners (target_column side n a) (target_column side n b) (moved_row side n j) (moved_row side n k))
      ≡ is_step g x y (corners a b j k)
  step-turned x y sx sy a b j k la lb lj lk =
      ap₂ (λ p q. p && q) (leads-turned side n a b j k la lb lj lk x y sx sy)
      (ap₂ (λ p q. p && q) (empty-turned side n a b j k la lb lj lk x sx)
      (ap (λ m. all_below m (λ c. not (in_range m (target_column side n a) (target_column side n b) c
      && (in_range m (moved_row side n j) (moved_row side n k) (slice_index (turned_rows side n g.o) c)
      || in_range m (moved_row side n j) (moved_row side n k) (slice_index (turned_rows side n g.x) c))))) size_is
      ∙ unmarked-turned side n a b j k la lb lj lk g refl s.o s.x))

  -- as many steps, mod 2, lead from a turned state to another
  pub odd_steps-turned : (x y : List ℕ) → IsBijection n x → IsBijection n y
      → is_odd (length (filter (is_step (turned side g) (turned_state side x) (turned_state side y))
      (rectangles (size (turned side g))))) ≡ is_odd (length (filter (is_step g x y) (rectangles n)))
  odd_steps-turned x y sx sy =
      ap (λ m. is_odd (length (filter (is_step (turned side g) (turned_state side x) (turned_state side y))
      (rectangles m)))) size_is
      ∙ is_odd-filter (is_step (turned side g) (turned_state side x) (turned_state side y)) (rectangles n)
      ∙ rectangles_renamed n (target_column side n) (moved_row side n) (IsShift-target_column side n).one
      (IsShift-moved_row side n).one (is_step g x y)
      (is_step (turned side g) (turned_state side x) (turned_state side y)) (step-turned x y sx sy)
      ∙ sym (is_odd-filter (is_step g x y) (rectangles n))
