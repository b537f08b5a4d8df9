-- The square law: the border of a border is empty, for every grid and every chain. So the grid complex
-- is a complex, where each step lowers the Maslov degree by one and keeps the Alexander degree.
-- Route: the weight of the border of a state is a sum over two circles, so that of the border of the
-- border of a state is a sum over two steps, which vanishes. A code that is the index of no state has
-- the empty list for its state, which no rectangle leaves.
use Rattle.std.proofs.Common.{◌≡◌, ℕ, ◌<◌, Bool, true, false, not, cond, ◌&&◌, List, [], ◌∷◌, length, map, slice_index, swap, Contains, Some, None, refl, ap, ap₂, subst, ◌∙◌, sym, eqb, ltb, arith, inl, inr}
use Rattle.std.specs.List.{filter}
use Rattle.std.proofs.lemmas.Bool.{cases_lt, eqb-true, lt-ltb, ltb-true, ltb-false, false≢true}
use Rattle.std.proofs.lemmas.Map.Views.{Contains-from_any}
use Rattle.f2_algebra.specs.Chain.{Chain, holds, nothing, single, ◌⊕◌, sum_over, is_odd}
use Rattle.f2_algebra.specs.Complex.{Complex, arrow, IsComplex, IsAbove}
use Rattle.f2_algebra.specs.Complex as complex
use Rattle.f2_algebra.specs.Bigraded.{up_m}
use Rattle.f2_algebra.proofs.Chains.Tables.{same}
use Rattle.f2_algebra.proofs.Chains.ParityLemmas.{parity-and, below, parity_below, parity_below-same, parity_below-none, is_odd-filter}
use Rattle.f2_algebra.proofs.Chains.Sets.{weight, weight-same, weight-some, weight-none, weight-nothing, weight-at, same_chain, holds-nothing, holds-of_codes}
use Rattle.f2_algebra.proofs.Chains.Sums.{sum_over-add, sum_over-single, sum_over-same, holds-sum_over, weight-sum_over}
use Rattle.f2_algebra.proofs.Ranks.Bigraded.{up_m_one, up_m_other}
use Rattle.state_rank.specs.Bijection.{IsBijection, tabulate}
use Rattle.state_rank.specs.States.{states, rank, unrank, factorial}
use Rattle.state_rank.proofs.BijectionLemmas.{one_to_one}
use Rattle.state_rank.proofs.Pigeonhole.{onto}
use Rattle.state_rank.proofs.MemberLemmas.{member_head, member_of_map, member_of_filter}
use Rattle.state_rank.proofs.OrderLemmas.{member_of_states}
use Rattle.state_rank.proofs.RankLemmas.{IsBijection-unrank, rank-below, unrank-rank, unrank-past}
use Rattle.state_rank.proofs.SwapLemmas.{IsBijection-swap}
use Rattle.torus_geom.specs.Marks.{Marks, size, IsGrid}
use Rattle.torus_geom.specs.Rectangle.{IsProper, rectangles}
use Rattle.torus_geom.specs.Border.{is_step}
use Rattle.torus_geom.specs.Inner.CodeBorder.{border_of_state, border}
use Rattle.torus_geom.specs.declared.rects.Rect.{Rect}
use Rattle.torus_geom.specs.Degrees.{bidegree}
use Rattle.torus_geom.specs.Inner.GridComplex.{grid_complex}
pub use Rattle.torus_geom.proofs.Circles.RectangleLemmas.{member_of_rectangles, border_of_state-nil}
use Rattle.rectangles.proofs.Square.TwoSteps.{differ}
use Rattle.rectangles.proofs.Square.Exchanges.{with_exchanged}
use Rattle.rectangles.proofs.Square.OpenRectangles.{is_open}
use Rattle.rectangles.proofs.Square.SquareLemmas.{two_steps, twice_none}
use Rattle.rectangles.proofs.Square.RectangleTests.{swap-with_exchanged}
use Rattle.rectangles.proofs.Square.RectangleSums.{parity-rectangles, weight-border_of_state}
use Rattle.torus_geom.proofs.Sums.TabulateLemmas.{tabulate-slice_index}

-- ---- codes that are indices of no state

no_step : (g : Marks) (y : List ℕ) → is_odd (length (filter (is_step g [] y) (rectangles (size g)))) ≡ false
no_step g y =
    let n : ℕ = size g in
    is_odd-filter (is_step g [] y) (rectangles n) ∙ parity-rectangles (is_step g [] y) n
    ∙ parity_below-none n _ (λ a la. parity_below-none n _ (λ b lb.
    ap (λ t. differ a b && t) (parity_below-none n _ (λ j lj. parity_below-none n _ (λ k lk. by j k _ _)))
    ∙ same 1 (λ d. d && false) (λ d. false) refl (differ a b)))
  where
    by : (j k : ℕ) (s t : Bool) → (not (eqb j k) && ((eqb 0 j && (eqb 0 k && s)) && t)) ≡ false
    by j k s t = grind arith

-- ---- states as lists of a function's values

module _ (g : Marks) (s : IsGrid g) where
  abbrev step_at : (ℕ → ℕ) → ℕ → ℕ → Bool
  step_at f a b = is_open (size g) (slice_index g.o) (slice_index g.x) f a b

  -- the state of f has the index q
  abbrev has_rank : ℕ → (ℕ → ℕ) → Bool
  has_rank q f = eqb q (rank (tabulate (size g) f))

  swap-exchanged : (x : List ℕ) → IsBijection (size g) x → (a b : ℕ) → a < size g → b < size g
      → slice_index (swap x a b) ≡ with_exchanged (slice_index x) a b
  swap-exchanged x sx a b la lb = let e = sx.long in swap-with_exchanged x a b (omega arith) (omega arith)

  swap-tabulate : (x : List ℕ) → IsBijection (size g) x → (a b : ℕ) → a < size g → b < size g
      → swap x a b ≡ tabulate (size g) (with_exchanged (slice_index x) a b)
  swap-tabulate x sx a b la lb =
      let sy = IsBijection-swap (size g) x a b la lb sx in
      sym (tabulate-slice_index (swap x a b)) ∙ ap₂ (λ m f. tabulate m f) sy.long (swap-exchanged x sx a b la lb)

  -- whether the border of a state holds q
  pub holds-border_of_state : (x : List ℕ) → IsBijection (size g) x → (q : ℕ)
      → holds (border_of_state g x) q
      ≡ parity_below (size g) (λ a. parity_below (size g)
      (λ b. step_at (slice_index x) a b && has_rank q (with_exchanged (slice_index x) a b)))
  holds-border_of_state x sx q =
      sym (weight-at (border_of_state g x) q)
      ∙ weight-border_of_state g s x sx (λ t. eqb q t)
      ∙ parity_below-same (size g) _ _ (λ a la. parity_below-same (size g) _ _ (λ b lb.
      ap (λ y. step_at (slice_index x) a b && eqb q (rank y)) (swap-tabulate x sx a b la lb)))

  -- the border of the border of a state is empty
  square_of_state : (x : List ℕ) → IsBijection (size g) x → (q : ℕ)
      → weight (λ c. holds (border_of_state g (unrank (size g) c)) q) (border_of_state g x) ≡ false
  square_of_state x sx q =
      let n : ℕ = size g in
      let f : ℕ → ℕ = slice_index x in
      weight-border_of_state g s x sx (λ c. holds (border_of_state g (unrank n c)) q)
      ∙ parity_below-same n _ (λ a. parity_below n (λ b. parity_below n
      (λ c. parity_below n (two_steps n (slice_index g.o) (slice_index g.x) f (has_rank q) a b c)))) (λ a la.
      parity_below-same n _ (λ b. parity_below n (λ c. parity_below n
      (two_steps n (slice_index g.o) (slice_index g.x) f (has_rank q) a b c))) (λ b lb.
      let u : List ℕ = swap x a b in
      let su = IsBijection-swap n x a b la lb sx in
      ap (λ y. step_at f a b && holds (border_of_state g y) q) (unrank-rank n u su)
      ∙ ap (λ t. step_at f a b && t) (holds-border_of_state u su q)
      ∙ ap (λ h. step_at f a b
      && parity_below n (λ c. parity_below n (λ d. step_at h c d && has_rank q (with_exchanged h c d))))
      (swap-exchanged x sx a b la lb)
      ∙ sym (parity-and (step_at f a b)
      (λ c. parity_below n (λ d. step_at (with_exchanged f a b) c d
      && has_rank q (with_exchanged (with_exchanged f a b) c d)))
      (below n))
      ∙ parity_below-same n _ (λ c. parity_below n (two_steps n (slice_index g.o) (slice_index g.x) f
      (has_rank q) a b c)) (λ c lc.
      sym (parity-and (step_at f a b)
      (λ d. step_at (with_exchanged f a b) c d && has_rank q (with_exchanged (with_exchanged f a b) c d)) (below n)))))
      ∙ twice_none n (slice_index g.o) (slice_index g.x) f (has_rank q) (onto n (slice_index g.o) s.o.small s.o.apart)
      (one_to_one n x sx)

  square_of_code : (q c : ℕ)
      → weight (λ d. holds (border_of_state g (unrank (size g) d)) q) (border_of_state g (unrank (size g) c)) ≡ false
  square_of_code q c = elim (cases_lt c (factorial (size g))) [
    | inl l ↦ square_of_state (unrank (size g) c) (IsBijection-unrank (size g) c l) q
    | inr l ↦
        ap (λ x. weight (λ d. holds (border_of_state g (unrank (size g) d)) q) (border_of_state g x))
        (unrank-past (size g) c l)
        ∙ ap (weight (λ d. holds (border_of_state g (unrank (size g) d)) q)) (border_of_state-nil g) ∙ weight-nothing _
  ]

  -- The border of a border is empty.
  pub border-border : (z : Chain) → border g (border g z) ≡ nothing
  unfolding border
  border-border z = same_chain _ _ (λ q.
      holds-sum_over (sum_over z (λ code. border_of_state g (unrank (size g) code)))
      (λ code. border_of_state g (unrank (size g) code)) q
      ∙ weight-sum_over (λ d. holds (border_of_state g (unrank (size g) d)) q) z
      (λ code. border_of_state g (unrank (size g) code))
      ∙ weight-same _ (λ c. false) z (λ c _. square_of_code q c) ∙ weight-none z ∙ sym (holds-nothing q))

-- the border of a sum is the sum of the borders
pub code_border-add : (g : Marks) (z w : Chain) → border g (z ⊕ w) ≡ border g z ⊕ border g w
unfolding border
code_border-add g z w = sum_over-add z w (λ code. border_of_state g (unrank (size g) code))

-- the border of a single code is that of its state
border-single : (g : Marks) (c : ℕ) → border g (single c) ≡ border_of_state g (unrank (size g) c)
unfolding border
border-single g c = sum_over-single c (λ code. border_of_state g (unrank (size g) code))

-- ---- the grid complex
-- a code that is the index of no state has no targets
targets-grid_complex : (g : Marks) (c : ℕ) → (grid_complex g).targets c ≡ border_of_state g (unrank (size g) c)
targets-grid_complex g c = by (ltb c (factorial (size g))) refl
  where
    by : (b : Bool) → ltb c (factorial (size g)) ≡ b
        → cond b (border_of_state g (unrank (size g) c)) nothing ≡ border_of_state g (unrank (size g) c)
    by true e = refl
    by false e =
        sym (ap (border_of_state g) (unrank-past (size g) c (ltb-false c (factorial (size g)) e))
        ∙ border_of_state-nil g)

-- its border is the border of chains
pub border-grid_complex : (g : Marks) (z : Chain) → complex.border (grid_complex g) z ≡ border g z
unfolding border
border-grid_complex g z =
    sum_over-same z (grid_complex g).targets (λ code. border_of_state g (unrank (size g) code))
    (λ c _. targets-grid_complex g c)

-- each step of a state lowers the Maslov degree by one and keeps the Alexander degree
abbrev pub LowersDegrees : Marks → Type 0
LowersDegrees g = (x y : List ℕ) (r : Rect) → IsBijection (size g) x → IsBijection (size g) y → IsProper (size g) r
    → is_step g x y r ≡ true → bidegree g x ≡ up_m (bidegree g y)

some_member : {A : Type 0} (xs : List A) → is_odd (length xs) ≡ true → (x : A) × Contains xs x
some_member [] h = absurd (false≢true h)
some_member (x ∷ xs) h = (x, member_head x xs)

-- a state of the border of another is reached by a step
pub step_of_border : (g : Marks) (x : List ℕ) (c : ℕ) → holds (border_of_state g x) c ≡ true
    → (y : List ℕ) × IsBijection (size g) y × (rank y ≡ c)
    × ((r : Rect) × IsProper (size g) r × (is_step g x y r ≡ true))
unfolding border_of_state
step_of_border g x c h =
    let n : ℕ = size g in
    let test : List ℕ → Bool = λ y. is_odd (length (filter (is_step g x y) (rectangles n))) in
    let ranks : List ℕ = map rank (filter test (states n)) in
    let in_ranks : Contains ranks c =
    Contains-from_any (λ a b. eqb-true a b) c ranks (sym (holds-of_codes ranks c) ∙ h) in
    let (y, in_filter, is) = member_of_map rank (filter test (states n)) c in_ranks in
    let (in_states, odd) = member_of_filter test (states n) y in_filter in
    let (r, in_steps) = some_member (filter (is_step g x y) (rectangles n)) odd in
    let (in_rectangles, step) = member_of_filter (is_step g x y) (rectangles n) r in_steps in
    (y, member_of_states n y in_states, is, (r, member_of_rectangles n r in_rectangles, step))

-- the border of a state holds indices of states
pub border_of_state-below : (g : Marks) (x : List ℕ) (c : ℕ) → holds (border_of_state g x) c ≡ true
    → c < factorial (size g)
border_of_state-below g x c h = let (y, sy, is, step) = step_of_border g x c h in
    subst (λ k. k < factorial (size g)) is (rank-below (size g) y sy)

-- and so does that of a chain
pub border-below : (g : Marks) (z : Chain) (c : ℕ) → holds (border g z) c ≡ true → c < factorial (size g)
unfolding border
border-below g z c h =
    let (s, in_z, in_border) =
    weight-some (λ s. holds (border_of_state g (unrank (size g) s)) c) z
    (sym (holds-sum_over z (λ code. border_of_state g (unrank (size g) code)) c) ∙ h) in
    border_of_state-below g (unrank (size g) s) c in_border

module _ (g : Marks) where
  cell : (c : ℕ) → c < factorial (size g) → (grid_complex g).degree c ≡ Some (bidegree g (unrank (size g) c))
  cell c l = ap (λ b. cond b (Some (bidegree g (unrank (size g) c))) None) (lt-ltb c (factorial (size g)) l)

  lowers : LowersDegrees g → (c d : ℕ) → arrow (grid_complex g) c d ≡ true → IsAbove (grid_complex g) c d
  lowers degrees c d h = by (ltb c (factorial (size g))) refl h
    where
      by : (b : Bool) → ltb c (factorial (size g)) ≡ b
          → holds (cond b (border_of_state g (unrank (size g) c)) nothing) d ≡ true → IsAbove (grid_complex g) c d
      by false e h = absurd (false≢true (sym (holds-nothing d) ∙ h))
      by true e h =
          let n : ℕ = size g in
          let l : c < factorial n = ltb-true c (factorial n) e in
          let (y, sy, is, (r, proper, step)) = step_of_border g (unrank n c) d h in
          let at : unrank n d ≡ y = ap (unrank n) (sym is) ∙ unrank-rank n y sy in
          let below : d < factorial n = subst (λ k. k < factorial n) is (rank-below n y sy) in (
            bidegree g y,
            cell c l ∙ ap Some (degrees (unrank n c) y r (IsBijection-unrank n c l) sy proper step),
            cell d below ∙ ap (λ z. Some (bidegree g z)) at,
          )

-- The grid complex is a complex.
pub grid_complex_IsComplex : (g : Marks) → IsGrid g → LowersDegrees g → IsComplex (grid_complex g)
grid_complex_IsComplex g s degrees = record {
  up_one = up_m_one;
  up_other = up_m_other;
  lowers = lowers g degrees;
  squares = λ c.
      border-grid_complex g ((grid_complex g).targets c)
      ∙ ap (border g) (targets-grid_complex g c ∙ sym (border-single g c)) ∙ border-border g s (single c);
}
