-- The image of a state as a sum modulo 2 over two circles: the tests of the definition are those of the
-- proofs, ranges as comparisons and states as functions.
use Rattle.std.proofs.Common.{Bool, Contains, List, ap, ap₂, cond, eqb, false, length, ltb, map, not, slice_index, subst, swap, sym, true, true≢false, ℕ, ◌&&◌, ◌<◌, ◌||◌, ◌∙◌, ◌≡◌, ◌≢◌}
use Rattle.std.proofs.lemmas.Bool.{eqb-true}
use Rattle.std.proofs.lemmas.Map.Views.{Contains-from_any}
use Rattle.std.specs.List.{filter}
use Rattle.f2_algebra.proofs.Chains.ParityLemmas.{parity_below, parity_below-same}
use Rattle.f2_algebra.proofs.Chains.Sets.{holds-of_codes, weight, weight-at}
use Rattle.f2_algebra.specs.Chain.{holds, is_odd}
use Rattle.state_rank.proofs.MemberLemmas.{member_of_filter, member_of_map}
use Rattle.state_rank.proofs.OrderLemmas.{member_of_states}
use Rattle.state_rank.proofs.RankLemmas.{rank-below}
use Rattle.state_rank.specs.Bijection.{IsBijection}
use Rattle.state_rank.specs.States.{factorial, rank, states}
use Rattle.torus_geom.proofs.Circles.TurnLemmas.{one_down_below, one_up_below}
use Rattle.torus_geom.specs.Inner.CodeBorder.{states_where}
use Rattle.torus_geom.specs.Range.{one_down, one_up}
use Rattle.torus_geom.specs.Marks.{IsGrid, Marks, size}
use Rattle.torus_geom.specs.Range.{in_range, offset}
use Rattle.torus_geom.specs.Rectangle.{is_empty, rectangles}
use Rattle.rectangles.proofs.Square.CyclicOrder.{between, between_end}
use Rattle.rectangles.proofs.Square.EmptyRectangles.{free}
use Rattle.rectangles.proofs.Square.OpenRectangles.{marks}
use Rattle.rectangles.proofs.Square.RectangleTests.{in_range-between, is_empty-corners}
use Rattle.rectangles.proofs.Square.TwoSteps.{differ, guard}
use Rattle.pentagon_map.proofs.ChainMap.CyclicSteps.{between-one_up}
use Rattle.pentagon_map.proofs.ChainMap.RowArcs.{above_of}
use Rattle.pentagon_map.proofs.ChainMap.StepSums.{passes_at, weight-leading}
use Rattle.pentagon_map.specs.Inner.CodeImages.{column_image}
use Rattle.pentagon_map.specs.Pentagon.{crossing_row, has_mark_in_rows, is_pentagon, is_pentagonal, is_unmarked_beside}
use Rattle.pentagon_map.specs.declared.Corner.{Corner}
use Rattle.pentagon_map.specs.declared.Corner.TheVariants.{Over, Under}
use Rattle.torus_geom.proofs.Sums.AllBelowLemmas.{all_below-same}
use Rattle.torus_geom.proofs.Circles.RectangleLemmas.{corners}
use Rattle.pentagon_map.proofs.ChainMap.PentagonTests.{two, lacks, penta, is_open_pentagon}

module _ (g : Marks) (s : IsGrid g) (c w : ℕ) (lc : c < size g) (lw : w < size g) where
  -- the pentagon that leaves the state f at the circles a and b
  abbrev pub pentagon_at : (ℕ → ℕ) → ℕ → ℕ → Bool
  pentagon_at f a b = is_open_pentagon (size g) (one_down (size g) c) c w (slice_index g.o) (slice_index g.x) f a b

  -- rows from j up to k, as comparisons
  pub lacks-has_mark : (d j k : ℕ) → d < size g → j < size g → k < size g
      → not (has_mark_in_rows g d j k) ≡ lacks (slice_index g.o) (slice_index g.x) d (between j k)
  lacks-has_mark d j k ld lj lk =
      λ i. not (in_range-between (size g) j k (slice_index g.o d) lj lk (s.o.small d ld) i
      || in_range-between (size g) j k (slice_index g.x d) lj lk (s.x.small d ld) i)

  pub lacks-above : (d k : ℕ) → d < size g → k < size g → k ≢ w
      → not (has_mark_in_rows g d (one_up (size g) w) k) ≡ lacks (slice_index g.o) (slice_index g.x) d (above_of w k)
  lacks-above d k ld lk p =
      lacks-has_mark d (one_up (size g) w) k ld (one_up_below (size g) w lw) lk
      ∙ (λ i. not (between-one_up (size g) w k (slice_index g.o d) lw lk (s.o.small d ld) p i
      || between-one_up (size g) w k (slice_index g.x d) lw lk (s.x.small d ld) p i))

  pub unmarked-beside : (a b j k : ℕ) → a < size g → b < size g → j < size g → k < size g
      → is_unmarked_beside g c (corners a b j k)
      ≡ free (size g) (two (one_down (size g) c) c) (between a b)
      (marks (slice_index g.o) (slice_index g.x) (between j k))
  unmarked-beside a b j k la lb lj lk =
      all_below-same (size g) (λ d. (eqb d (one_down (size g) c) || eqb d c)
      || not (in_range (size g) a b d && has_mark_in_rows g d j k))
      (λ d. two (one_down (size g) c) c d
      || not (between a b d && marks (slice_index g.o) (slice_index g.x) (between j k) d)) (λ d l.
      λ i. two (one_down (size g) c) c d
      || not (in_range-between (size g) a b d la lb l i
      && (in_range-between (size g) j k (slice_index g.o d) lj lk (s.o.small d l) i
      || in_range-between (size g) j k (slice_index g.x d) lj lk (s.x.small d l) i)))

  above_w : (j k : ℕ) → between j k w ≡ true → k ≢ w
  above_w j k h e = true≢false (sym h ∙ ap (between j k) (sym e) ∙ between_end j k)

  -- what is asked of a rectangle beside emptiness
  pub is_pentagonal-corners : (a b j k : ℕ) → a < size g → b < size g → j < size g → k < size g
      → is_pentagonal g c w (corners a b j k)
      ≡ penta (size g) (one_down (size g) c) c w (slice_index g.o) (slice_index g.x) a b j k
  is_pentagonal-corners a b j k la lb lj lk =
      ap (λ z. (eqb a c || eqb b c) && z) (
      (λ i. in_range-between (size g) j k w lj lk lw i
      && (unmarked-beside a b j k la lb lj lk i
      && (lacks-has_mark c j w lc lj lw i && not (has_mark_in_rows g (one_down (size g) c) (one_up (size g) w) k))))
      ∙ guard (between j k w) _ _ (λ h. ap (λ z. free (size g) (two (one_down (size g) c) c) (between a b)
      (marks (slice_index g.o) (slice_index g.x) (between j k))
      && (lacks (slice_index g.o) (slice_index g.x) c (between j w) && z))
      (lacks-above (one_down (size g) c) k (one_down_below (size g) c lc) lk (above_w j k h))))

  -- the rectangle of x at two circles is a pentagon
  pub passes_at-pentagon : (x : List ℕ) (sx : IsBijection (size g) x) (a b : ℕ) → a < size g → b < size g
      → passes_at (size g) x sx (λ r. is_empty x r && is_pentagonal g c w r) a b ≡ pentagon_at (slice_index x) a b
  passes_at-pentagon x sx a b la lb =
      let lj = sx.small a la in
      let lk = sx.small b lb in
      ap₂ (λ u v. differ a b && (u && v))
      (is_empty-corners (size g) x sx a b (slice_index x a) (slice_index x b) la lb lj lk)
      (is_pentagonal-corners a b (slice_index x a) (slice_index x b) la lb lj lk)

-- the weight of the image of a state
pub weight-column_image : (g : Marks) (s : IsGrid g) (c : ℕ) (corner : Corner) (lc : c < size g)
    (lw : crossing_row g c corner < size g) (x : List ℕ) → IsBijection (size g) x → (p : ℕ → Bool)
    → weight p (column_image g c corner x)
    ≡ parity_below (size g) (λ a. parity_below (size g)
    (λ b. pentagon_at g s c (crossing_row g c corner) lc lw (slice_index x) a b && p (rank (swap x a b))))
unfolding column_image
weight-column_image g s c corner lc lw x sx p =
    weight-leading (size g) x sx (λ r. is_empty x r && is_pentagonal g c (crossing_row g c corner) r) p
    ∙ parity_below-same (size g) _ _ (λ a la. parity_below-same (size g) _ _ (λ b lb.
    ap (λ t. t && p (rank (swap x a b))) (passes_at-pentagon g s c (crossing_row g c corner) lc lw x sx a b la lb)))

-- the crossing row is a row
pub crossing_row-below : (g : Marks) → IsGrid g → (c : ℕ) → c < size g → (corner : Corner)
    → crossing_row g c corner < size g
crossing_row-below g s c lc Over =
    either (ltb (offset (size g) (slice_index g.o (one_down (size g) c)) (slice_index g.o c))
    (offset (size g) (slice_index g.o (one_down (size g) c)) (slice_index g.x c)))
  where
    either : (b : Bool) → cond b (slice_index g.o c) (slice_index g.x c) < size g
    either true = s.o.small c lc
    either false = s.x.small c lc
crossing_row-below g s c lc Under =
    either (ltb (offset (size g) (slice_index g.o c) (slice_index g.o (one_down (size g) c)))
    (offset (size g) (slice_index g.o c) (slice_index g.x (one_down (size g) c))))
  where
    either : (b : Bool)
        → cond b (slice_index g.x (one_down (size g) c)) (slice_index g.o (one_down (size g) c)) < size g
    either true = s.x.small (one_down (size g) c) (one_down_below (size g) c lc)
    either false = s.o.small (one_down (size g) c) (one_down_below (size g) c lc)

-- what the image of a state holds
pub holds-column_image : (g : Marks) (s : IsGrid g) (c : ℕ) (corner : Corner) (lc : c < size g)
    (lw : crossing_row g c corner < size g) (x : List ℕ) → IsBijection (size g) x → (q : ℕ)
    → holds (column_image g c corner x) q
    ≡ parity_below (size g) (λ a. parity_below (size g)
    (λ b. pentagon_at g s c (crossing_row g c corner) lc lw (slice_index x) a b && eqb q (rank (swap x a b))))
holds-column_image g s c corner lc lw x sx q =
    sym (weight-at (column_image g c corner x) q) ∙ weight-column_image g s c corner lc lw x sx (λ t. eqb q t)

-- a state that a chain of states has
pub state_of-states_where : (n : ℕ) (test : List ℕ → Bool) (c : ℕ) → holds (states_where n test) c ≡ true
    → (y : List ℕ) × IsBijection n y × (rank y ≡ c) × (test y ≡ true)
state_of-states_where n test c h =
    let ranks : List ℕ = map rank (filter test (states n)) in
    let in_ranks : Contains ranks c =
    Contains-from_any (λ a b. eqb-true a b) c ranks (sym (holds-of_codes ranks c) ∙ h) in
    let (y, in_filter, is) = member_of_map rank (filter test (states n)) c in_ranks in
    let (in_states, passes) = member_of_filter test (states n) y in_filter in
    (y, member_of_states n y in_states, is, passes)

-- the image of a state has indices of states
pub column_image-below : (g : Marks) (c : ℕ) (corner : Corner) (x : List ℕ) (t : ℕ)
    → holds (column_image g c corner x) t ≡ true → t < factorial (size g)
unfolding column_image
column_image-below g c corner x t h =
    let (y, sy, is, passes) =
    state_of-states_where (size g) (λ y. is_odd (length (filter (is_pentagon g c (crossing_row g c corner) x y)
    (rectangles (size g))))) t h in
    subst (λ k. k < factorial (size g)) is (rank-below (size g) y sy)
