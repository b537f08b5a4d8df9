-- The homotopy of a state as a sum modulo 2 over two circles: the tests of the definition are those of the proofs.
use Rattle.std.proofs.Common.{Bool, List, [], ap, ap₂, eqb, length, map, true, slice_index, swap, ℕ, ◌&&◌, ◌<◌, ◌||◌, ◌∙◌, ◌≡◌, refl}
use Rattle.std.specs.List.{filter}
use Rattle.f2_algebra.proofs.Chains.ParityLemmas.{parity_below, parity_below-same}
use Rattle.f2_algebra.proofs.Chains.Sets.{weight}
use Rattle.f2_algebra.proofs.Chains.Tables.{same}
use Rattle.f2_algebra.specs.Chain.{holds, is_odd, nothing, of_codes}
use Rattle.state_rank.specs.Bijection.{IsBijection}
use Rattle.state_rank.specs.States.{factorial, rank, states}
use Rattle.torus_geom.specs.Range.{one_down}
use Rattle.torus_geom.specs.Marks.{IsGrid, Marks, size}
use Rattle.torus_geom.specs.Rectangle.{is_empty, rectangles}
use Rattle.rectangles.proofs.Square.CyclicOrder.{between}
use Rattle.rectangles.proofs.Square.EmptyRectangles.{free}
use Rattle.rectangles.proofs.Square.OpenRectangles.{marks}
use Rattle.rectangles.proofs.Square.RectangleTests.{in_range-between, is_empty-corners}
use Rattle.rectangles.proofs.Square.TwoSteps.{differ}
use Rattle.pentagon_map.proofs.ChainMap.ImageOfBorder.{none_leads}
use Rattle.pentagon_map.proofs.ChainMap.PentagonSums.{unmarked-beside}
use Rattle.pentagon_map.proofs.ChainMap.StepSums.{passes_at, weight-leading}
use Rattle.pentagon_map.specs.Pentagon.{crossing_row}
use Rattle.pentagon_map.specs.declared.Corner.{Corner}
use Rattle.hexagon_map.specs.Hexagon.{crossing_row_back, is_hexagon, is_hexagonal}
use Rattle.hexagon_map.proofs.WayBack.Hexagons.{hexa, open_hexa}
use Rattle.torus_geom.proofs.Circles.RectangleLemmas.{corners}
use Rattle.torus_geom.proofs.Sums.TabulateLemmas.{filter-none}
use Rattle.pentagon_map.proofs.ChainMap.PentagonTests.{two}
use Rattle.torus_geom.proofs.Chains.StateChains.{states_where-below}
use Rattle.hexagon_map.specs.Inner.CodeHomotopies.{column_homotopy}

module _ (g : Marks) (s : IsGrid g) (c w v : ℕ) (lc : c < size g) (lw : w < size g) (lv : v < size g) where
  -- the hexagon that leaves the state f at the circles a and b
  abbrev pub hexagon_at : (ℕ → ℕ) → ℕ → ℕ → Bool
  hexagon_at f a b = open_hexa (size g) (one_down (size g) c) c w v (slice_index g.o) (slice_index g.x) f a b

  -- what is asked of a rectangle beside emptiness
  is_hexagonal-corners : (a b j k : ℕ) → a < size g → b < size g → j < size g → k < size g
      → is_hexagonal g c w v (corners a b j k)
      ≡ hexa (size g) (one_down (size g) c) c w v (slice_index g.o) (slice_index g.x) a b j k
  is_hexagonal-corners a b j k la lb lj lk =
      (λ i. ((eqb b c && in_range-between (size g) j w v lj lw lv i)
      || (eqb a c && in_range-between (size g) j v w lj lv lw i))
      && ((in_range-between (size g) j k v lj lk lv i && in_range-between (size g) j k w lj lk lw i)
      && unmarked-beside g s c w lc lw a b j k la lb lj lk i))
      ∙ same 3 (λ x y z. x && (y && z)) (λ x y z. (x && y) && z) refl
      ((eqb b c && between j w v) || (eqb a c && between j v w)) (between j k v && between j k w)
      (free (size g) (two (one_down (size g) c) c) (between a b)
      (marks (slice_index g.o) (slice_index g.x) (between j k)))

  -- the rectangle of x at two circles is a hexagon
  pub passes_at-hexagon : (x : List ℕ) (sx : IsBijection (size g) x) (a b : ℕ) → a < size g → b < size g
      → passes_at (size g) x sx (λ r. is_empty x r && is_hexagonal g c w v r) a b ≡ hexagon_at (slice_index x) a b
  passes_at-hexagon x sx a b la lb =
      let lj = sx.small a la in
      let lk = sx.small b lb in
      ap₂ (λ p q. differ a b && (p && q))
      (is_empty-corners (size g) x sx a b (slice_index x a) (slice_index x b) la lb lj lk)
      (is_hexagonal-corners a b (slice_index x a) (slice_index x b) la lb lj lk)

-- the weight of the homotopy of a state
pub weight-column_homotopy : (g : Marks) (s : IsGrid g) (c : ℕ) (corner : Corner) (lc : c < size g)
    (lw : crossing_row g c corner < size g) (lv : crossing_row_back g c corner < size g) (x : List ℕ)
    → IsBijection (size g) x → (p : ℕ → Bool)
    → weight p (column_homotopy g c corner x)
    ≡ parity_below (size g) (λ a. parity_below (size g)
    (λ b. hexagon_at g s c (crossing_row g c corner) (crossing_row_back g c corner) lc lw lv (slice_index x) a b
    && p (rank (swap x a b))))
unfolding column_homotopy
weight-column_homotopy g s c corner lc lw lv x sx p =
    let w = crossing_row g c corner in
    let v = crossing_row_back g c corner in
    weight-leading (size g) x sx (λ r. is_empty x r && is_hexagonal g c w v r) p
    ∙ parity_below-same (size g) _ _ (λ a la. parity_below-same (size g) _ _ (λ b lb.
    ap (λ t. t && p (rank (swap x a b))) (passes_at-hexagon g s c w v lc lw lv x sx a b la lb)))

-- no hexagon leaves the empty list
pub column_homotopy-nil : (g : Marks) (c : ℕ) (corner : Corner) → column_homotopy g c corner [] ≡ nothing
unfolding column_homotopy
column_homotopy-nil g c corner =
    let w = crossing_row g c corner in
    let v = crossing_row_back g c corner in
    ap (λ ys. of_codes (map rank ys))
    (filter-none (λ y. is_odd (length (filter (is_hexagon g c w v [] y) (rectangles (size g))))) (states (size g))
    (none_leads (size g) (λ r. is_empty [] r && is_hexagonal g c w v r)))

-- the homotopy of a state has indices of states
pub column_homotopy-below : (g : Marks) (c : ℕ) (corner : Corner) (x : List ℕ) (t : ℕ)
    → holds (column_homotopy g c corner x) t ≡ true → t < factorial (size g)
unfolding column_homotopy
column_homotopy-below g c corner x t h =
    states_where-below (size g) (λ y. is_odd (length (filter
    (is_hexagon g c (crossing_row g c corner) (crossing_row_back g c corner) x y) (rectangles (size g))))) t h
