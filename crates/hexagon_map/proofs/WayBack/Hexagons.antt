-- The rectangles of functions on the way back: pentagons of the exchanged grid, hexagons, and the two steps that lead
-- back to the first grid.
use Rattle.std.proofs.Common.{ℕ, Bool, ◌&&◌, ◌||◌, eqb}
use Rattle.f2_algebra.proofs.Chains.Tables.{◌⊻◌}
use Rattle.rectangles.proofs.Square.TwoSteps.{differ}
use Rattle.rectangles.proofs.Square.CyclicOrder.{between}
use Rattle.rectangles.proofs.Square.Exchanges.{with_exchanged}
use Rattle.rectangles.proofs.Square.EmptyRectangles.{is_clear_of, free}
use Rattle.pentagon_map.proofs.ChainMap.RowArcs.{above_of}
use Rattle.rectangles.proofs.Square.OpenRectangles.{is_open, marks}
use Rattle.hexagon_map.proofs.WayBack.RowFacts.{hex_rows}
use Rattle.pentagon_map.proofs.ChainMap.PentagonTests.{is_open_pentagon, lacks, two}

module _ (n r s w v : ℕ) (O X : ℕ → ℕ) where
  -- what is asked beside emptiness of a pentagon of the exchanged grid, and of a hexagon
  abbrev pub back : ℕ → ℕ → ℕ → ℕ → Bool
  back a b j k =
      (eqb a s || eqb b s) && (between j k v
      && (free n (two r s) (between a b) (marks O X (between j k))
      && (lacks O X r (between j v) && lacks O X s (above_of v k))))

  abbrev pub open_back : (ℕ → ℕ) → ℕ → ℕ → Bool
  open_back f a b = differ a b && (is_clear_of n f a b (f a) (f b) && back a b (f a) (f b))

  abbrev pub hexa : ℕ → ℕ → ℕ → ℕ → Bool
  hexa a b j k = hex_rows w v (eqb b s) (eqb a s) j k && free n (two r s) (between a b) (marks O X (between j k))

  abbrev pub open_hexa : (ℕ → ℕ) → ℕ → ℕ → Bool
  open_hexa f a b = differ a b && (is_clear_of n f a b (f a) (f b) && hexa a b (f a) (f b))

  -- a pentagon there and one back, or a corner set and a hexagon in either order, from f to a state that T passes
  abbrev pub return_steps : (ℕ → ℕ) → ((ℕ → ℕ) → Bool) → ℕ → ℕ → ℕ → ℕ → Bool
  return_steps f T a b c d =
      (is_open_pentagon n r s w O X f a b
      && (open_back (with_exchanged f a b) c d && T (with_exchanged (with_exchanged f a b) c d)))
      ⊻ ((is_open n O X f a b && (open_hexa (with_exchanged f a b) c d
      && T (with_exchanged (with_exchanged f a b) c d)))
      ⊻ (open_hexa f a b && (is_open n O X (with_exchanged f a b) c d
      && T (with_exchanged (with_exchanged f a b) c d))))
