-- The Alexander degrees of the states that were visited.
use Rattle.std.proofs.Common.{◌≡◌, ℕ, ◌<◌, ℤ, true, refl, arith}
use Rattle.std.specs.Ordering.{int_cmp}
use Rattle.std.specs.BTreeSet as sorted
use Rattle.std.specs.BTreeSet.{BTreeSet}
use Rattle.state_rank.specs.States.{factorial, unrank}
use Rattle.torus_geom.specs.Marks.{Marks, size, IsGrid}
use Rattle.torus_geom.specs.Degrees.{alexander}
use Rattle.gradings.specs.Sums.{sum_before}
use Rattle.gradings.proofs.TableLemmas.{maslov_small, alexander_small}
use Rattle.gradings.proofs.WeightLemmas.{rest_up_to}
use Rattle.state_rank.specs.Bijection.{IsBijection}
use Rattle.state_rank.proofs.RankLemmas.{IsBijection-unrank}
use Rattle.std.proofs.Math.IntN.{pos, negsuc}
use Rattle.std.proofs.Common.{◌≤ℤ◌, List}
use Rattle.std.proofs.lemmas.Int.{ints}
use Rattle.homology_cert.specs.Inner.Ranks.{AreSmall, HasDegrees}

-- a set with the degree of each sum has those of all states
pub HasDegrees-from_sums : (g : Marks) → IsGrid g → (degrees : BTreeSet ℤ)
    → ((z : List ℕ) (k : ℕ) → IsBijection (size g) z → sum_before g (size g) z ≡ pos k → k < 128
    → sorted.contains int_cmp degrees (alexander g z) ≡ true)
    → HasDegrees g (factorial (size g)) degrees
HasDegrees-from_sums g grid degrees found =
    record {
      small_maslov = λ s l. maslov_small g grid (unrank (size g) s) (IsBijection-unrank (size g) s l);
      small_alexander = λ s l. alexander_small g grid (unrank (size g) s) (IsBijection-unrank (size g) s l);
      found = λ s l.
          let z = unrank (size g) s in
          let state = IsBijection-unrank (size g) s l in
          let few = rest_up_to g z 0 (sum_before g (size g) z) grid.is_size.greatest (omega arith)
          (omega (arith, ints)) in
          let (k, is, below) = natural (sum_before g (size g) z) few.0 few.1 in
          found z k state is below;
    }
  where
    natural : (z : ℤ) → pos 0 ≤ℤ z → z ≤ℤ pos 100 → (k : ℕ) × (z ≡ pos k) × (k < 128)
    natural (pos k) low high = (k, refl, omega (arith, ints))
    natural (negsuc k) low high = absurd (omega (arith, ints))

-- when all states were visited, their degrees are small
pub small-degrees : (g : Marks) (degrees : BTreeSet ℤ) → HasDegrees g (factorial (size g)) degrees → AreSmall g
small-degrees g degrees all = record { maslov = all.small_maslov; alexander = all.small_alexander }
