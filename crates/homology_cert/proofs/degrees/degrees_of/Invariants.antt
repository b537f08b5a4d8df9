-- The degrees of the states with lower sums are in the set.
use Rattle.std.proofs.Common.{◌≡◌, ◌<◌, ℕ, List, true, pos}
use Rattle.std.specs.Ordering.{int_cmp}
use Rattle.std.specs.BTreeSet as sorted
use Rattle.state_rank.specs.Bijection.{IsBijection}
use Rattle.torus_geom.specs.Degrees.{alexander}
use Rattle.torus_geom.specs.Marks.{size}
use Rattle.gradings.specs.Sums.{sum_before}
use Rattle.homology_cert.proofs.degrees.degrees_of.Given as goal

abbrev pub invariant-loop-sum : goal.invariant-loop-sum
invariant-loop-sum l =
    (z : List ℕ) (k : ℕ) → IsBijection (size l.sums) z → sum_before l.sums (size l.sums) z ≡ pos k → k < l.sum
    → sorted.contains int_cmp l.degrees (alexander l.sums z) ≡ true
