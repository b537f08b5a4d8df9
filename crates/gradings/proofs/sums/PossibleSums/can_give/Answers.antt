-- No sum is below 0, or above 127.
use Rattle.std.proofs.Common.{◌≤◌, subst, arith}
use Rattle.torus_geom.specs.Marks.{Marks, size}
use Rattle.std.proofs.lemmas.Int.{ints}
use Rattle.gradings.proofs.WeightLemmas.{rest_up_to}
use Rattle.gradings.proofs.sums.PossibleSums.can_give.Goals as goal
use Rattle.gradings.proofs.sums.PossibleSums.can_give.Goals.{then-sum-lt0-via-then-sum-lt0, then-sum-lt0-via-else-sum-lt0+then-sum-ge-SUMS}

pub returns-then-sum-lt0-clause-complete : goal.returns-then-sum-lt0-clause-complete
returns-then-sum-lt0-clause-complete c = λ z d s low is sum.
    let size_fits = subst (λ (g : Marks). size g ≤ 10) c.self.view_is c.self.invariant.0.is_size.greatest in
    let few = rest_up_to c.args.self.now z d c.args.sum size_fits low sum in
    let least = few.0 in
    let most = few.1 in
    elim c.then-sum-lt0.branch [
      | then-sum-lt0-via-then-sum-lt0 w ↦ let h = w.if-sum-lt0.true in absurd (omega (arith, ints))
      | then-sum-lt0-via-else-sum-lt0+then-sum-ge-SUMS w ↦
          let h = w.if-sum-ge-SUMS.true in absurd (omega (arith, ints))
    ]
