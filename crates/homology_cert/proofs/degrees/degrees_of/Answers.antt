-- Each sum adds the degree of its states, and no state has another sum.
use Rattle.std.proofs.Common.{pos, ap, ◌∙◌, arith, inl, inr}
use Rattle.std.proofs.lemmas.Bool.{cases_eq}
use Rattle.homology_cert.proofs.Homology.DegreeLemmas.{HasDegrees-from_sums}
use Rattle.homology_cert.proofs.degrees.degrees_of.Goals as goal

pub loop-sum-preserved : goal.loop-sum-preserved
loop-sum-preserved c = λ z k s is below. elim (cases_eq k c.loop-sum.sum) [
  | inl e ↦ c.in_ok-add_degree.ensures.found z s (is ∙ ap pos e)
  | inr p ↦ c.in_ok-add_degree.ensures.kept _ (c.loop-sum.invariant z k s is (omega arith))
]

pub returns : goal.returns
returns c =
    HasDegrees-from_sums c.args.sums.now c.requires c.loop-sum.degrees
    (λ z k s is below. c.loop-sum.invariant z k s is (omega arith))
