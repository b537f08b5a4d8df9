-- The verdict of the indices is one of the states, with its evidence in states; each chain of states has a verdict, and
-- no two.
use Rattle.std.proofs.lemmas.Result.{IfOk-weaker}
use Rattle.torus_geom.specs.Marks.{size}
use Rattle.torus_geom.proofs.Chains.CodesLemmas.{indices_from_All}
use Rattle.legendrian_class.proofs.StateVerdicts.{HasOneVerdict-states, HasVerdict-states, HasVerdictIndices-verdict, IsVerdict-states}
use Rattle.legendrian_class.proofs.verdicts.verdict.Goals as goal

pub returns-clause-verdict : goal.returns-clause-verdict
returns-clause-verdict c =
    let g = c.args.g.now in
    let z = c.args.z.now in
    IfOk-weaker c.verdict_of.result _ _ (IsVerdict-states g z (indices_from_All (size g) z c.requires.indices))
    c.verdict_of.ensures

pub returns-clause-evidence : goal.returns-clause-evidence
returns-clause-evidence c =
    let g = c.args.g.now in
    let z = c.args.z.now in
    IfOk-weaker c.verdict_of.result _ _ (HasVerdictIndices-verdict g z (indices_from_All (size g) z c.requires.indices))
    c.verdict_of.ensures

pub returns-clause-some_verdict : goal.returns-clause-some_verdict
returns-clause-some_verdict c = HasVerdict-states c.args.g.now c.size-size.ensures.grid

pub returns-clause-one_verdict : goal.returns-clause-one_verdict
returns-clause-one_verdict c = HasOneVerdict-states c.args.g.now c.size-size.ensures.grid
