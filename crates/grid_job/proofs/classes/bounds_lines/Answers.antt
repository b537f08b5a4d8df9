-- The least state of a border is a state.
use Rattle.text_lines.specs.Lines.{chain_line, line}
use Rattle.legendrian_class.specs.declared.verdicts.ClassVerdict.TheVariants.{NotCycle}
use Rattle.legendrian_class.specs.Verdicts.{IsVerdict}
use Rattle.std.proofs.lemmas.Result.{IfOk-weaker}
use Rattle.std.proofs.Common.{sym, subst, ap, codes, ◌∙◌}
use Rattle.torus_geom.specs.Codes.{HasIndices, states_of}
use Rattle.torus_geom.specs.Marks.{size}
use Rattle.legendrian_class.specs.VerdictCodes.{HasVerdictIndices, verdict_of}
use Rattle.grid_job.proofs.Reported.ClassLemmas.{HasIndices-single, states_of-code}
use Rattle.grid_job.proofs.classes.bounds_lines.Goals as goal

pub set_line-requires-clause-indices : goal.set_line-requires-clause-indices
set_line-requires-clause-indices c =
    let n = size c.args.g.now in
    let below = subst (HasVerdictIndices n) c.in-NotCycle.is c.in_ok-state.ensures.evidence in
    subst (λ m. HasIndices m c.in_ok-least-in-NotCycle.least) (sym c.size-n.ensures.size)
    (subst (HasIndices n) (sym c.in_ok-least-in-NotCycle.ensures) (HasIndices-single n c.in-NotCycle.state below))

pub returns-in_ok-least-in-NotCycle : goal.returns-in_ok-least-in-NotCycle
returns-in_ok-least-in-NotCycle c =
    let g = c.args.g.now in
    let n = size g in
    let n_is = c.size-n.ensures.size in
    let least_is = c.in_ok-least-in-NotCycle.ensures in
    let below = subst (HasVerdictIndices n) c.in-NotCycle.is c.in_ok-state.ensures.evidence in
    let word = codes "bounds notcycle" in
    IfOk-weaker c.set_line.result _ _ (λ text told. record {
      verdict = verdict_of n (NotCycle c.in-NotCycle.state);
      is_verdict =
          subst (λ v. IsVerdict g (states_of n c.args.z.now) (verdict_of n v)) c.in-NotCycle.is
          c.in_ok-state.ensures.verdict;
      told = told ∙ (λ i. line (chain_line word (n_is i) (states_of (n_is i) (least_is i))))
          ∙ ap (λ z. line (chain_line word n z)) (states_of-code n c.in-NotCycle.state below);
    }) c.set_line.ensures
