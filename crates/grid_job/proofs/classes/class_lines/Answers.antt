-- A class is a chain of one state, and a cycle.
use Rattle.std.proofs.Common.{ap, codes, ◌++◌, ◌∙◌}
use Rattle.std.proofs.lemmas.Result.{IfOk-weaker}
use Rattle.f2_algebra.specs.Chain.{single as one_code}
use Rattle.state_rank.specs.States.{rank, unrank}
use Rattle.torus_geom.specs.Codes.{states_of}
use Rattle.torus_geom.specs.Marks.{size}
use Rattle.legendrian_class.specs.VerdictCodes.{verdict_of}
use Rattle.legendrian_class.specs.declared.verdicts.ClassVerdict.TheVariants.{NotCycle, Null, Alive}
use Rattle.text_lines.specs.Lines.{chain_line, line}
use Rattle.grid_job.proofs.Reported.ClassLemmas.{class_is_cycle, class_verdict, HasIndices-class}
use Rattle.grid_job.proofs.classes.class_lines.Goals as goal

pub verdict-requires : goal.verdict-requires
verdict-requires c =
    let is_class = c.in_ok-z.ensures ∙ ap one_code (c.rank.ensures.rank ∙ ap rank c.class_state-x.ensures) in
    record { indices = HasIndices-class c.args.g.now c.size-n.ensures.grid c.args.sign c.in_ok-z.z is_class }

pub unreachable-requires : goal.unreachable-requires
unreachable-requires c =
    let g = c.args.g.now in
    let is_class = c.in_ok-z.ensures ∙ ap one_code (c.rank.ensures.rank ∙ ap rank c.class_state-x.ensures) in
    class_is_cycle g c.size-n.ensures.grid c.args.sign (unrank (size g) c.in-NotCycle.state)
    (class_verdict g c.size-n.ensures.grid c.args.sign c.in_ok-z.z is_class c.in_ok-verdict.field-0
    (NotCycle c.in-NotCycle.state) c.in-NotCycle.is c.in_ok-verdict.ensures.verdict)

pub returns-in-Null : goal.returns-in-Null
returns-in-Null c =
    let g = c.args.g.now in
    let n_is = c.size-n.ensures.size in
    let is_class = c.in_ok-z.ensures ∙ ap one_code (c.rank.ensures.rank ∙ ap rank c.class_state-x.ensures) in
    IfOk-weaker c.with_set.result _ _ (λ text told. record {
      verdict = verdict_of (size g) (Null c.in-Null.bound);
      is_verdict = class_verdict g c.size-n.ensures.grid c.args.sign c.in_ok-z.z is_class c.in_ok-verdict.field-0
          (Null c.in-Null.bound) c.in-Null.is c.in_ok-verdict.ensures.verdict;
      told = told ∙ λ i. c.in_ok-text-in-Null.ensures i
          ++ line (chain_line (codes "bound") (n_is i) (states_of (n_is i) c.in-Null.bound));
    }) c.with_set.ensures

pub returns : goal.returns
returns c =
    let g = c.args.g.now in
    let n_is = c.size-n.ensures.size in
    let is_class = c.in_ok-z.ensures ∙ ap one_code (c.rank.ensures.rank ∙ ap rank c.class_state-x.ensures) in
    IfOk-weaker c.with_set-in-Alive.result _ _ (λ text told. record {
      verdict = verdict_of (size g) (Alive c.in-Alive.cocycle);
      is_verdict = class_verdict g c.size-n.ensures.grid c.args.sign c.in_ok-z.z is_class c.in_ok-verdict.field-0
          (Alive c.in-Alive.cocycle) c.in-Alive.is c.in_ok-verdict.ensures.verdict;
      told = told ∙ λ i. c.in_ok-text-in-Alive.ensures i
          ++ line (chain_line (codes "cocycle") (n_is i) (states_of (n_is i) c.in-Alive.cocycle));
    }) c.with_set-in-Alive.ensures
