use Rattle.std.proofs.Common.{ℕ, ◌+◌, List, [], length, Some, sym, ap, subst, ◌∙◌, ◌≡◌, All, IfOk}
use Rattle.std.specs.declared.option.Option.{Option}
use Rattle.homology_cert.specs.declared.verdicts.CertTest.{CertTest}
use Rattle.homology_cert.specs.declared.verdicts.CertTest.TheVariants.{Count}
use Rattle.f2_algebra.specs.Certificate.{CyclePair}
use Rattle.homology_cert.specs.Inner.CodeCertificates.{HasCycleStates, HasStepStates}
use Rattle.homology_cert.specs.Inner.CodeTests.{count_passes}
use Rattle.homology_cert.specs.Inner.Questions.{cycle_questions, step_questions}
use Rattle.homology_cert.proofs.Certified.CheckLemmas.{first_failing-cycles, first_failing-steps, cell_fails, cell_goes_on}
use Rattle.homology_cert.proofs.checks.cell_failure.Goals as goal

pub cycles_failure-requires-clause-states : goal.cycles_failure-requires-clause-states
cycles_failure-requires-clause-states c =
    subst (λ g. All (HasCycleStates g) c.cycles-2.result.now) (sym c.grid.ensures.grid)
    (subst (All (HasCycleStates c.args.c.now.grid)) (sym c.cycles-2.ensures) c.requires.states.cycles)

pub steps_failure-requires-clause-states : goal.steps_failure-requires-clause-states
steps_failure-requires-clause-states c =
    subst (λ g. All (HasStepStates g) c.steps.result.now) (sym c.grid-in-None.ensures.grid)
    (subst (All (HasStepStates c.args.c.now.grid)) (sym c.steps.ensures) c.requires.states.steps)

pub returns-in-Some : goal.returns-in-Some
returns-in-Some c =
    let k = c.args.c.now in
    let cell = c.args.cell.now in
    let n = c.args.entry in
    let count : ℕ × CertTest = (n, Count) in
    let same =
    first_failing-cycles _ k.grid _ cell.at (n + 1) _ cell.cycles c.grid.ensures.grid c.degree.ensures
    c.cycles-2.ensures in
    let told = sym c.in-Some.is ∙ c.in_ok-failure.ensures ∙ same in
    cell_fails (Some count) (count_passes k cell) c.in-Some.failure
    (cycle_questions k.grid cell.at (n + 1) [] cell.cycles)
    (step_questions k.grid cell.at (n + 1 + length cell.cycles) cell.steps)
    (sym c.count_passes.ensures ∙ c.if-not-count_passes.false) told

pub returns-in-None : goal.returns-in-None
returns-in-None c =
    let k = c.args.c.now in
    let cell = c.args.cell.now in
    let n = c.args.entry in
    let count : ℕ × CertTest = (n, Count) in
    let cycles =
    first_failing-cycles _ k.grid _ cell.at (n + 1) _ cell.cycles c.grid.ensures.grid c.degree.ensures
    c.cycles-2.ensures in
    let steps =
    first_failing-steps _ k.grid _ cell.at _
    (n + 1 + length cell.cycles) _ cell.steps c.grid-in-None.ensures.grid c.degree-in-None.ensures
    (ap (λ (ps : List CyclePair). n + 1 + length ps) c.cycles.ensures) c.steps.ensures in
    let passed = sym c.in-None.is ∙ c.in_ok-failure.ensures ∙ cycles in
    let same = cell_goes_on (Some count) (count_passes k cell) _ (cycle_questions k.grid cell.at (n + 1) [] cell.cycles)
    (step_questions k.grid cell.at (n + 1 + length cell.cycles) cell.steps)
    (sym c.count_passes.ensures ∙ c.if-not-count_passes.false) passed steps in
    subst (λ (f : Option (ℕ × CertTest)). IfOk c.steps_failure.result (λ g. g ≡ f)) same c.steps_failure.ensures
