use Rattle.std.proofs.Common.{ℤ, sym, ap, subst, ◌∙◌, ◌+◌, drop, ◌≡◌, arith}
use Rattle.std.proofs.lemmas.List.{drop-map}
use Rattle.f2_algebra.specs.Certificate.{StepPair}
use Rattle.torus_geom.specs.Inner.CodeBorder.{border}
use Rattle.homology_cert.specs.Inner.CodeCertificates.{HasStepStates}
use Rattle.homology_cert.specs.Inner.Questions.{first_failing, step_pair_questions, step_questions}
use Rattle.homology_cert.proofs.Certified.CheckLemmas.{slice_from, step_questions-next, first_failing-here, first_failing-later}
use Rattle.homology_cert.proofs.checks.steps_failure.Goals as goal

pub step_pair_failure-requires-clause-states : goal.step_pair_failure-requires-clause-states
step_pair_failure-requires-clause-states c =
    subst (HasStepStates c.args.g.now) (sym c.index-pairs-k.is)
    (c.requires.states c.loop-k.k c.index-pairs-k.result c.loop-k-test.true)

pub returns-in-Some : goal.returns-in-Some
returns-in-Some c =
    let g = c.args.g.now in
    let d : ℤ × ℤ = (c.args.d.now.m, c.args.d.now.a) in
    let pairs = c.args.pairs.now in
    let k = c.loop-k.k in
    let n = c.args.entry + k in
    let p = c.index-pairs-k.result in
    let later = slice_from (k + 1) c.deref.result.now
    ∙ ap (drop (k + 1)) (c.deref.ensures.value ∙ c.in_ok-borders.ensures)
    ∙ drop-map (λ (q : StepPair). border g q.step) (k + 1) pairs in
    let told = c.step_pair_failure.ensures n (drop (k + 1) pairs) later
    ∙ ap (λ q. first_failing (step_pair_questions g d n q (drop (k + 1) pairs))) c.index-pairs-k.is in
    let next = step_questions-next g d n k pairs p c.loop-k-test.true in
    first_failing-here n c.step_pair_failure.result c.in-Some.test _ _ _ c.in-Some.is told (c.loop-k.invariant ∙ next)

pub loop-k-preserved : goal.loop-k-preserved
loop-k-preserved c =
    let g = c.args.g.now in
    let d : ℤ × ℤ = (c.args.d.now.m, c.args.d.now.a) in
    let pairs = c.args.pairs.now in
    let k = c.loop-k.k in
    let n = c.args.entry + k in
    let p = c.index-pairs-k.result in
    let later = slice_from (k + 1) c.deref.result.now
    ∙ ap (drop (k + 1)) (c.deref.ensures.value ∙ c.in_ok-borders.ensures)
    ∙ drop-map (λ (q : StepPair). border g q.step) (k + 1) pairs in
    let told = c.step_pair_failure.ensures n (drop (k + 1) pairs) later
    ∙ ap (λ q. first_failing (step_pair_questions g d n q (drop (k + 1) pairs))) c.index-pairs-k.is in
    let next = step_questions-next g d n k pairs p c.loop-k-test.true in
    let more : n + 1 ≡ c.args.entry + (k + 1) = omega arith in
    first_failing-later n c.step_pair_failure.result _ _ _ c.in_default.is told (c.loop-k.invariant ∙ next)
    ∙ ap (λ m. first_failing (step_questions g d m (drop (k + 1) pairs))) more
