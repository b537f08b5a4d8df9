use Rattle.std.proofs.Common.{ℤ, sym, ap, ap₂, subst, ◌∙◌, ◌+◌, take, drop, ◌≡◌, arith}
use Rattle.homology_cert.specs.Inner.CodeCertificates.{HasCycleStates}
use Rattle.homology_cert.specs.Inner.Questions.{first_failing, cycle_pair_questions, cycle_questions}
use Rattle.homology_cert.proofs.Certified.CheckLemmas.{slices_around, cycle_questions-next, first_failing-here, first_failing-later}
use Rattle.homology_cert.proofs.checks.cycles_failure.Goals as goal

pub cycle_pair_failure-requires-clause-states : goal.cycle_pair_failure-requires-clause-states
cycle_pair_failure-requires-clause-states c =
    subst (HasCycleStates c.args.g.now) (sym c.index-pairs-k.is)
    (c.requires.states c.loop-k.k c.index-pairs-k.result c.loop-k-test.true)

pub returns-in-Some : goal.returns-in-Some
returns-in-Some c =
    let g = c.args.g.now in
    let d : ℤ × ℤ = (c.args.d.now.m, c.args.d.now.a) in
    let pairs = c.args.pairs.now in
    let k = c.loop-k.k in
    let n = c.args.entry + k in
    let p = c.index-pairs-k.result in
    let told = c.in_ok-failure.ensures n
    ∙ ap₂ (λ q others. first_failing (cycle_pair_questions g d n q others)) c.index-pairs-k.is
    (slices_around k pairs) in
    let next = cycle_questions-next g d n k pairs p c.loop-k-test.true in
    first_failing-here n c.in_ok-failure.failure c.in-Some.test _ _ _ c.in-Some.is told (c.loop-k.invariant ∙ next)

pub loop-k-preserved : goal.loop-k-preserved
loop-k-preserved c =
    let g = c.args.g.now in
    let d : ℤ × ℤ = (c.args.d.now.m, c.args.d.now.a) in
    let pairs = c.args.pairs.now in
    let k = c.loop-k.k in
    let n = c.args.entry + k in
    let p = c.index-pairs-k.result in
    let told = c.in_ok-failure.ensures n
    ∙ ap₂ (λ q others. first_failing (cycle_pair_questions g d n q others)) c.index-pairs-k.is
    (slices_around k pairs) in
    let next = cycle_questions-next g d n k pairs p c.loop-k-test.true in
    let more : n + 1 ≡ c.args.entry + (k + 1) = omega arith in
    first_failing-later n c.in_ok-failure.failure _ _ _ c.in_default.is told (c.loop-k.invariant ∙ next)
    ∙ ap (λ m. first_failing (cycle_questions g d m (take (k + 1) pairs) (drop (k + 1) pairs))) more
