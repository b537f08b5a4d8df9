use Rattle.std.proofs.Common.{ℕ, Some, sym, ap, ◌∙◌}
use Rattle.f2_algebra.specs.Certificate.{StepPair}
use Rattle.torus_geom.specs.Inner.CodeBorder.{border}
use Rattle.homology_cert.specs.declared.verdicts.CertTest.{CertTest}
use Rattle.homology_cert.specs.declared.verdicts.CertTest.TheVariants.{Degree, Probe}
use Rattle.homology_cert.proofs.Certified.CheckLemmas.{is_probe-steps, second_fails, both_pass}
use Rattle.homology_cert.proofs.checks.step_pair_failure.Goals as goal

pub returns-then-not-is_probe : goal.returns-then-not-is_probe
returns-then-not-is_probe c entry pairs told =
    let g = c.args.g.now in
    let p = c.args.pair.now in
    let probe_is = ap (λ (q : StepPair). q.probe) c.pair.view_is in
    let f : ℕ × CertTest = (entry, Probe) in
    let d : ℕ × CertTest = (entry, Degree) in
    let test =
    is_probe-steps g c.pair.inside.probe p.probe c.args.own.now
    (border g p.step) c.args.later.now pairs probe_is c.requires.own told in
    second_fails _ _ (Some f) (Some d) (sym c.has_step_degrees.ensures ∙ c.if-not-has_step_degrees.false)
    (sym test ∙ sym c.is_probe.ensures ∙ c.if-not-is_probe.true)

pub returns : goal.returns
returns c entry pairs told =
    let g = c.args.g.now in
    let p = c.args.pair.now in
    let probe_is = ap (λ (q : StepPair). q.probe) c.pair.view_is in
    let f : ℕ × CertTest = (entry, Probe) in
    let d : ℕ × CertTest = (entry, Degree) in
    let test =
    is_probe-steps g c.pair.inside.probe p.probe c.args.own.now
    (border g p.step) c.args.later.now pairs probe_is c.requires.own told in
    both_pass _ _ (Some f) (Some d) (sym c.has_step_degrees.ensures ∙ c.if-not-has_step_degrees.false)
    (sym test ∙ sym c.is_probe.ensures ∙ c.if-not-is_probe.false)
