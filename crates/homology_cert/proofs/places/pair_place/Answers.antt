use Rattle.std.proofs.Common.{◌≡◌, codes, inl, inr, refl, sym, ◌∙◌, [], arith}
use Rattle.std.proofs.lemmas.Bool.Decides.{nat_tests}
use Rattle.torus_geom.specs.Marks.{size}
use Rattle.homology_cert.specs.Inner.CodeCertificates.{AreStates}
use Rattle.text_lines.specs.Inner.CodeLines.{set_line}
use Rattle.hat_division.proofs.WordLemmas.{IfSome-value}
use Rattle.homology_cert.proofs.Texts.ByteLemmas.{empty_list}
use Rattle.homology_cert.proofs.places.pair_place.Goals as goal

pub returns-in-Some : goal.returns-in-Some
returns-in-Some c =
    let is = IfSome-value (λ z. AreStates c.args.g z × (c.args.line.now ≡ set_line (codes "step") (size c.args.g) z))
    c.in_ok-step.step c.in-Some.step c.in-Some.is c.in_ok-step.ensures.some in
    inr (c.in-Some.step, is.0, is.1, refl)

pub returns-in-Some-cycle : goal.returns-in-Some-cycle
returns-in-Some-cycle c =
    let is = IfSome-value (λ z. AreStates c.args.g z × (c.args.line.now ≡ set_line (codes "cycle") (size c.args.g) z))
    c.in_ok-cycle.cycle c.in-Some-cycle.cycle c.in-Some-cycle.is c.in_ok-cycle.ensures.some in
    let no_steps : c.args.cell.steps ≡ [] = sym c.steps.ensures ∙ empty_list c.steps.result.now
    (grind (arith, nat_tests)) in
    inl (c.in-Some-cycle.cycle, is.0, no_steps, is.1, refl)
