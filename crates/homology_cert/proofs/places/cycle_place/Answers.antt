use Rattle.std.proofs.Common.{◌≡◌, ap, codes}
use Rattle.torus_geom.specs.Marks.{size}
use Rattle.homology_cert.specs.Inner.CodeCertificates.{AreStates}
use Rattle.text_lines.specs.Inner.CodeLines.{set_line}
use Rattle.homology_cert.specs.declared.places.Place.TheVariants.{InCell}
use Rattle.hat_division.proofs.WordLemmas.{IfSome-value}
use Rattle.homology_cert.proofs.places.cycle_place.Goals as goal

pub returns-in_ok-with_cycle-in-Some : goal.returns-in_ok-with_cycle-in-Some
returns-in_ok-with_cycle-in-Some c =
    let is = IfSome-value (λ z. AreStates c.args.g z × (c.args.line.now ≡ set_line (codes "cocycle") (size c.args.g) z))
    c.in_ok-cocycle.field-0 c.in-Some.cocycle c.in-Some.is c.in_ok-cocycle.ensures.some in
    (c.in-Some.cocycle, is.0, is.1, ap (InCell c.args.g) c.in_ok-with_cycle-in-Some.ensures)
