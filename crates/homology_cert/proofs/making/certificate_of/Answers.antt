-- The cells are a certificate that passes.
use Rattle.homology_cert.specs.Inner.CodeCertificates.{IsCertificate}
use Rattle.std.proofs.Common.{◌<◌, length, sym, ap, subst, ◌∙◌}
use Rattle.homology_cert.specs.CertificateCodes.{Certificate}
use Rattle.homology_cert.specs.Inner.CodeTests.{verdict_of}
use Rattle.homology_cert.specs.Inner.CodeText.{certificate_text}
use Rattle.homology_cert.proofs.Made.MadeLemmas.{verdict_of-made}
use Rattle.homology_cert.proofs.Made.MakingLaws.{made_certificate, made_short}
use Rattle.homology_cert.proofs.making.certificate_of.Goals as goal

pub of-requires : goal.of-requires
of-requires c = made_certificate c.args.g.now c.size-size.ensures.grid c.requires c.in_ok-cells.cells.items
    c.in_ok-cells.ensures

pub returns-clause-passes : goal.returns-clause-passes
returns-clause-passes c = ap verdict_of c.of.ensures
    ∙ verdict_of-made c.args.g.now c.size-size.ensures.grid c.in_ok-cells.cells.items c.in_ok-cells.ensures

pub returns-clause-short : goal.returns-clause-short
returns-clause-short c =
    subst (λ (d : Certificate). length (certificate_text d) < 16777216) (sym c.of.ensures)
    (made_short c.args.g.now c.size-size.ensures.grid c.requires c.in_ok-cells.cells.items c.in_ok-cells.ensures)

pub returns-clause-certificate : goal.returns-clause-certificate
returns-clause-certificate c =
    subst IsCertificate (sym c.of.ensures)
    (made_certificate c.args.g.now c.size-size.ensures.grid c.requires c.in_ok-cells.cells.items c.in_ok-cells.ensures)
