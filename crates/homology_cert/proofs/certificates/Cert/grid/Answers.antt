-- A certificate over codes is one over states.
use Rattle.std.proofs.Common.{subst}
use Rattle.homology_cert.specs.CertificateCodes.{certificate_of}
use Rattle.homology_cert.specs.Certificates.{IsCertificate}
use Rattle.homology_cert.proofs.States.StateTexts.{IsCertificate-states}
use Rattle.homology_cert.proofs.certificates.Cert.grid.Goals as goal

pub returns-clause-certificate : goal.returns-clause-certificate
returns-clause-certificate c =
    subst (λ d. IsCertificate (certificate_of d)) c.self.view_is (IsCertificate-states _ c.self.invariant)
