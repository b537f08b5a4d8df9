-- Out of memory before anything was written.
use Rattle.homology_cert.specs.CertificateCodes.{certificate_of}
use Rattle.homology_cert.specs.CertificateTests.{verdict_of}
use Rattle.grid_job.proofs.Certified.CheckLemmas.{HasWritten-no_verdict}
use Rattle.grid_job.proofs.checks.tell_verdict.Goals as goal

pub returns-in-Err-clause-written : goal.returns-in-Err-clause-written
returns-in-Err-clause-written g c = HasWritten-no_verdict (verdict_of (certificate_of c.args.certificate.now)) _ _
