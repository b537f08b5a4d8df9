-- Out of memory before anything was written.
use Rattle.grid_job.proofs.Certified.CertificateLemmas.{HasWritten-no_certificate}
use Rattle.grid_job.proofs.certificates.write_certificate.Goals as goal

pub returns-in_default-clause-written : goal.returns-in_default-clause-written
returns-in_default-clause-written g c = HasWritten-no_certificate c.args.g.now _ _ c.size.ensures.grid c.requires
