use Rattle.grid_text.proofs.Paths.JudgementLemmas.{one_script, no_document}
use Rattle.grid_text.proofs.Paths.OutcomeLemmas.{one_fault}
use Rattle.grid_job.proofs.Certified.CertificateLemmas.{certificates_pass}
use Rattle.grid_job.proofs.Certified.CheckLemmas.{yes_tells_the_table}
use Rattle.grid_job.proofs.Outcomes.OutcomeLemmas.{some_outcome, one_status}
use Rattle.grid_job.proofs.jobs.gridhom.Goals as goal

pub returns-clause-some_outcome : goal.returns-clause-some_outcome
returns-clause-some_outcome g c = some_outcome

pub returns-clause-one_status : goal.returns-clause-one_status
returns-clause-one_status g c = one_status

pub returns-clause-one_script : goal.returns-clause-one_script
returns-clause-one_script g c = one_script

pub returns-clause-no_document : goal.returns-clause-no_document
returns-clause-no_document g c = no_document

pub returns-clause-one_fault : goal.returns-clause-one_fault
returns-clause-one_fault g c = one_fault

pub returns-clause-certificates_pass : goal.returns-clause-certificates_pass
returns-clause-certificates_pass g c = certificates_pass

pub returns-clause-yes_tells_the_table : goal.returns-clause-yes_tells_the_table
returns-clause-yes_tells_the_table g c = yes_tells_the_table
