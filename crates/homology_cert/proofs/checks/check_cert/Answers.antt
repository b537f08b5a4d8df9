-- The verdict of the sets of indices is that of the states; one that passes implies the table.
use Rattle.std.proofs.Common.{◌∙◌}
use Rattle.std.proofs.lemmas.Result.{IfOk-weaker}
use Rattle.homology_cert.proofs.States.CertificateLemmas.{verdict_of-states}
use Rattle.homology_cert.proofs.States.StateTexts.{table_of_certificate}
use Rattle.homology_cert.proofs.checks.check_cert.Goals as goal

pub returns-clause-verdict : goal.returns-clause-verdict
returns-clause-verdict c =
    IfOk-weaker c.verdict_on.result _ _ (λ v e. e ∙ verdict_of-states c.args.c.now c.cells.ensures.certificate)
    c.verdict_on.ensures

pub returns-clause-table : goal.returns-clause-table
returns-clause-table c = table_of_certificate
