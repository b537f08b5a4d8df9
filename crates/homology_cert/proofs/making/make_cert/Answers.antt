-- The certificate over codes is one over states; each grid has one.
use Rattle.homology_cert.proofs.States.StateTexts.{exists_certificate, passes_as_states, short_as_states}
use Rattle.homology_cert.proofs.making.make_cert.Goals as goal

pub returns-clause-passes : goal.returns-clause-passes
returns-clause-passes c =
    passes_as_states c.certificate_of.result c.certificate_of.ensures.certificate c.certificate_of.ensures.passes

pub returns-clause-short : goal.returns-clause-short
returns-clause-short c =
    short_as_states c.certificate_of.result c.certificate_of.ensures.certificate c.certificate_of.ensures.short

pub returns-clause-some_certificate : goal.returns-clause-some_certificate
returns-clause-some_certificate c = exists_certificate
