-- The certificate over codes is one over states, and each of those is one of codes.
use Rattle.std.proofs.Common.{ap, sym, ◌∙◌}
use Rattle.std.proofs.lemmas.Result.{IfOk-weaker}
use Rattle.homology_cert.specs.CertificateCodes.{certificate_of}
use Rattle.homology_cert.proofs.Texts.ReadLemmas.{read_back}
use Rattle.homology_cert.proofs.States.StateTexts.{certificate_back, certificate_codes, IsCertificate-codes, IsFirstBadLine-states, one_bad_line, one_certificate, some_answer, text_as_states, text_codes}
use Rattle.homology_cert.proofs.reading.read_cert.Goals as goal

pub returns-clause-read : goal.returns-clause-read
returns-clause-read c =
    text_as_states c.cert_of.result c.cert_of.ensures.certificate c.args.text.now c.cert_of.ensures.read

pub returns-clause-refused : goal.returns-clause-refused
returns-clause-refused c line is =
    (IsFirstBadLine-states c.args.text.now line).0 (c.cert_of.ensures.refused line is)

pub returns-clause-read_back : goal.returns-clause-read_back
returns-clause-read_back c d is e =
    IfOk-weaker c.cert_of.result _ _ (λ kept same. ap certificate_of same ∙ certificate_back d is)
    (read_back c.args.text.now c.cert_of.result (certificate_codes d) (IsCertificate-codes d is)
    (e ∙ sym (text_codes d is)) c.cert_of.ensures.certificate c.cert_of.ensures.read)

pub returns-clause-one_certificate : goal.returns-clause-one_certificate
returns-clause-one_certificate c = one_certificate

pub returns-clause-some_answer : goal.returns-clause-some_answer
returns-clause-some_answer c = some_answer

pub returns-clause-one_line : goal.returns-clause-one_line
returns-clause-one_line c = one_bad_line
