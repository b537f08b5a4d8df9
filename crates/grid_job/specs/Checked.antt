-- What `check` answers to a text.
--     test_word test          the word of a test
--     yes_line                the line of a certificate that passes
--     no_line entry test      the line of one that fails: the number of its first entry that does not pass, and the
--                             test
--     IsPassed text answer    the text is that of a certificate that passes, and the answer says so
--     IsFailed text answer    the text is that of a certificate that fails, and the answer states the first test that
--                             it fails
--     IsNoCertificate text answer
--                             the text is that of no certificate, and the answer states its first bad line
use Rattle.std.specs.Prelude.{◌≡◌, ℕ, ◌≤◌, List, ◌∷◌, ◌++◌, length, codes}
use Rattle.std.specs.Fmt.{decimal}
use Rattle.homology_cert.specs.CertificateLimits.{max_certificate}
use Rattle.homology_cert.specs.Certificates.{Certificate, IsCertificate}
use Rattle.homology_cert.specs.CertificateTests.{verdict_of}
use Rattle.homology_cert.specs.CertificateText.{certificate_text, IsFirstBadLine}
use Rattle.homology_cert.specs.declared.verdicts.CertTest.{CertTest}
use Rattle.homology_cert.specs.declared.verdicts.CertTest.TheVariants.{Count, Degree, Cycle, Cocycle, Pairing, Probe, Missing}
use Rattle.homology_cert.specs.declared.verdicts.CertVerdict.TheVariants.{Yes, No}
use Rattle.report_text.specs.Lines.{refused_line}
use Rattle.text_lines.specs.Lines.{line}

abbrev pub test_word : CertTest → List ℕ
test_word Count = codes "count"
test_word Degree = codes "degree"
test_word Cycle = codes "cycle"
test_word Cocycle = codes "cocycle"
test_word Pairing = codes "pairing"
test_word Probe = codes "probe"
test_word Missing = codes "missing"

abbrev pub yes_line : List ℕ
yes_line = line (codes "yes")

abbrev pub no_line : ℕ → CertTest → List ℕ
no_line entry test = line (codes "no " ++ decimal entry ++ 32 ∷ test_word test)

pub record IsPassed (text answer : List ℕ) : Type 0 where
  pub within : length text ≤ max_certificate
  pub certificate : Certificate
  pub is_certificate : IsCertificate certificate
  pub lines : text ≡ certificate_text certificate
  pub passes : verdict_of certificate ≡ Yes
  pub told : answer ≡ yes_line

pub record IsFailed (text answer : List ℕ) : Type 0 where
  pub within : length text ≤ max_certificate
  pub certificate : Certificate
  pub is_certificate : IsCertificate certificate
  pub lines : text ≡ certificate_text certificate
  pub entry : ℕ
  pub test : CertTest
  pub fails : verdict_of certificate ≡ No entry test
  pub told : answer ≡ no_line entry test

pub record IsNoCertificate (text answer : List ℕ) : Type 0 where
  pub within : length text ≤ max_certificate
  pub number : ℕ
  pub first : IsFirstBadLine text number
  pub told : answer ≡ refused_line (codes "BadLine") number
