-- What `cert` answers to a document.
--     IsCertificateText g text    the text is that of a certificate of the grid g which passes, and short enough to be
--                                 checked
--     IsCertified text answer     the text is a document, and the answer such a text for the grid in force after its
--                                 commands
--     IsTooLarge text answer      the text is a document of a grid that is too large, and the answer states the line at
--                                 which its head begins
use Rattle.std.specs.Prelude.{◌≡◌, ℕ, ◌<◌, ◌≤◌, List, length, codes}
use Rattle.torus_geom.specs.Marks.{Marks, size}
use Rattle.grid_text.specs.Document.{IsDocument, IsHeadLine}
use Rattle.grid_text.specs.Limits.{max_text}
use Rattle.grid_text.specs.Script.{GridScript, grid_in_force}
use Rattle.grid_text.specs.Words.{words_of_lines}
use Rattle.homology_cert.specs.CertificateLimits.{max_certified_size, max_certificate}
use Rattle.homology_cert.specs.Certificates.{Certificate, IsCertificate}
use Rattle.homology_cert.specs.CertificateTests.{verdict_of}
use Rattle.homology_cert.specs.CertificateText.{certificate_text}
use Rattle.homology_cert.specs.declared.verdicts.CertVerdict.TheVariants.{Yes}
use Rattle.report_text.specs.Lines.{refused_line}

pub record IsCertificateText (g : Marks) (text : List ℕ) : Type 0 where
  pub certificate : Certificate
  pub is_certificate : IsCertificate certificate
  pub same_grid : certificate.grid ≡ g
  pub passes : verdict_of certificate ≡ Yes
  pub lines : text ≡ certificate_text certificate
  pub short : length text < max_certificate

pub record IsCertified (text answer : List ℕ) : Type 0 where
  pub within : length text ≤ max_text
  pub script : GridScript
  pub document : IsDocument text script
  pub small : size (grid_in_force script) ≤ max_certified_size
  pub certified : IsCertificateText (grid_in_force script) answer

pub record IsTooLarge (text answer : List ℕ) : Type 0 where
  pub within : length text ≤ max_text
  pub script : GridScript
  pub document : IsDocument text script
  pub large : max_certified_size < size (grid_in_force script)
  pub number : ℕ
  pub head : IsHeadLine (words_of_lines text) number
  pub told : answer ≡ refused_line (codes "TooLarge") number
