-- The certificate of the grid of a document, and the outcomes of `cert`.
use Rattle.std.proofs.Common.{◌≡◌, ℕ, ◌<◌, ◌≤◌, List, length, Option, refl, sym, ap, subst, inl, inr, arith}
use Rattle.torus_geom.specs.Marks.{Marks, size, IsGrid}
use Rattle.grid_text.specs.Document.{IsDocument, IsHeadLine}
use Rattle.grid_text.specs.Limits.{max_text}
use Rattle.grid_text.specs.Script.{GridScript}
use Rattle.grid_text.specs.Words.{words_of_lines}
use Rattle.homology_cert.specs.Certificates.{Certificate, IsCertificate}
use Rattle.homology_cert.specs.CertificateTests.{verdict_of}
use Rattle.homology_cert.specs.CertificateText.{certificate_text}
use Rattle.homology_cert.specs.declared.verdicts.CertVerdict.TheVariants.{Yes}
use Rattle.grid_job.specs.Certified.{IsCertificateText}
use Rattle.homology_cert.specs.CertificateLimits.{max_certificate}
use Rattle.grid_job.specs.Checked.{yes_line}
use Rattle.grid_job.specs.Outcome.{IsOutcome}
use Rattle.grid_job.specs.Inner.Written.{HasWritten, IsAnswerOfGrid}
use Rattle.grid_job.specs.declared.modes.Mode.TheVariants.{Cert, Check}
use Rattle.grid_job.specs.declared.statuses.Status.{Status}
use Rattle.grid_job.specs.declared.statuses.Status.TheVariants.{Done, NoMemory}
use Rattle.homology_cert.proofs.States.StateTexts.{exists_certificate}
use Rattle.grid_job.proofs.Outcomes.WrittenLemmas.{HasWritten-weaker, HasWritten-nothing}

-- the text of a certificate, whose grid and text are told otherwise
pub IsCertificateText-of : (g : Marks) (c : Certificate) (text : List ℕ) → IsCertificate c → c.grid ≡ g
    → verdict_of c ≡ Yes → length (certificate_text c) < max_certificate
    → text ≡ certificate_text c → IsCertificateText g text
IsCertificateText-of g c text is_one same_grid passes short lines = record {
  certificate = c;
  is_certificate = is_one;
  same_grid = same_grid;
  passes = passes;
  lines = lines;
  short = let told = ap length lines in omega (arith, told, short);
}

-- out of memory before it was written
pub HasWritten-no_certificate : (g : Marks) (f : ℕ) (a : Option (List ℕ)) → IsGrid g → size g ≤ 6
    → HasWritten (λ status answer. (status ≡ Done) × IsCertificateText g answer) NoMemory f f a a
HasWritten-no_certificate g f a grid small =
    let c = exists_certificate g grid small in
    HasWritten-nothing (λ status answer. (status ≡ Done) × IsCertificateText g answer) f a Done (certificate_text c.0)
    (refl, IsCertificateText-of g c.0 (certificate_text c.0) c.1 c.2 c.3 c.4 refl)

-- the answer to a document
outcome_of_grid : (text : List ℕ) (s : GridScript) (number : ℕ) → length text ≤ max_text → IsDocument text s
    → IsHeadLine (words_of_lines text) number
    → (status : Status) (answer : List ℕ) → IsAnswerOfGrid s number status answer → IsOutcome Cert text status answer
outcome_of_grid text s number within document head status answer (inl told) =
    subst (λ r. IsOutcome Cert text r answer) (sym told.0)
    (record { within = within; script = s; document = document; small = told.1; certified = told.2 })
outcome_of_grid text s number within document head status answer (inr told) =
    subst (λ r. IsOutcome Cert text r answer) (sym told.0)
    (inr (record {
      within = within;
      script = s;
      document = document;
      large = told.1;
      number = number;
      head = head;
      told = told.2;
    }))

pub HasWritten-certified : (text : List ℕ) (s : GridScript) (number : ℕ) (result : Status) (f g : ℕ)
    (a b : Option (List ℕ)) → length text ≤ max_text → IsDocument text s → IsHeadLine (words_of_lines text) number
    → HasWritten (IsAnswerOfGrid s number) result f g a b → HasWritten (IsOutcome Cert text) result f g a b
HasWritten-certified text s number result f g a b within document head h =
    HasWritten-weaker (IsAnswerOfGrid s number) (IsOutcome Cert text) result f g a b
    (outcome_of_grid text s number within document head) h

-- what was written passes
pub certificates_pass : (text answer : List ℕ) → IsOutcome Cert text Done answer → IsOutcome Check answer Done yes_line
certificates_pass text answer h =
    let told = h.certified in
    let short = told.short in
    record {
      within = omega (arith, short);
      certificate = told.certificate;
      is_certificate = told.is_certificate;
      lines = told.lines;
      passes = told.passes;
      told = refl;
    }
