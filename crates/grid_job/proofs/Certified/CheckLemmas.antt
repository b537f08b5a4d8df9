-- The verdict of a certificate, and the outcomes of `check`.
use Rattle.std.proofs.Common.{◌≡◌, ℕ, ◌≤◌, List, length, codes, Option, refl, sym, subst, inr}
use Rattle.torus_geom.specs.Homology.{IsHomologyTable}
use Rattle.homology_cert.specs.Certificates.{Certificate, IsCertificate}
use Rattle.homology_cert.specs.CertificateTests.{verdict_of, certified_rows}
use Rattle.homology_cert.specs.CertificateText.{certificate_text, IsFirstBadLine}
use Rattle.homology_cert.specs.declared.verdicts.CertVerdict.{CertVerdict}
use Rattle.homology_cert.specs.declared.verdicts.CertVerdict.TheVariants.{Yes, No as Fails}
use Rattle.homology_cert.proofs.States.StateTexts.{table_of_certificate}
use Rattle.report_text.specs.Lines.{refused_line}
use Rattle.homology_cert.specs.CertificateLimits.{max_certificate}
use Rattle.grid_job.specs.Outcome.{IsOutcome}
use Rattle.grid_job.specs.Inner.Written.{HasWritten, TellsVerdict}
use Rattle.grid_job.specs.declared.modes.Mode.TheVariants.{Check}
use Rattle.grid_job.specs.declared.statuses.Status.{Status}
use Rattle.grid_job.specs.declared.statuses.Status.TheVariants.{Done, Refused, NoMemory, No}
use Rattle.grid_job.proofs.Outcomes.WrittenLemmas.{HasWritten-weaker, HasWritten-nothing}

-- each verdict has its line
some_told : (v : CertVerdict) → (status : Status) × (answer : List ℕ) × TellsVerdict v status answer
some_told Yes = (Done, _, (refl, refl))
some_told (Fails k t) = (No, _, (refl, refl))

pub HasWritten-no_verdict : (v : CertVerdict) (f : ℕ) (a : Option (List ℕ))
    → HasWritten (TellsVerdict v) NoMemory f f a a
HasWritten-no_verdict v f a = let told = some_told v in HasWritten-nothing (TellsVerdict v) f a told.0 told.1 told.2

-- the line of the verdict is that of an outcome
outcome_of_verdict : (text : List ℕ) (c : Certificate) → length text ≤ max_certificate → IsCertificate c
    → text ≡ certificate_text c
    → (v : CertVerdict) → verdict_of c ≡ v → (status : Status) (answer : List ℕ) → TellsVerdict v status answer
    → IsOutcome Check text status answer
outcome_of_verdict text c within is_one lines Yes passes status answer told =
    subst (λ s. IsOutcome Check text s answer) (sym told.0)
    (record {
      within = within;
      certificate = c;
      is_certificate = is_one;
      lines = lines;
      passes = passes;
      told = told.1;
    })
outcome_of_verdict text c within is_one lines (Fails k t) fails status answer told =
    subst (λ s. IsOutcome Check text s answer) (sym told.0)
    (record {
      within = within;
      certificate = c;
      is_certificate = is_one;
      lines = lines;
      entry = k;
      test = t;
      fails = fails;
      told = told.1;
    })

pub HasWritten-verdict : (text : List ℕ) (c : Certificate) (result : Status) (f g : ℕ) (a b : Option (List ℕ))
    → length text ≤ max_certificate → IsCertificate c → text ≡ certificate_text c
    → HasWritten (TellsVerdict (verdict_of c)) result f g a b → HasWritten (IsOutcome Check text) result f g a b
HasWritten-verdict text c result f g a b within is_one lines h =
    HasWritten-weaker (TellsVerdict (verdict_of c)) (IsOutcome Check text) result f g a b
    (outcome_of_verdict text c within is_one lines (verdict_of c) refl) h

-- a text with a bad line
pub HasWritten-bad_line : (text : List ℕ) (line : ℕ) (result : Status) (f g : ℕ) (a b : Option (List ℕ))
    → length text ≤ max_certificate → IsFirstBadLine text line
    → HasWritten (λ status answer. (status ≡ Refused) × (answer ≡ refused_line (codes "BadLine") line)) result f g a b
    → HasWritten (IsOutcome Check text) result f g a b
HasWritten-bad_line text line result f g a b within first h =
    HasWritten-weaker (λ status answer. (status ≡ Refused) × (answer ≡ refused_line (codes "BadLine") line))
    (IsOutcome Check text) result f g a b
    (λ status answer told. subst (λ r. IsOutcome Check text r answer) (sym told.0)
    (inr (record { within = within; number = line; first = first; told = told.1 })))
    h

-- a yes implies the table
pub yes_tells_the_table : (text answer : List ℕ) → IsOutcome Check text Done answer
    → (c : Certificate) × IsCertificate c × (text ≡ certificate_text c)
    × IsHomologyTable c.grid (certified_rows c.cells)
yes_tells_the_table text answer h =
    (h.certificate, h.is_certificate, h.lines, table_of_certificate h.certificate h.is_certificate h.passes)
