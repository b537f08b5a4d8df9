-- What the functions that write an answer say of it.
--     HasWritten Outcome result faults_before faults_after before after
--         a call that may come to an outcome (a status with an answer) has this result; the count of faults and the
--         bytes of its sink were these before, and are these after
--     Tells left Outcome    the outcomes of the text that was left, if the source tells it
--     TellsVerdict v        the outcome of a certificate with this verdict
--     IsAnswerOfGrid s number
--                           the outcomes of a document of the script s, whose head begins at the line of this number,
--                           if a certificate is asked for
use Rattle.std.specs.Prelude.{◌≡◌, ◌≢◌, ◌⊎◌, ℕ, ◌<◌, ◌≤◌, List, Option, IfSome, codes}
use Rattle.std.specs.Io.KnownBytes.{Appends}
use Rattle.grid_ports.specs.Bytes.{AppendsPrefix}
use Rattle.grid_ports.specs.Faults.{count_up}
use Rattle.torus_geom.specs.Marks.{size}
use Rattle.grid_text.specs.Script.{GridScript, grid_in_force}
use Rattle.homology_cert.specs.CertificateLimits.{max_certified_size}
use Rattle.homology_cert.specs.declared.verdicts.CertVerdict.{CertVerdict}
use Rattle.homology_cert.specs.declared.verdicts.CertVerdict.TheVariants as verdict
use Rattle.report_text.specs.Lines.{refused_line}
use Rattle.grid_job.specs.Certified.{IsCertificateText}
use Rattle.grid_job.specs.Checked.{yes_line, no_line}
use Rattle.grid_job.specs.Outcome.{IsEnd}
use Rattle.grid_job.specs.declared.statuses.Status.{Status}
use Rattle.grid_job.specs.declared.statuses.Status.TheVariants.{Done, Refused, WriteFault, NoMemory, No}

pub record HasWritten (Outcome : Status → List ℕ → Type 0) (result : Status) (faults_before faults_after : ℕ)
    (before after : Option (List ℕ)) : Type 0 where
  -- a call that went to its end has written the answer of an outcome with its status
  pub whole : IsEnd result → (answer : List ℕ) × Outcome result answer × Appends before after answer
  -- whatever came, a prefix of the answer of an outcome was written
  pub part : (status : Status) × (answer : List ℕ) × Outcome status answer × AppendsPrefix before after answer
  pub results : IsEnd result ⊎ (result ≡ WriteFault) ⊎ (result ≡ NoMemory)
  -- one write that failed is the only cause of WriteFault
  pub fault : result ≡ WriteFault → faults_after ≡ count_up faults_before
  pub no_fault : result ≢ WriteFault → faults_after ≡ faults_before

abbrev pub Tells : Option (List ℕ) → (List ℕ → Status → List ℕ → Type 0) → Status → List ℕ → Type 0
Tells left Outcome status answer = IfSome left (λ text. Outcome text status answer)

abbrev pub TellsVerdict : CertVerdict → Status → List ℕ → Type 0
TellsVerdict verdict.Yes status answer = (status ≡ Done) × (answer ≡ yes_line)
TellsVerdict (verdict.No entry test) status answer = (status ≡ No) × (answer ≡ no_line entry test)

abbrev pub IsAnswerOfGrid : GridScript → ℕ → Status → List ℕ → Type 0
IsAnswerOfGrid s number status answer =
    ((status ≡ Done) × (size (grid_in_force s) ≤ max_certified_size) × IsCertificateText (grid_in_force s) answer)
    ⊎ ((status ≡ Refused) × (max_certified_size < size (grid_in_force s))
    × (answer ≡ refused_line (codes "TooLarge") number))
