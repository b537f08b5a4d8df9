-- What a call of the program may come to. Each mode of the program has its outcomes for a text: the statuses with
-- which a call may end, and the bytes that it then has written. The clauses of the top call speak of outcomes alone.
--     IsForm words mode             the words after the program's name ask for this mode
--     most_read mode                the number of bytes that a call takes at most
--     IsTooLong limit text answer   the text is longer than what is judged, and the answer is the line that says so
--     IsFaulty text answer          the text is no document, and the answer states its first fault
--     IsRefusal text answer         the text is refused as a document, and the answer is the line that says so
--     IsReported text answer        the text is a document, and the answer a report of its script
--     IsOutcome mode text status answer
--                                   a call in this mode, on this text, may end with this status and have written
--                                   this answer
--     IsEnd status                  the call went to its end
--     HasEnded words text status left before after
--                                   the text was read as the mode asks, and the whole answer of an outcome with this
--                                   status was written
--     HasBegun words text before after
--                                   what was written is a prefix of the answer of an outcome
use Rattle.std.specs.Prelude.{◌≡◌, ℕ, ◌+◌, ◌<◌, ◌≤◌, ◌⊎◌, List, [], ◌∷◌, length, drop, codes, Option, Some}
use Rattle.std.specs.Io.KnownBytes.{Appends}
use Rattle.grid_ports.specs.Bytes.{AppendsPrefix}
use Rattle.grid_text.specs.Document.{IsDocument}
use Rattle.grid_text.specs.Faults.{IsFirstFault}
use Rattle.grid_text.specs.FaultWords.{fault_word}
use Rattle.grid_text.specs.Script.{GridScript}
use Rattle.grid_text.specs.declared.faults.TextFault.{TextFault}
use Rattle.grid_text.specs.Limits.{max_text}
use Rattle.report_text.specs.Lines.{refused_line}
use Rattle.grid_job.specs.Certified.{IsCertified, IsTooLarge}
use Rattle.homology_cert.specs.CertificateLimits.{max_certificate}
use Rattle.grid_job.specs.Checked.{IsPassed, IsFailed, IsNoCertificate}
use Rattle.grid_job.specs.Compared.{IsCompared, IsPairFaulty}
use Rattle.grid_job.specs.Made.{IsMade}
use Rattle.grid_job.specs.Report.{IsReport}
use Rattle.grid_job.specs.Words.{IsMake}
use Rattle.grid_job.specs.declared.modes.Mode.{Mode}
use Rattle.grid_job.specs.declared.modes.Mode.TheVariants.{Run, Cert, Check, Compare, Make}
use Rattle.grid_job.specs.declared.statuses.Status.{Status}
use Rattle.grid_job.specs.declared.statuses.Status.TheVariants.{Done, Refused, No}

-- `run`, `cert`, `check` and `compare` alone ask for what they say, and `make` with its two options for a grid of this
-- size and seed
abbrev pub IsForm : List (List ℕ) → Mode → Type 0
IsForm words Run = words ≡ codes "run" ∷ []
IsForm words Cert = words ≡ codes "cert" ∷ []
IsForm words Check = words ≡ codes "check" ∷ []
IsForm words Compare = words ≡ codes "compare" ∷ []
IsForm words (Make size seed) = IsMake words size seed

-- one byte past the most that is judged; `make` reads nothing
abbrev pub most_read : Mode → ℕ
most_read (Make size seed) = 0
most_read Check = max_certificate + 1
most_read mode = max_text + 1

pub record IsTooLong (limit : ℕ) (text answer : List ℕ) : Type 0 where
  pub long : limit < length text
  pub told : answer ≡ refused_line (codes "TooLong") 0

pub record IsFaulty (text answer : List ℕ) : Type 0 where
  pub within : length text ≤ max_text
  pub fault : TextFault
  pub number : ℕ
  pub first : IsFirstFault text fault number
  pub told : answer ≡ refused_line (fault_word fault) number

abbrev pub IsRefusal : List ℕ → List ℕ → Type 0
IsRefusal text answer = IsTooLong max_text text answer ⊎ IsFaulty text answer

pub record IsReported (text answer : List ℕ) : Type 0 where
  pub within : length text ≤ max_text
  pub script : GridScript
  pub document : IsDocument text script
  pub report : IsReport script answer

-- there is no other
abbrev pub IsOutcome : Mode → List ℕ → Status → List ℕ → Type 0
IsOutcome Run text Done answer = IsReported text answer
IsOutcome Run text Refused answer = IsRefusal text answer
IsOutcome Cert text Done answer = IsCertified text answer
IsOutcome Cert text Refused answer = IsRefusal text answer ⊎ IsTooLarge text answer
IsOutcome Check text Done answer = IsPassed text answer
IsOutcome Check text No answer = IsFailed text answer
IsOutcome Check text Refused answer = IsTooLong max_certificate text answer ⊎ IsNoCertificate text answer
IsOutcome Compare text Done answer = IsCompared text answer
IsOutcome Compare text Refused answer = IsTooLong max_text text answer ⊎ IsPairFaulty text answer
IsOutcome (Make size seed) text Done answer = IsMade size seed answer
IsOutcome mode text status answer = ⊥

abbrev pub IsEnd : Status → Type 0
IsEnd Done = Unit {0}
IsEnd Refused = Unit {0}
IsEnd No = Unit {0}
IsEnd status = ⊥

pub record HasEnded (words : List (List ℕ)) (text : List ℕ) (status : Status) (left before after : Option (List ℕ)) :
    Type 0 where
  pub mode : Mode
  pub form : IsForm words mode
  pub answer : List ℕ
  pub outcome : IsOutcome mode text status answer
  pub read : left ≡ Some (drop (most_read mode) text)
  pub written : Appends before after answer

pub record HasBegun (words : List (List ℕ)) (text : List ℕ) (before after : Option (List ℕ)) : Type 0 where
  pub mode : Mode
  pub form : IsForm words mode
  pub status : Status
  pub answer : List ℕ
  pub outcome : IsOutcome mode text status answer
  pub written : AppendsPrefix before after answer
