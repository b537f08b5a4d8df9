-- Each text has an outcome in each mode, and all outcomes of a text have one status.
use Rattle.std.proofs.Common.{◌≡◌, ◌⊎◌, ℕ, ◌<◌, ◌≤◌, List, length, map, nat_lt, false, refl, sym, ap, ◌∙◌, inl, inr, arith}
use Rattle.std.proofs.lemmas.Bool.{cases_Bool, ltb-true}
use Rattle.torus_geom.specs.Marks.{size, IsGrid}
use Rattle.grid_text.specs.Words.{Word, lines_of, words_of, words_of_lines}
use Rattle.grid_text.specs.Document.{head, ended, Path, IsDocument}
use Rattle.grid_text.specs.Script.{GridScript, IsScript, grid_in_force}
use Rattle.grid_text.specs.Limits.{max_text}
use Rattle.grid_text.proofs.Lines.ScriptLemmas.{IsGrid-grid_in_force}
use Rattle.grid_text.proofs.Paths.JudgementLemmas.{no_document, one_script}
use Rattle.grid_text.proofs.Paths.OutcomeLemmas.{every_text}
use Rattle.grid_text.proofs.Paths.PlaceLemmas.{IsPlace-path}
use Rattle.homology_cert.specs.Certificates.{Certificate, IsCertificate}
use Rattle.homology_cert.specs.CertificateTests.{verdict_of}
use Rattle.homology_cert.specs.CertificateText.{certificate_text}
use Rattle.homology_cert.specs.declared.verdicts.CertTest.{CertTest}
use Rattle.homology_cert.specs.declared.verdicts.CertVerdict.{CertVerdict}
use Rattle.homology_cert.specs.declared.verdicts.CertVerdict.TheVariants as verdict
use Rattle.grid_text.proofs.Paths.PairLemmas.{every_pair_text, no_pair}
use Rattle.grid_text.specs.Pairs.{first_part}
use Rattle.grid_job.specs.Compared.{IsCompared, IsPairFaulty}
use Rattle.grid_job.proofs.Compared.FactLemmas.{exists_comparison}
use Rattle.grid_job.specs.Certified.{IsCertificateText, IsCertified, IsTooLarge}
use Rattle.homology_cert.specs.CertificateLimits.{max_certificate}
use Rattle.grid_job.specs.Checked.{IsPassed, IsFailed, IsNoCertificate}
use Rattle.grid_job.specs.InForce.{at_start}
use Rattle.grid_job.specs.Outcome.{IsForm, IsTooLong, IsFaulty, IsRefusal, IsReported, IsOutcome}
use Rattle.grid_job.specs.declared.modes.Mode.{Mode}
use Rattle.grid_job.specs.declared.modes.Mode.TheVariants.{Run, Cert, Check, Compare, Make}
use Rattle.grid_job.specs.declared.statuses.Status.{Status}
use Rattle.grid_job.specs.declared.statuses.Status.TheVariants.{Done, Refused, No}
use Rattle.homology_cert.proofs.States.StateTexts.{some_answer}
use Rattle.homology_cert.proofs.States.StateTexts.{exists_certificate}
use Rattle.homology_cert.proofs.States.StateTexts.{one_certificate}
use Rattle.torus_geom.proofs.Chains.CodesLemmas.{IsChain-nothing}
use Rattle.grid_job.proofs.Outcomes.HeadLemmas.{some_head}
use Rattle.grid_job.proofs.Generated.MadeLemmas.{exists_made}
use Rattle.grid_job.proofs.Outcomes.ModeLemmas.{told_apart}
use Rattle.grid_job.proofs.Outcomes.OptionLemmas.{IsMake-one, IsMake-size}
use Rattle.grid_job.proofs.Reported.ReportLemmas.{exists_answers}

-- ---- one status
-- what an outcome of each mode may be
RunCase : List ℕ → Status → List ℕ → Type 0
RunCase text s a = ((s ≡ Done) × IsReported text a) ⊎ ((s ≡ Refused) × IsRefusal text a)

CertCase : List ℕ → Status → List ℕ → Type 0
CertCase text s a = ((s ≡ Done) × IsCertified text a) ⊎ ((s ≡ Refused) × (IsRefusal text a ⊎ IsTooLarge text a))

CheckCase : List ℕ → Status → List ℕ → Type 0
CheckCase text s a =
    ((s ≡ Done) × IsPassed text a) ⊎ ((s ≡ No) × IsFailed text a)
    ⊎ ((s ≡ Refused) × (IsTooLong max_certificate text a ⊎ IsNoCertificate text a))

CompareCase : List ℕ → Status → List ℕ → Type 0
CompareCase text s a =
    ((s ≡ Done) × IsCompared text a) ⊎ ((s ≡ Refused) × (IsTooLong max_text text a ⊎ IsPairFaulty text a))

run_case : (text : List ℕ) (s : Status) (a : List ℕ) → IsOutcome Run text s a → RunCase text s a
unfolding RunCase
run_case text Done a x = inl (refl, x)
run_case text Refused a x = inr (refl, x)
run_case text s a x = absurd x

cert_case : (text : List ℕ) (s : Status) (a : List ℕ) → IsOutcome Cert text s a → CertCase text s a
unfolding CertCase
cert_case text Done a x = inl (refl, x)
cert_case text Refused a x = inr (refl, x)
cert_case text s a x = absurd x

check_case : (text : List ℕ) (s : Status) (a : List ℕ) → IsOutcome Check text s a → CheckCase text s a
unfolding CheckCase
check_case text Done a x = inl (refl, x)
check_case text No a x = inr (inl (refl, x))
check_case text Refused a x = inr (inr (refl, x))
check_case text s a x = absurd x

compare_case : (text : List ℕ) (s : Status) (a : List ℕ) → IsOutcome Compare text s a → CompareCase text s a
unfolding CompareCase
compare_case text Done a x = inl (refl, x)
compare_case text Refused a x = inr (refl, x)
compare_case text s a x = absurd x

make_done : (n k : ℕ) (text : List ℕ) (s : Status) (a : List ℕ) → IsOutcome (Make n k) text s a → s ≡ Done
make_done n k text Done a x = refl
make_done n k text s a x = absurd x

-- a text is not both within a limit and too long
not_long : (limit : ℕ) (text answer : List ℕ) → length text ≤ limit → IsTooLong limit text answer → ⊥
not_long limit text answer within too_long = let long = too_long.long in omega (arith, within, long)

-- a text within the limit is refused for its first fault
pub fault_of_refusal : (text answer : List ℕ) → length text ≤ max_text → IsRefusal text answer → IsFaulty text answer
fault_of_refusal text answer within (inl long) = absurd (not_long max_text text answer within long)
fault_of_refusal text answer within (inr faulty) = faulty

-- a document is not refused
not_both : (text b : List ℕ) (s : GridScript) → length text ≤ max_text → IsDocument text s → IsRefusal text b → ⊥
not_both text b s within document (inl long) = not_long max_text text b within long
not_both text b s within document (inr faulty) = no_document text faulty.fault faulty.number s faulty.first document

one_status_of_run : (text : List ℕ) (s t : Status) (a b : List ℕ) → RunCase text s a → RunCase text t b → s ≡ t
unfolding RunCase
one_status_of_run text s t a b (inl p) (inl q) = p.0 ∙ sym q.0
one_status_of_run text s t a b (inr p) (inr q) = p.0 ∙ sym q.0
one_status_of_run text s t a b (inl p) (inr q) = absurd (not_both text b p.1.script p.1.within p.1.document q.1)
one_status_of_run text s t a b (inr p) (inl q) = absurd (not_both text a q.1.script q.1.within q.1.document p.1)

-- a grid that has certificates is not too large
not_large : (text a b : List ℕ) → IsCertified text a → IsRefusal text b ⊎ IsTooLarge text b → ⊥
not_large text a b p (inl refusal) = not_both text b p.script p.within p.document refusal
not_large text a b p (inr large) =
    let same = ap (λ s. size (grid_in_force s)) (one_script text p.script large.script p.document large.document) in
    let low = p.small in
    let high = large.large in
    omega (arith, same, low, high)

one_status_of_cert : (text : List ℕ) (s t : Status) (a b : List ℕ) → CertCase text s a → CertCase text t b → s ≡ t
unfolding CertCase
one_status_of_cert text s t a b (inl p) (inl q) = p.0 ∙ sym q.0
one_status_of_cert text s t a b (inr p) (inr q) = p.0 ∙ sym q.0
one_status_of_cert text s t a b (inl p) (inr q) = absurd (not_large text a b p.1 q.1)
one_status_of_cert text s t a b (inr p) (inl q) = absurd (not_large text b a q.1 p.1)

-- a certificate is not refused
not_refused : (text b : List ℕ) (c : Certificate) → length text ≤ max_certificate → IsCertificate c
    → text ≡ certificate_text c
    → IsTooLong max_certificate text b ⊎ IsNoCertificate text b → ⊥
not_refused text b c within is_one lines (inl long) = not_long max_certificate text b within long
not_refused text b c within is_one lines (inr bad) = bad.first.none c is_one lines

-- a certificate does not both pass and fail
not_pass_and_fail : (text a b : List ℕ) → IsPassed text a → IsFailed text b → ⊥
not_pass_and_fail text a b p q =
    let same = one_certificate p.certificate q.certificate p.is_certificate q.is_certificate (sym p.lines ∙ q.lines) in
    yes_or_no q.entry q.test (sym p.passes ∙ ap verdict_of same ∙ q.fails)
  where
    yes_or_no : (k : ℕ) (t : CertTest) → verdict.Yes ≡ verdict.No k t → ⊥
    yes_or_no k t e = cc

one_status_of_check : (text : List ℕ) (s t : Status) (a b : List ℕ) → CheckCase text s a → CheckCase text t b → s ≡ t
unfolding CheckCase
one_status_of_check text s t a b (inl p) (inl q) = p.0 ∙ sym q.0
one_status_of_check text s t a b (inr (inl p)) (inr (inl q)) = p.0 ∙ sym q.0
one_status_of_check text s t a b (inr (inr p)) (inr (inr q)) = p.0 ∙ sym q.0
one_status_of_check text s t a b (inl p) (inr (inl q)) = absurd (not_pass_and_fail text a b p.1 q.1)
one_status_of_check text s t a b (inr (inl p)) (inl q) = absurd (not_pass_and_fail text b a q.1 p.1)
one_status_of_check text s t a b (inl p) (inr (inr q)) =
    absurd (not_refused text b p.1.certificate p.1.within p.1.is_certificate p.1.lines q.1)
one_status_of_check text s t a b (inr (inr p)) (inl q) =
    absurd (not_refused text a q.1.certificate q.1.within q.1.is_certificate q.1.lines p.1)
one_status_of_check text s t a b (inr (inl p)) (inr (inr q)) =
    absurd (not_refused text b p.1.certificate p.1.within p.1.is_certificate p.1.lines q.1)
one_status_of_check text s t a b (inr (inr p)) (inr (inl q)) =
    absurd (not_refused text a q.1.certificate q.1.within q.1.is_certificate q.1.lines p.1)

-- a pair of documents is not refused
not_faulty : (text a b : List ℕ) → IsCompared text a → IsTooLong max_text text b ⊎ IsPairFaulty text b → ⊥
not_faulty text a b p (inl long) = not_long max_text text b p.within long
not_faulty text a b p (inr faulty) = no_pair text faulty.fault faulty.number p.first p.second faulty.first p.pair

one_status_of_compare : (text : List ℕ) (s t : Status) (a b : List ℕ) → CompareCase text s a → CompareCase text t b
    → s ≡ t
unfolding CompareCase
one_status_of_compare text s t a b (inl p) (inl q) = p.0 ∙ sym q.0
one_status_of_compare text s t a b (inr p) (inr q) = p.0 ∙ sym q.0
one_status_of_compare text s t a b (inl p) (inr q) = absurd (not_faulty text a b p.1 q.1)
one_status_of_compare text s t a b (inr p) (inl q) = absurd (not_faulty text b a q.1 p.1)

pub one_status : (mode : Mode) (text : List ℕ) (s t : Status) (a b : List ℕ) → IsOutcome mode text s a
    → IsOutcome mode text t b → s ≡ t
one_status Run text s t a b x y = one_status_of_run text s t a b (run_case text s a x) (run_case text t b y)
one_status Cert text s t a b x y = one_status_of_cert text s t a b (cert_case text s a x) (cert_case text t b y)
one_status Check text s t a b x y = one_status_of_check text s t a b (check_case text s a x) (check_case text t b y)
one_status Compare text s t a b x y =
    one_status_of_compare text s t a b (compare_case text s a x) (compare_case text t b y)
one_status (Make n k) text s t a b x y = make_done n k text s a x ∙ sym (make_done n k text t b y)

-- ---- an outcome
abbrev pub SomeOutcome : Mode → List ℕ → Type 0
SomeOutcome mode text = (status : Status) × (answer : List ℕ) × IsOutcome mode text status answer

within_or_long : (limit n : ℕ) → (n ≤ limit) ⊎ (limit < n)
within_or_long limit n = elim (cases_Bool (nat_lt limit n)) [
  | inl h ↦ inr (ltb-true limit n h)
  | inr h ↦ inl (not_below h)
]
  where
    not_below : nat_lt limit n ≡ false → n ≤ limit
    not_below h = grind arith

-- a document is that of a script
is_script : (text : List ℕ) (s : GridScript) → IsDocument text s → IsScript s
is_script text s document = IsPlace-path head (ended s) (map words_of (lines_of text)) tt document

-- a text that is no document has an outcome in the modes that read one, if each document has
some_refusal : (mode : Mode) (text : List ℕ) → ((answer : List ℕ) → IsRefusal text answer
    → IsOutcome mode text Refused answer)
    → (length text ≤ max_text → (s : GridScript) → IsDocument text s → SomeOutcome mode text) → SomeOutcome mode text
some_refusal mode text refused done = elim (within_or_long max_text (length text)) [
  | inr long ↦ (Refused, _, refused _ (inl (record { long = long; told = refl })))
  | inl within ↦ elim (every_text text) [
    | inl document ↦ done within document.0 document.1
    | inr faulty ↦ (
      Refused,
      _,
      refused _ (inr (record {
        within = within;
        fault = faulty.0;
        number = faulty.1;
        first = faulty.2;
        told = refl;
      })),
    )
  ]
]

pub some_report : (text : List ℕ) → SomeOutcome Run text
some_report text = some_refusal Run text (λ answer refusal. refusal) reported
  where
    reported : length text ≤ max_text → (s : GridScript) → IsDocument text s → SomeOutcome Run text
    reported within s document =
        let script = is_script text s document in
        let report = exists_answers s.version script.version (at_start s.grid) s.commands script.grid
        (IsChain-nothing (size s.grid)) script.allowed
        in
        (Done, report.0, record { within = within; script = s; document = document; report = report.1 })

pub some_certified : (text : List ℕ) → SomeOutcome Cert text
some_certified text = some_refusal Cert text (λ answer refusal. inl refusal) certified
  where
    of_small_grid : length text ≤ max_text → (s : GridScript) → IsDocument text s → size (grid_in_force s) ≤ 6
        → SomeOutcome Cert text
    of_small_grid within s document small =
        let grid = IsGrid-grid_in_force s (is_script text s document) in
        let c = exists_certificate (grid_in_force s) grid small in
        let certified : IsCertificateText (grid_in_force s) (certificate_text c.0) =
        record {
          certificate = c.0;
          is_certificate = c.1;
          same_grid = c.2;
          passes = c.3;
          lines = refl;
          short = c.4;
        } in (
          Done,
          certificate_text c.0,
          record {
            within = within;
            script = s;
            document = document;
            small = small;
            certified = certified;
          },
        )

    of_large_grid : length text ≤ max_text → (s : GridScript) → IsDocument text s → 6 < size (grid_in_force s)
        → SomeOutcome Cert text
    of_large_grid within s document large =
        let first = some_head (words_of_lines text) s document in (
          Refused,
          _,
          inr (record {
            within = within;
            script = s;
            document = document;
            large = large;
            number = first.0;
            head = first.1;
            told = refl;
          }),
        )

    certified : length text ≤ max_text → (s : GridScript) → IsDocument text s → SomeOutcome Cert text
    certified within s document = elim (within_or_long 6 (size (grid_in_force s))) [
      | inl small ↦ of_small_grid within s document small
      | inr large ↦ of_large_grid within s document large
    ]

pub some_checked : (text : List ℕ) → SomeOutcome Check text
some_checked text = elim (within_or_long max_certificate (length text)) [
  | inr long ↦ (Refused, _, inl (record { long = long; told = refl }))
  | inl within ↦ elim (some_answer text within) [
    | inl c ↦ checked within c.0 c.1 c.2 (verdict_of c.0) refl
    | inr bad ↦ (Refused, _, inr (record { within = within; number = bad.0; first = bad.1; told = refl }))
  ]
]
  where
    checked : length text ≤ max_certificate → (c : Certificate) → IsCertificate c → text ≡ certificate_text c
        → (v : CertVerdict) → verdict_of c ≡ v → SomeOutcome Check text
    checked within c is_one lines verdict.Yes passes = (
      Done,
      _,
      record {
        within = within;
        certificate = c;
        is_certificate = is_one;
        lines = lines;
        passes = passes;
        told = refl;
      },
    )
    checked within c is_one lines (verdict.No k t) fails = (
      No,
      _,
      record {
        within = within;
        certificate = c;
        is_certificate = is_one;
        lines = lines;
        entry = k;
        test = t;
        fails = fails;
        told = refl;
      },
    )

-- a script of a part of a text has a grid
grid_of_part : (lines : List (List Word)) (s : GridScript) → Path head lines (ended s) → IsGrid (grid_in_force s)
grid_of_part lines s path = IsGrid-grid_in_force s (IsPlace-path head (ended s) lines tt path)

pub some_compared : (text : List ℕ) → SomeOutcome Compare text
some_compared text = elim (within_or_long max_text (length text)) [
  | inr long ↦ (Refused, _, inl (record { long = long; told = refl }))
  | inl within ↦ elim (every_pair_text text) [
    | inl pair ↦
        let (s, t, is_pair) = pair in
        let compared = exists_comparison (grid_in_force s) (grid_in_force t)
        (grid_of_part (first_part (words_of_lines text)) s is_pair.first)
        (grid_of_part is_pair.later t is_pair.second) in (
          Done,
          compared.0,
          record { within = within; first = s; second = t; pair = is_pair; compared = compared.1 },
        )
    | inr faulty ↦ (
      Refused,
      _,
      inr (record {
        within = within;
        fault = faulty.0;
        number = faulty.1;
        first = faulty.2;
        told = refl;
      }),
    )
  ]
]

-- ---- the words ask for one mode
pub one_form : (words : List (List ℕ)) (m k : Mode) → IsForm words m → IsForm words k → m ≡ k
one_form words Run Run f g = refl
one_form words Cert Cert f g = refl
one_form words Check Check f g = refl
one_form words Compare Compare f g = refl
one_form words (Make n s) (Make m t) f g = let same = IsMake-one words n m s t f g in λ i. Make (same.0 i) (same.1 i)
one_form words m k f g = absurd (told_apart words m k refl f g)

-- so each text has an outcome in it
pub some_outcome : (words : List (List ℕ)) (mode : Mode) (text : List ℕ) → IsForm words mode → SomeOutcome mode text
some_outcome words Run text form = some_report text
some_outcome words Cert text form = some_certified text
some_outcome words Check text form = some_checked text
some_outcome words Compare text form = some_compared text
some_outcome words (Make n s) text form = let made = exists_made n s (IsMake-size words n s form) in
    (Done, made.0, made.1)
