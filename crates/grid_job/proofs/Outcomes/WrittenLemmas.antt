-- From function to function: what was written, and which outcomes it belongs to.
use Rattle.std.proofs.Common.{◌≡◌, ◌≢◌, ◌⊎◌, ℕ, ◌+◌, ◌-◌, ◌^◌, ◌<◌, ◌≤◌, Bool, true, false, List, [], ◌++◌, length, drop, codes, Option, None, Some, IfSome, refl, sym, ap, subst, ◌∙◌, inl, inr, arith, append-nil}
use Rattle.std.specs.Io.KnownBytes.{Consumes, IsAtEnd}
use Rattle.std.proofs.lemmas.List.{drop_all}
use Rattle.grid_ports.specs.Bytes.{Takes, TakesAtMost, AppendsPrefix}
use Rattle.grid_ports.specs.Faults.{count_up}
use Rattle.grid_ports.proofs.BytesLemmas.{Appends-none, Takes-from_consumed}
use Rattle.grid_text.specs.Document.{IsDocument}
use Rattle.grid_text.specs.Faults.{IsFirstFault}
use Rattle.grid_text.specs.FaultWords.{fault_word}
use Rattle.grid_text.specs.Limits.{max_text}
use Rattle.grid_text.specs.Script.{GridScript}
use Rattle.grid_text.specs.declared.faults.TextFault.{TextFault}
use Rattle.report_text.specs.Lines.{refused_line}
use Rattle.grid_job.specs.Report.{IsReport}
use Rattle.grid_job.specs.Outcome.{IsForm, IsTooLong, IsRefusal, IsOutcome, IsEnd, HasEnded, HasBegun, most_read}
use Rattle.grid_job.specs.Made.{IsMade}
use Rattle.grid_job.specs.Inner.Written.{HasWritten, Tells}
use Rattle.grid_job.specs.declared.modes.Mode.{Mode}
use Rattle.grid_job.specs.declared.modes.Mode.TheVariants.{Run, Make}
use Rattle.grid_job.specs.declared.statuses.Status.{Status}
use Rattle.grid_job.specs.declared.statuses.Status.TheVariants.{Done, Usage, Refused, ReadFault, WriteFault, NoMemory, No}
use Rattle.grid_job.proofs.Outcomes.OutcomeLemmas.{one_status, one_form}

-- what is an outcome of one kind is one of another
pub HasWritten-weaker : (O P : Status → List ℕ → Type 0) (result : Status) (f g : ℕ) (a b : Option (List ℕ))
    → ((s : Status) (t : List ℕ) → O s t → P s t)
    → HasWritten O result f g a b → HasWritten P result f g a b
HasWritten-weaker O P result f g a b weaker h = record {
  whole = λ is_end. let w = h.whole is_end in (w.0, weaker result w.0 w.1, w.2);
  part = (h.part.0, h.part.1, weaker h.part.0 h.part.1 h.part.2, h.part.3);
  results = h.results;
  fault = h.fault;
  no_fault = h.no_fault;
}

-- out of memory before anything was written
pub HasWritten-nothing : (O : Status → List ℕ → Type 0) (f : ℕ) (a : Option (List ℕ)) (s : Status) (t : List ℕ) → O s t
    → HasWritten O NoMemory f f a a
HasWritten-nothing O f a s t outcome = record {
  whole = λ is_end. absurd is_end;
  part = (s, t, outcome, ([], (t, refl), Appends-none a));
  results = inr (inr refl);
  fault = λ e. absurd (not_fault e);
  no_fault = λ e. refl;
}
  where
    not_fault : NoMemory ≡ WriteFault → ⊥
    not_fault e = cc

-- nothing is a prefix of each text
pub nothing_of : (a : Option (List ℕ)) (answer : List ℕ) → AppendsPrefix a a answer
nothing_of a answer = ([], (answer, refl), Appends-none a)

-- ---- the text that was left
-- what holds of the bytes that were read to the end holds of the text that was left
pub IfSome-read : (left left' : Option (List ℕ)) (bytes : List ℕ) (P : List ℕ → Type 0) → Consumes left left' bytes
    → IsAtEnd left' → P bytes → IfSome left P
IfSome-read None left' bytes P taken at_end known = tt
IfSome-read (Some text) None bytes P taken at_end known = absurd taken
IfSome-read (Some text) (Some rest) bytes P taken at_end known =
    subst P (sym (taken ∙ ap (λ r. bytes ++ r) at_end ∙ append-nil bytes)) known

module _ (limit : ℕ) where
  -- all of it was read
  pub read_to_the_end : (left left' : Option (List ℕ)) (bytes : List ℕ) → Consumes left left' bytes → IsAtEnd left'
      → length bytes ≤ limit
      → IfSome left (λ text. left' ≡ Some (drop (limit + 1) text))
  read_to_the_end None left' bytes taken at_end within = tt
  read_to_the_end (Some text) None bytes taken at_end within = absurd taken
  read_to_the_end (Some text) (Some rest) bytes taken at_end within =
      let whole : text ≡ bytes = taken ∙ ap (λ r. bytes ++ r) at_end ∙ append-nil bytes in
      ap Some (at_end ∙ sym (ap (drop (limit + 1)) whole ∙ drop_all (limit + 1) bytes (omega (arith, within))))

  -- so no more was taken than the limit and one byte
  pub TakesAtMost-read : (left left' : Option (List ℕ)) (bytes : List ℕ) → Consumes left left' bytes
      → length bytes ≤ limit → TakesAtMost (limit + 1) left left'
  TakesAtMost-read left left' bytes taken within =
      (length bytes, omega (arith, within), Takes-from_consumed left left' bytes (length bytes) taken refl)

  -- more was left than is judged
  pub IfSome-long : (left left' : Option (List ℕ)) (P : List ℕ → Type 0) → Takes (limit + 1) left left'
      → ((text : List ℕ) → limit < length text → P text) → IfSome left P
  IfSome-long None left' P taken known = tt
  IfSome-long (Some text) None P taken known = absurd taken
  IfSome-long (Some text) (Some rest) P taken known = known text (omega (arith, taken.0))

  pub read_past_the_limit : (left left' : Option (List ℕ)) → Takes (limit + 1) left left'
      → IfSome left (λ text. left' ≡ Some (drop (limit + 1) text))
  read_past_the_limit None left' taken = tt
  read_past_the_limit (Some text) None taken = absurd taken
  read_past_the_limit (Some text) (Some rest) taken = ap Some taken.1

-- ---- the top call
count-up : (n : ℕ) → n < 2 ^ 64 - 1 → count_up n ≡ n + 1
count-up n below = grind arith

-- if the source tells the text, a call that ended has ended so
pub HasEnded-written : (words : List (List ℕ)) (mode : Mode) (result : Status) (left left' : Option (List ℕ)) (f g : ℕ)
    (a b : Option (List ℕ)) → IsForm words mode → IsEnd result
    → IfSome left (λ text. left' ≡ Some (drop (most_read mode) text))
    → HasWritten (Tells left (IsOutcome mode)) result f g a b
    → IfSome left (λ text. HasEnded words text result left' a b)
HasEnded-written words mode result None left' f g a b form is_end read h = tt
HasEnded-written words mode result (Some text) left' f g a b form is_end read h =
    let w = h.whole is_end in
    record { mode = mode; form = form; answer = w.0; outcome = w.1; read = read; written = w.2 }

pub HasBegun-written : (words : List (List ℕ)) (mode : Mode) (result : Status) (left : Option (List ℕ)) (f g : ℕ)
    (a b : Option (List ℕ)) → IsForm words mode
    → HasWritten (Tells left (IsOutcome mode)) result f g a b → IfSome left (λ text. HasBegun words text a b)
HasBegun-written words mode result None f g a b form h = tt
HasBegun-written words mode result (Some text) f g a b form h =
    record { mode = mode; form = form; status = h.part.0; answer = h.part.1; outcome = h.part.2; written = h.part.3 }

-- if no write failed, the answer is the status of the outcomes, memory aside
pub status_of_outcomes : (mode : Mode) (result : Status) (left : Option (List ℕ)) (f g : ℕ) (a b : Option (List ℕ))
    → f < 2 ^ 64 - 1 → g ≡ f
    → HasWritten (Tells left (IsOutcome mode)) result f g a b
    → IfSome left (λ text. (status : Status) (answer : List ℕ) → IsOutcome mode text status answer
    → (result ≡ status) ⊎ (result ≡ NoMemory))
status_of_outcomes mode result None f g a b below kept h = tt
status_of_outcomes mode result (Some text) f g a b below kept h = λ status answer outcome. elim h.results [
  | inl is_end ↦ let w = h.whole is_end in inl (one_status mode text result status w.0 answer w.1 outcome)
  | inr (inl fault) ↦ absurd (rose (h.fault fault))
  | inr (inr memory) ↦ inr memory
]
  where
    rose : g ≡ count_up f → ⊥
    rose e = let up = count-up f below in omega (arith, up, e, kept)

-- the same for the mode that the words ask for
pub status_of_mode : (words : List (List ℕ)) (mode other : Mode) (result : Status) (left : Option (List ℕ)) (f g : ℕ)
    (a b : Option (List ℕ)) → IsForm words mode → IsForm words other → f < 2 ^ 64 - 1 → g ≡ f
    → HasWritten (Tells left (IsOutcome other)) result f g a b
    → IfSome left (λ text. (status : Status) (answer : List ℕ) → IsOutcome mode text status answer
    → (result ≡ status) ⊎ (result ≡ NoMemory))
status_of_mode words mode other result left f g a b form its_form below kept h =
    subst (λ m. IfSome left (λ text. (status : Status) (answer : List ℕ) → IsOutcome m text status answer
    → (result ≡ status) ⊎ (result ≡ NoMemory)))
    (one_form words other mode its_form form) (status_of_outcomes other result left f g a b below kept h)

-- ---- a made script
-- its outcomes are the same for each text
pub HasWritten-made : (n seed : ℕ) (left : Option (List ℕ)) (result : Status) (f g : ℕ) (a b : Option (List ℕ))
    → HasWritten (λ status answer. (status ≡ Done) × IsMade n seed answer) result f g a b
    → HasWritten (Tells left (IsOutcome (Make n seed))) result f g a b
HasWritten-made n seed left result f g a b h =
    HasWritten-weaker (λ status answer. (status ≡ Done) × IsMade n seed answer) (Tells left (IsOutcome (Make n seed)))
    result f g a b (each left) h
  where
    each : (o : Option (List ℕ)) (status : Status) (answer : List ℕ) → (status ≡ Done) × IsMade n seed answer
        → Tells o (IsOutcome (Make n seed)) status answer
    each None status answer told = tt
    each (Some text) status answer told = subst (λ r. IsOutcome (Make n seed) text r answer) (sym told.0) told.1

-- numbers that are the same make the same
pub IsMade-same : (n seed size number : ℕ) (answer : List ℕ) → n ≡ size → seed ≡ number → IsMade n seed answer
    → IsMade size number answer
IsMade-same n seed size number answer same_size same_seed made =
    subst (λ s. IsMade size s answer) same_seed (subst (λ m. IsMade m seed answer) same_size made)

-- the text stays where it is
pub left_alone : (n seed : ℕ) (left left' : Option (List ℕ)) → left' ≡ left
    → IfSome left (λ text. left' ≡ Some (drop (most_read (Make n seed)) text))
left_alone n seed None left' same = tt
left_alone n seed (Some text) left' same = same

-- a call that has written does not end so
pub not_usage : (O : Status → List ℕ → Type 0) (result : Status) (f g : ℕ) (a b : Option (List ℕ))
    → HasWritten O result f g a b → result ≢ Usage
not_usage O result f g a b h e = not_ended (subst Ended e h.results)
  where
    Ended : Status → Type 0
    Ended s = IsEnd s ⊎ (s ≡ WriteFault) ⊎ (s ≡ NoMemory)

    not_ended : Ended Usage → ⊥
    not_ended (inl is_end) = is_end
    not_ended (inr (inl e)) = cc
    not_ended (inr (inr e)) = cc

-- nor so, if no outcome is a no
pub not_others : (O : Status → List ℕ → Type 0) (result : Status) (f g : ℕ) (a b : Option (List ℕ))
    → ((answer : List ℕ) → O No answer → ⊥)
    → HasWritten O result f g a b → (result ≢ Usage) × (result ≢ No)
not_others O result f g a b never h = (
  not_usage O result f g a b h,
  λ e. let w = h.whole (subst IsEnd (sym e) tt) in never w.0 (subst (λ s. O s w.0) e w.1),
)

-- ---- the text is judged
-- a document, whose script was answered
pub HasWritten-script : (text : List ℕ) (s : GridScript) (result : Status) (f g : ℕ) (a b : Option (List ℕ))
    → length text ≤ max_text → IsDocument text s
    → HasWritten (λ status answer. (status ≡ Done) × IsReport s answer) result f g a b
    → HasWritten (IsOutcome Run text) result f g a b
HasWritten-script text s result f g a b within document h =
    HasWritten-weaker (λ status answer. (status ≡ Done) × IsReport s answer) (IsOutcome Run text) result f g a b
    (λ status answer told. subst (λ r. IsOutcome Run text r answer) (sym told.0) (record {
      within = within;
      script = s;
      document = document;
      report = told.1;
    }))
    h

-- a text with a fault, whose word is told otherwise
pub HasWritten-fault : (O : Status → List ℕ → Type 0) (text word : List ℕ) (fault : TextFault) (line : ℕ)
    (result : Status) (f g : ℕ) (a b : Option (List ℕ))
    → ((answer : List ℕ) → IsRefusal text answer → O Refused answer) → length text ≤ max_text
    → IsFirstFault text fault line → word ≡ fault_word fault
    → HasWritten (λ status answer. (status ≡ Refused) × (answer ≡ refused_line word line)) result f g a b
    → HasWritten O result f g a b
HasWritten-fault O text word fault line result f g a b refused within first same h =
    HasWritten-weaker (λ status answer. (status ≡ Refused) × (answer ≡ refused_line word line)) O result f g a b
    (λ status answer told. subst (λ r. O r answer) (sym told.0)
    (refused answer (inr (record {
      within = within;
      fault = fault;
      number = line;
      first = first;
      told = told.1 ∙ ap (λ w. refused_line w line) same;
    }))))
    h

-- ---- the text is read
module _ (Outcome : List ℕ → Status → List ℕ → Type 0) where
  -- a text that is too long
  pub HasWritten-long : (limit : ℕ) (left left' : Option (List ℕ)) (result : Status) (f g : ℕ) (a b : Option (List ℕ))
      → ((text answer : List ℕ) → IsTooLong limit text answer → Outcome text Refused answer)
      → Takes (limit + 1) left left'
      → HasWritten (λ status answer. (status ≡ Refused) × (answer ≡ refused_line (codes "TooLong") 0)) result f g a b
      → HasWritten (Tells left Outcome) result f g a b
  HasWritten-long limit left left' result f g a b refused taken h =
      HasWritten-weaker (λ status answer. (status ≡ Refused) × (answer ≡ refused_line (codes "TooLong") 0))
      (Tells left Outcome) result f g a b
      (λ status answer told. IfSome-long limit left left' (λ text. Outcome text status answer) taken
      (λ text long. subst (λ r. Outcome text r answer) (sym told.0)
      (refused text answer (record { long = long; told = told.1 }))))
      h

  -- a text that was read to its end
  pub HasWritten-read : (left left' : Option (List ℕ)) (bytes told : List ℕ) (result : Status) (f g : ℕ)
      (a b : Option (List ℕ)) → Consumes left left' bytes → IsAtEnd left'
      → told ≡ bytes → HasWritten (Outcome told) result f g a b → HasWritten (Tells left Outcome) result f g a b
  HasWritten-read left left' bytes told result f g a b taken at_end same h =
      HasWritten-weaker (Outcome told) (Tells left Outcome) result f g a b
      (λ status answer outcome. IfSome-read left left' bytes (λ text. Outcome text status answer) taken at_end
      (subst (λ t. Outcome t status answer) same outcome))
      h

  -- out of memory before the text was read
  pub HasWritten-unread : (left : Option (List ℕ)) (f : ℕ) (a : Option (List ℕ))
      → ((text : List ℕ) → (status : Status) × (answer : List ℕ) × Outcome text status answer)
      → HasWritten (Tells left Outcome) NoMemory f f a a
  HasWritten-unread None f a some = HasWritten-nothing (Tells None Outcome) f a Done [] tt
  HasWritten-unread (Some text) f a some =
      let outcome = some text in
      HasWritten-nothing (Tells (Some text) Outcome) f a outcome.0 outcome.1 outcome.2

-- a read that failed is told by ReadFault alone
pub ended_not_read_fault : (result : Status) → IsEnd result → result ≢ ReadFault
ended_not_read_fault result is_end e = subst IsEnd e is_end

pub begun_not_read_fault : (result : Status) → (result ≡ WriteFault) ⊎ (result ≡ NoMemory) → result ≢ ReadFault
begun_not_read_fault result (inl begun) e = other (sym begun ∙ e)
  where
    other : WriteFault ≡ ReadFault → ⊥
    other same = cc
begun_not_read_fault result (inr begun) e = other (sym begun ∙ e)
  where
    other : NoMemory ≡ ReadFault → ⊥
    other same = cc

is_read_fault : Status → Bool
is_read_fault ReadFault = true
is_read_fault s = false

read_fault_or_not : (s : Status) (b : Bool) → is_read_fault s ≡ b → (s ≡ ReadFault) ⊎ (s ≢ ReadFault)
unfolding is_read_fault
read_fault_or_not ReadFault b e = inl refl
read_fault_or_not Done b e = inr (λ same. cc)
read_fault_or_not Usage b e = inr (λ same. cc)
read_fault_or_not Refused b e = inr (λ same. cc)
read_fault_or_not WriteFault b e = inr (λ same. cc)
read_fault_or_not NoMemory b e = inr (λ same. cc)
read_fault_or_not No b e = inr (λ same. cc)

-- if no call failed in a mode that reads a text, the answer is the status of the outcomes of the mode
pub status_of_reading : (words : List (List ℕ)) (mode other : Mode) (result : Status) (left : Option (List ℕ))
    (f g h k : ℕ) (a b : Option (List ℕ)) → IsForm words mode → IsForm words other → f < 2 ^ 64 - 1 → h < 2 ^ 64 - 1
    → g ≡ f → k ≡ h
    → (result ≡ ReadFault → g ≡ count_up f) → (result ≢ ReadFault
    → HasWritten (Tells left (IsOutcome other)) result h k a b)
    → IfSome left (λ text. (status : Status) (answer : List ℕ) → IsOutcome mode text status answer
    → (result ≡ status) ⊎ (result ≡ NoMemory))
status_of_reading words mode other result left f g h k a b form its_form below_f below_h source sink fault written =
    elim (read_fault_or_not result _ refl) [
      | inl e ↦ absurd (rose (fault e))
      | inr no_fault ↦ status_of_mode words mode other result left h k a b form its_form below_h sink (written no_fault)
    ]
  where
    rose : g ≡ count_up f → ⊥
    rose e = let up = count-up f below_f in omega (arith, up, e, source)
