-- The answer to a pair of documents, or its refusal, was written.
use Rattle.std.proofs.Common.{◌≡◌, ℕ, ◌≤◌, List, Option, length, refl, sym, ap, subst, ◌∙◌, inr}
use Rattle.torus_geom.specs.Marks.{Marks, IsGrid}
use Rattle.grid_text.specs.Limits.{max_text}
use Rattle.grid_text.specs.Pairs.{IsPair, PairFault, pair_fault_word, IsFirstPairFault}
use Rattle.grid_text.specs.Script.{GridScript, grid_in_force}
use Rattle.report_text.specs.Lines.{refused_line}
use Rattle.grid_job.specs.Compared.{IsComparison}
use Rattle.grid_job.specs.Outcome.{IsOutcome}
use Rattle.grid_job.specs.Inner.Written.{HasWritten}
use Rattle.grid_job.specs.declared.modes.Mode.TheVariants.{Compare}
use Rattle.grid_job.specs.declared.statuses.Status.{Status}
use Rattle.grid_job.specs.declared.statuses.Status.TheVariants.{Done, Refused, NoMemory}
use Rattle.grid_job.proofs.Compared.FactLemmas.{exists_comparison}
use Rattle.grid_job.proofs.Outcomes.WrittenLemmas.{HasWritten-weaker, HasWritten-nothing}

-- the grids in force at the ends of the two documents
pub HasWritten-compared : (text : List ℕ) (s t : GridScript) (result : Status) (f g : ℕ) (a b : Option (List ℕ))
    → length text ≤ max_text → IsPair text s t
    → HasWritten (λ status answer. (status ≡ Done) × IsComparison (grid_in_force s) (grid_in_force t) answer)
    result f g a b
    → HasWritten (IsOutcome Compare text) result f g a b
HasWritten-compared text s t result f g a b within pair h =
    HasWritten-weaker (λ status answer. (status ≡ Done) × IsComparison (grid_in_force s) (grid_in_force t) answer)
    (IsOutcome Compare text) result f g a b
    (λ status answer told. subst (λ r. IsOutcome Compare text r answer) (sym told.0)
    (record { within = within; first = s; second = t; pair = pair; compared = told.1 })) h

-- what the text is refused for
pub HasWritten-pair_fault : (text word : List ℕ) (fault : PairFault) (line : ℕ) (result : Status) (f g : ℕ)
    (a b : Option (List ℕ)) → length text ≤ max_text → IsFirstPairFault text fault line → word ≡ pair_fault_word fault
    → HasWritten (λ status answer. (status ≡ Refused) × (answer ≡ refused_line word line)) result f g a b
    → HasWritten (IsOutcome Compare text) result f g a b
HasWritten-pair_fault text word fault line result f g a b within first same h =
    HasWritten-weaker (λ status answer. (status ≡ Refused) × (answer ≡ refused_line word line)) (IsOutcome Compare text)
    result f g a b
    (λ status answer told. subst (λ r. IsOutcome Compare text r answer) (sym told.0) (inr (record {
      within = within;
      fault = fault;
      number = line;
      first = first;
      told = told.1 ∙ ap (λ w. refused_line w line) same;
    }))) h

-- out of memory before it was written
pub HasWritten-no_comparison : (g h : Marks) (f : ℕ) (a : Option (List ℕ)) → IsGrid g → IsGrid h
    → HasWritten (λ status answer. (status ≡ Done) × IsComparison g h answer) NoMemory f f a a
HasWritten-no_comparison g h f a of_g of_h =
    let (text, compared) = exists_comparison g h of_g of_h in
    HasWritten-nothing (λ status answer. (status ≡ Done) × IsComparison g h answer) f a Done text (refl, compared)
