-- What a certificate that passes shows, question by question: of each cell, of its cycle pairs and of its step pairs.
--
-- If no question fails, each is passed. So each cell has the facts of its tests, with what is asked of a pair and
-- the pairs before and after it as a fact of each two pairs.
use Rattle.std.proofs.Common.{◌≡◌, ℕ, ◌+◌, Bool, true, false, not, cond, List, [], ◌∷◌, ◌++◌, length, ℤ, refl, sym, ap, ◌∙◌, inl, inr}
use Rattle.std.specs.List.{list_all, Contains}
use Rattle.std.specs.declared.option.Option.{Option}
use Rattle.std.specs.declared.option.Option.TheVariants.{None, Some}
use Rattle.std.proofs.lemmas.Bool.{and_parts, not-true}
use Rattle.std.proofs.lemmas.List.Folds.{list_all-append}
use Rattle.f2_algebra.specs.Chain.{pairs_oddly}
use Rattle.f2_algebra.specs.Certificate.{CyclePair, StepPair}
use Rattle.f2_algebra.proofs.Certificates.Span.{Every}
use Rattle.f2_algebra.proofs.Certificates.Certificate.{every_weaker}
use Rattle.f2_algebra.proofs.Certificates.LogCertificate.{Pairwise, every_both}
use Rattle.state_rank.proofs.MemberLemmas.{member_cases, member_head, no_member}
use Rattle.std.proofs.lemmas.List.Elements.{Contains-append_left, Contains-append_right}
use Rattle.torus_geom.specs.Marks.{Marks}
use Rattle.torus_geom.specs.Inner.CodeBorder.{border}
use Rattle.homology_cert.specs.CertificateCodes.{Cell, Certificate}
use Rattle.homology_cert.specs.Inner.CodeTests.{all_have, count_passes, is_cocycle, is_empty_chain, none_missing, verdict_of}
use Rattle.homology_cert.specs.CertificateTests.{one_below}
use Rattle.homology_cert.specs.Inner.Questions.{Question, cycle_pair_questions, cycle_questions, step_pair_questions, step_questions, cell_questions, all_questions, questions, first_failing, verdict_of_first}
use Rattle.homology_cert.proofs.Certified.NumberLemmas.{verdict_of-questions}
use Rattle.homology_cert.specs.declared.verdicts.CertTest.{CertTest}
use Rattle.homology_cert.specs.declared.verdicts.CertVerdict.TheVariants.{Yes}

-- ---- lists of tests
-- what holds of all of two lists holds of all of each
pub every_parts : {X : Type 0} (P : X → Type 0) (xs ys : List X) → Every P (xs ++ ys) → Every P xs × Every P ys
every_parts P [] ys h = (tt, h)
every_parts P (x ∷ xs) ys h = let rest = every_parts P xs ys h.1 in ((h.0, rest.0), rest.1)

-- a test that all pass is passed by each
pub every_of_all : {X : Type 0} (p : X → Bool) (xs : List X) → list_all p xs ≡ true → Every (λ x. p x ≡ true) xs
every_of_all p [] h = tt
every_of_all p (x ∷ xs) h = let parts = and_parts (p x) (list_all p xs) h in (parts.0, every_of_all p xs parts.1)

-- and by each member
pub member_of_all : {X : Type 0} (p : X → Bool) (xs : List X) → list_all p xs ≡ true → (x : X) → Contains xs x
    → p x ≡ true
member_of_all p [] h x inside = absurd (no_member x inside)
member_of_all p (y ∷ xs) h x inside =
    let parts = and_parts (p y) (list_all p xs) h in
    elim (member_cases y xs x inside) [
      | inl e ↦ sym (ap p e) ∙ parts.0
      | inr later ↦ member_of_all p xs parts.1 x later
    ]

-- ---- questions
abbrev Passed : List Question → Type 0
Passed qs = Every (λ (q : Question). q.passes ≡ true) qs

passed-first : (qs : List Question) → first_failing qs ≡ None → Passed qs
passed-first [] h = tt
passed-first (q ∷ qs) h = by_pass q.passes refl (λ (k : first_failing qs ≡ None). passed-first qs k)
  where
    failure : ℕ × CertTest
    failure = (q.entry, q.test)

    by_pass : (b : Bool) → q.passes ≡ b → (first_failing qs ≡ None → Passed qs) → (q.passes ≡ true) × Passed qs
    by_pass true e later = (e, later (sym (ap (λ t. cond t (first_failing qs) (Some failure)) e) ∙ h))
    by_pass false e later = absurd (some_failure (sym (ap (λ t. cond t (first_failing qs) (Some failure)) e) ∙ h))
      where
        some_failure : Some failure ≡ None → ⊥
        some_failure f = cc f

-- ---- cycle pairs
pub record PassesCycle (g : Marks) (d : ℤ × ℤ) (p : CyclePair) : Type 0 where
  pub cycle_degree : all_have g d p.cycle ≡ true
  pub cocycle_degree : all_have g d p.cocycle ≡ true
  pub cycle : is_empty_chain (border g p.cycle) ≡ true
  pub cocycle : is_cocycle g p.cocycle ≡ true
  pub own : pairs_oddly p.cycle p.cocycle ≡ true

-- neither cocycle pairs oddly with the cycle of the other
abbrev pub ArePairedApart : CyclePair → CyclePair → Type 0
ArePairedApart p q = (pairs_oddly p.cycle q.cocycle ≡ false) × (pairs_oddly q.cycle p.cocycle ≡ false)

module _ (g : Marks) (d : ℤ × ℤ) where
  cycle_passes : (k : ℕ) (p : CyclePair) (others : List CyclePair) → Passed (cycle_pair_questions g d k p others)
      → PassesCycle g d p × (list_all (λ (q : CyclePair). not (pairs_oddly q.cycle p.cocycle)) others ≡ true)
  cycle_passes k p others (degree, (cycle, (cocycle, (pairing, _)))) =
      let degrees = and_parts (all_have g d p.cycle) (all_have g d p.cocycle) degree in
      let pairings =
      and_parts (pairs_oddly p.cycle p.cocycle)
      (list_all (λ (q : CyclePair). not (pairs_oddly q.cycle p.cocycle)) others) pairing in (
        record {
          cycle_degree = degrees.0;
          cocycle_degree = degrees.1;
          cycle = cycle;
          cocycle = cocycle;
          own = pairings.0;
        },
        pairings.1,
      )

  pub cycles_pass : (k : ℕ) (earlier pairs : List CyclePair) → Passed (cycle_questions g d k earlier pairs)
      → Every (PassesCycle g d) pairs
  cycles_pass k earlier [] h = tt
  cycles_pass k earlier (p ∷ later) h =
      let parts =
      every_parts _ (cycle_pair_questions g d k p (earlier ++ later))
      (cycle_questions g d (k + 1) (earlier ++ p ∷ []) later) h in
      ((cycle_passes k p (earlier ++ later) parts.0).0, cycles_pass (k + 1) (earlier ++ p ∷ []) later parts.1)

  -- a cocycle pairs evenly with each cycle before it
  even_before : (k : ℕ) (earlier pairs : List CyclePair) → Passed (cycle_questions g d k earlier pairs)
      → (x : CyclePair) → Contains earlier x
      → Every (λ (q : CyclePair). pairs_oddly x.cycle q.cocycle ≡ false) pairs
  even_before k earlier [] h x inside = tt
  even_before k earlier (p ∷ later) h x inside =
      let parts =
      every_parts _ (cycle_pair_questions g d k p (earlier ++ later))
      (cycle_questions g d (k + 1) (earlier ++ p ∷ []) later) h in
      let here =
      member_of_all (λ (q : CyclePair). not (pairs_oddly q.cycle p.cocycle)) (earlier ++ later)
      (cycle_passes k p (earlier ++ later) parts.0).1 x (Contains-append_left earlier later x inside) in (
        not-true (pairs_oddly x.cycle p.cocycle) here,
        even_before (k + 1) (earlier ++ p ∷ []) later parts.1 x (Contains-append_left earlier (p ∷ []) x inside),
      )

  pub cycles_apart : (k : ℕ) (earlier pairs : List CyclePair) → Passed (cycle_questions g d k earlier pairs)
      → Pairwise ArePairedApart pairs
  cycles_apart k earlier [] h = tt
  cycles_apart k earlier (p ∷ later) h =
      let parts =
      every_parts _ (cycle_pair_questions g d k p (earlier ++ later))
      (cycle_questions g d (k + 1) (earlier ++ p ∷ []) later) h in
      let evenly = (cycle_passes k p (earlier ++ later) parts.0).1 in
      let after =
      (and_parts (list_all (λ (q : CyclePair). not (pairs_oddly q.cycle p.cocycle)) earlier)
      (list_all (λ (q : CyclePair). not (pairs_oddly q.cycle p.cocycle)) later)
      (sym (list_all-append (λ (q : CyclePair). not (pairs_oddly q.cycle p.cocycle)) earlier later) ∙ evenly)).1 in
      let first =
      even_before (k + 1) (earlier ++ p ∷ []) later parts.1 p
      (Contains-append_right earlier (p ∷ []) p (member_head p [])) in (
        every_both (λ (q : CyclePair). pairs_oddly p.cycle q.cocycle ≡ false)
            (λ (q : CyclePair). not (pairs_oddly q.cycle p.cocycle) ≡ true) (ArePairedApart p) later
            (λ q a b. (a, not-true (pairs_oddly q.cycle p.cocycle) b)) first
            (every_of_all (λ (q : CyclePair). not (pairs_oddly q.cycle p.cocycle)) later after),
        cycles_apart (k + 1) (earlier ++ p ∷ []) later parts.1,
      )

-- ---- step pairs
pub record PassesStep (g : Marks) (d : ℤ × ℤ) (p : StepPair) : Type 0 where
  pub step_degree : all_have g d p.step ≡ true
  pub probe_degree : all_have g (one_below d) p.probe ≡ true
  pub own : pairs_oddly (border g p.step) p.probe ≡ true

module _ (g : Marks) (d : ℤ × ℤ) where
  step_passes : (k : ℕ) (p : StepPair) (later : List StepPair) → Passed (step_pair_questions g d k p later)
      → PassesStep g d p × (list_all (λ (q : StepPair). not (pairs_oddly (border g q.step) p.probe)) later ≡ true)
  step_passes k p later (degree, (probe, _)) =
      let degrees = and_parts (all_have g d p.step) (all_have g (one_below d) p.probe) degree in
      let pairings =
      and_parts (pairs_oddly (border g p.step) p.probe)
      (list_all (λ (q : StepPair). not (pairs_oddly (border g q.step) p.probe)) later) probe in
      (record { step_degree = degrees.0; probe_degree = degrees.1; own = pairings.0 }, pairings.1)

  pub steps_pass : (k : ℕ) (pairs : List StepPair) → Passed (step_questions g d k pairs) → Every (PassesStep g d) pairs
  steps_pass k [] h = tt
  steps_pass k (p ∷ later) h =
      let parts = every_parts _ (step_pair_questions g d k p later) (step_questions g d (k + 1) later) h in
      ((step_passes k p later parts.0).0, steps_pass (k + 1) later parts.1)

  pub steps_apart : (k : ℕ) (pairs : List StepPair) → Passed (step_questions g d k pairs)
      → Pairwise (λ (p q : StepPair). pairs_oddly (border g q.step) p.probe ≡ false) pairs
  steps_apart k [] h = tt
  steps_apart k (p ∷ later) h =
      let parts = every_parts _ (step_pair_questions g d k p later) (step_questions g d (k + 1) later) h in (
        every_weaker (λ (q : StepPair). not (pairs_oddly (border g q.step) p.probe) ≡ true)
            (λ (q : StepPair). pairs_oddly (border g q.step) p.probe ≡ false) later
            (λ q even. not-true (pairs_oddly (border g q.step) p.probe) even)
            (every_of_all (λ (q : StepPair). not (pairs_oddly (border g q.step) p.probe)) later
            (step_passes k p later parts.0).1),
        steps_apart (k + 1) later parts.1,
      )

-- ---- cells
pub record PassesCell (c : Certificate) (cell : Cell) : Type 0 where
  pub count : count_passes c cell ≡ true
  pub cycles : Every (PassesCycle c.grid cell.at) cell.cycles
  pub cycles_apart : Pairwise ArePairedApart cell.cycles
  pub steps : Every (PassesStep c.grid cell.at) cell.steps
  pub steps_apart : Pairwise (λ (p q : StepPair). pairs_oddly (border c.grid q.step) p.probe ≡ false) cell.steps

module _ (c : Certificate) where
  cell_passes : (k : ℕ) (cell : Cell) → Passed (cell_questions c k cell) → PassesCell c cell
  cell_passes k cell (count, rest) =
      let n = k + 1 + length cell.cycles in
      let parts =
      every_parts _ (cycle_questions c.grid cell.at (k + 1) [] cell.cycles)
      (step_questions c.grid cell.at n cell.steps) rest in
      record {
        count = count;
        cycles = cycles_pass c.grid cell.at (k + 1) [] cell.cycles parts.0;
        cycles_apart = cycles_apart c.grid cell.at (k + 1) [] cell.cycles parts.0;
        steps = steps_pass c.grid cell.at n cell.steps parts.1;
        steps_apart = steps_apart c.grid cell.at n cell.steps parts.1;
      }

  cells_pass : (k : ℕ) (cells : List Cell) → Passed (all_questions c k cells) → Every (PassesCell c) cells
  cells_pass k [] h = tt
  cells_pass k (cell ∷ cells) h =
      let n = k + (1 + length cell.cycles + length cell.steps) in
      let parts = every_parts _ (cell_questions c k cell) (all_questions c n cells) h in
      (cell_passes k cell parts.0, cells_pass n cells parts.1)

  yes-none : (f : Option (ℕ × CertTest)) → verdict_of_first f ≡ Yes → f ≡ None
  yes-none None h = refl
  yes-none (Some f) h = cc h

  -- a certificate with the verdict yes passes each of its tests
  pub passes_of_yes : verdict_of c ≡ Yes → Every (PassesCell c) c.cells × (none_missing c ≡ true)
  unfolding questions
  passes_of_yes told =
      let passed = passed-first (questions c)
      (yes-none (first_failing (questions c)) (sym (verdict_of-questions c) ∙ told)) in
      let parts = every_parts _ (all_questions c 1 c.cells) _ passed in
      (cells_pass 1 c.cells parts.0, parts.1.0)
