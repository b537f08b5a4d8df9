-- The verdict of a certificate, by the tests of all its entries one after another, each with the number of its entry.
use Rattle.std.proofs.Common.{◌≡◌, ℕ, ◌+◌, Bool, true, false, cond, List, [], ◌∷◌, ◌++◌, length, ℤ, refl, sym, ap, ◌∙◌, arith, append_assoc, length-append}
use Rattle.std.specs.List.{flat_map}
use Rattle.std.specs.Option.{option_map_or}
use Rattle.std.specs.declared.option.Option.{Option}
use Rattle.std.specs.declared.option.Option.TheVariants.{None, Some}
use Rattle.std.proofs.lemmas.List.Sums.{sum_by-cons}
use Rattle.f2_algebra.specs.Certificate.{CyclePair, StepPair}
use Rattle.torus_geom.specs.Marks.{Marks}
use Rattle.homology_cert.specs.CertificateCodes.{Cell, Certificate}
use Rattle.homology_cert.specs.Inner.CodeCertificates.{entry_count}
use Rattle.homology_cert.specs.Inner.CodeTests.{count_passes, cycle_entries, step_entries, cell_entries, none_missing, entries, verdict_of}
use Rattle.homology_cert.specs.CertificateTests.{first_failed, verdict_from}
use Rattle.homology_cert.specs.Inner.Questions.{Question, numbered, all_numbered, cell_questions, all_questions, questions, first_failing, verdict_of_first, at_entry}
use Rattle.homology_cert.specs.declared.verdicts.CertTest.{CertTest}
use Rattle.homology_cert.specs.declared.verdicts.CertTest.TheVariants.{Count, Missing}
use Rattle.homology_cert.specs.declared.verdicts.CertVerdict.TheVariants.{No}

-- ---- the first question that is not passed
abbrev pub or_later : {A : Type 0} → Option A → Option A → Option A
or_later None later = later
or_later (Some a) later = Some a

pub first_failing-append : (qs rs : List Question)
    → first_failing (qs ++ rs) ≡ or_later (first_failing qs) (first_failing rs)
first_failing-append [] rs = refl
first_failing-append (q ∷ qs) rs = by_pass q.passes (first_failing-append qs rs)
  where
    by_pass : (b : Bool) → first_failing (qs ++ rs) ≡ or_later (first_failing qs) (first_failing rs)
        → cond b (first_failing (qs ++ rs)) (Some (q.entry, q.test))
        ≡ or_later (cond b (first_failing qs) (Some (q.entry, q.test))) (first_failing rs)
    by_pass true h = h
    by_pass false h = refl

-- ---- one entry after another
first_failing-numbered : (k : ℕ) (tests : List (CertTest × Bool))
    → first_failing (numbered k tests) ≡ at_entry k (first_failed tests)
first_failing-numbered k [] = refl
first_failing-numbered k (t ∷ tests) = by_pass t.1 (first_failing-numbered k tests)
  where
    by_pass : (b : Bool) → first_failing (numbered k tests) ≡ at_entry k (first_failed tests)
        → cond b (first_failing (numbered k tests)) (Some (k, t.0))
        ≡ at_entry k (cond b (first_failed tests) (Some t.0))
    by_pass true h = h
    by_pass false h = refl

verdict_from-numbered : (k : ℕ) (all : List (List (CertTest × Bool)))
    → verdict_from k all ≡ verdict_of_first (first_failing (all_numbered k all))
verdict_from-numbered k [] = refl
verdict_from-numbered k (tests ∷ later) =
    by_first (first_failed tests) (verdict_from-numbered (k + 1) later)
    ∙ sym (ap verdict_of_first (first_failing-append (numbered k tests) (all_numbered (k + 1) later)
    ∙ ap (λ f. or_later f (first_failing (all_numbered (k + 1) later))) (first_failing-numbered k tests)))
  where
    by_first : (f : Option CertTest)
        → verdict_from (k + 1) later ≡ verdict_of_first (first_failing (all_numbered (k + 1) later))
        → option_map_or (No k) f (verdict_from (k + 1) later)
        ≡ verdict_of_first (or_later (at_entry k f) (first_failing (all_numbered (k + 1) later)))
    by_first None h = h
    by_first (Some test) h = refl

-- the entries after others have the later numbers
all_numbered-append : (k : ℕ) (es fs : List (List (CertTest × Bool)))
    → all_numbered k (es ++ fs) ≡ all_numbered k es ++ all_numbered (k + length es) fs
all_numbered-append k [] fs = let e : k ≡ k + 0 = omega arith in ap (λ n. all_numbered n fs) e
all_numbered-append k (tests ∷ es) fs =
    let more : k + 1 + length es ≡ k + length (tests ∷ es) = omega arith in
    ap (λ r. numbered k tests ++ r) (all_numbered-append (k + 1) es fs
    ∙ ap (λ n. all_numbered (k + 1) es ++ all_numbered n fs) more)
    ∙ sym (append_assoc (numbered k tests) (all_numbered (k + 1) es) (all_numbered (k + length (tests ∷ es)) fs))

-- ---- how many entries there are
length-cycle_entries : (g : Marks) (d : ℤ × ℤ) (earlier pairs : List CyclePair)
    → length (cycle_entries g d earlier pairs) ≡ length pairs
length-cycle_entries g d earlier [] = refl
length-cycle_entries g d earlier (p ∷ later) =
    let rest = length-cycle_entries g d (earlier ++ p ∷ []) later in omega arith

length-step_entries : (g : Marks) (d : ℤ × ℤ) (pairs : List StepPair) → length (step_entries g d pairs) ≡ length pairs
length-step_entries g d [] = refl
length-step_entries g d (p ∷ later) = let rest = length-step_entries g d later in omega arith

module _ (c : Certificate) where
  length-cell_entries : (cell : Cell)
      → length (cell_entries c cell) ≡ 1 + length cell.cycles + length cell.steps
  length-cell_entries cell =
      omega (
        arith,
        length-append (cycle_entries c.grid cell.at [] cell.cycles) (step_entries c.grid cell.at cell.steps),
        length-cycle_entries c.grid cell.at [] cell.cycles,
        length-step_entries c.grid cell.at cell.steps,
      )

  length-entries : (cells : List Cell) → length (flat_map (cell_entries c) cells) ≡ entry_count cells
  length-entries [] = refl
  length-entries (cell ∷ cells) =
      let here = length-cell_entries cell in
      let rest = length-entries cells in
      length-append (cell_entries c cell) (flat_map (cell_entries c) cells)
      ∙ (λ i. here i + rest i)
      ∙ sym (sum_by-cons (λ (d : Cell). 1 + length d.cycles + length d.steps) cell cells)

  -- ---- the questions of cells
  all_numbered-cell : (k : ℕ) (cell : Cell) → all_numbered k (cell_entries c cell) ≡ cell_questions c k cell
  all_numbered-cell k cell =
      ap (λ (r : List Question). numbered k ((Count, count_passes c cell) ∷ []) ++ r)
      (all_numbered-append (k + 1) (cycle_entries c.grid cell.at [] cell.cycles)
      (step_entries c.grid cell.at cell.steps)
      ∙ ap (λ n. all_numbered (k + 1) (cycle_entries c.grid cell.at [] cell.cycles)
      ++ all_numbered (k + 1 + n) (step_entries c.grid cell.at cell.steps))
      (length-cycle_entries c.grid cell.at [] cell.cycles))

  all_numbered-cells : (k : ℕ) (cells : List Cell)
      → all_numbered k (flat_map (cell_entries c) cells) ≡ all_questions c k cells
  all_numbered-cells k [] = refl
  all_numbered-cells k (cell ∷ cells) =
      all_numbered-append k (cell_entries c cell) (flat_map (cell_entries c) cells)
      ∙ (λ i. all_numbered-cell k cell i
      ++ all_numbered (k + length-cell_entries cell i) (flat_map (cell_entries c) cells))
      ∙ ap (λ r. cell_questions c k cell ++ r)
      (all_numbered-cells (k + (1 + length cell.cycles + length cell.steps)) cells)

  all_numbered-entries : all_numbered 1 (entries c) ≡ questions c
  unfolding entries questions
  all_numbered-entries =
      let last : 1 + length (flat_map (cell_entries c) c.cells) ≡ entry_count c.cells + 1 =
      omega (arith, length-entries c.cells) in
      all_numbered-append 1 (flat_map (cell_entries c) c.cells) (((Missing, none_missing c) ∷ []) ∷ [])
      ∙ (λ i. all_numbered-cells 1 c.cells i ++ all_numbered (last i) (((Missing, none_missing c) ∷ []) ∷ []))

  -- the verdict is that of the first question that is not passed
  pub verdict_of-questions : verdict_of c ≡ verdict_of_first (first_failing (questions c))
  verdict_of-questions =
      verdict_from-numbered 1 (entries c) ∙ ap (λ qs. verdict_of_first (first_failing qs)) all_numbered-entries
