-- A certificate whose cells have the facts of their tests has the verdict yes.
use Rattle.std.proofs.Common.{◌≡◌, ℕ, ◌+◌, Bool, true, false, not, cond, ◌&&◌, List, [], ◌∷◌, ◌++◌, length, ℤ, refl, ap, ap₂, ◌∙◌}
use Rattle.std.specs.List.{list_all}
use Rattle.std.specs.declared.option.Option.TheVariants.{None, Some}
use Rattle.f2_algebra.specs.Chain.{pairs_oddly}
use Rattle.f2_algebra.specs.Certificate.{CyclePair, StepPair}
use Rattle.f2_algebra.proofs.Certificates.Span.{Every}
use Rattle.f2_algebra.proofs.Certificates.Certificate.{every_append, every_weaker}
use Rattle.f2_algebra.proofs.Certificates.LogCertificate.{Pairwise}
use Rattle.torus_geom.specs.Marks.{Marks}
use Rattle.torus_geom.specs.Inner.CodeBorder.{border}
use Rattle.homology_cert.specs.CertificateCodes.{Cell, Certificate}
use Rattle.homology_cert.specs.Inner.CodeTests.{none_missing, verdict_of}
use Rattle.homology_cert.specs.Inner.Questions.{Question, cycle_pair_questions, cycle_questions, step_pair_questions, step_questions, cell_questions, all_questions, questions, first_failing, verdict_of_first}
use Rattle.homology_cert.specs.declared.verdicts.CertTest.{CertTest}
use Rattle.homology_cert.specs.declared.verdicts.CertVerdict.TheVariants.{Yes}
use Rattle.homology_cert.proofs.Certified.NumberLemmas.{verdict_of-questions}
use Rattle.homology_cert.proofs.Certified.PassingLemmas.{PassesCycle, PassesStep, PassesCell, ArePairedApart}

-- what each element passes, all pass
pub all_of_every : {X : Type 0} (p : X → Bool) (xs : List X) → Every (λ x. p x ≡ true) xs → list_all p xs ≡ true
all_of_every p [] h = refl
all_of_every p (x ∷ xs) h = ap₂ ◌&&◌ h.0 (all_of_every p xs h.1)

-- all questions are passed
abbrev Passed : List Question → Type 0
Passed qs = Every (λ (q : Question). q.passes ≡ true) qs

-- so none fails
none_fails : (qs : List Question) → Passed qs → first_failing qs ≡ None
none_fails [] h = refl
none_fails (q ∷ qs) h = ap (λ b. cond b (first_failing qs) (Some failure)) h.0 ∙ none_fails qs h.1
  where
    failure : ℕ × CertTest
    failure = (q.entry, q.test)

-- a cycle pairs evenly with the cocycle of the pair
abbrev IsEvenWith : CyclePair → CyclePair → Type 0
IsEvenWith p q = not (pairs_oddly q.cycle p.cocycle) ≡ true

module _ (g : Marks) (d : ℤ × ℤ) where
  -- the questions of a cycle pair
  cycle_pair_passed : (k : ℕ) (p : CyclePair) (others : List CyclePair) → PassesCycle g d p
      → Every (IsEvenWith p) others → Passed (cycle_pair_questions g d k p others)
  cycle_pair_passed k p others h even = (
    ap₂ ◌&&◌ h.cycle_degree h.cocycle_degree,
    (
      h.cycle,
      (
        h.cocycle,
        (
          ap₂ ◌&&◌ h.own (all_of_every (λ (q : CyclePair). not (pairs_oddly q.cycle p.cocycle)) others
              even),
          tt,
        ),
      ),
    ),
  )

  -- each pair, with those before it and after it
  cycles_passed : (k : ℕ) (earlier pairs : List CyclePair) → Every (PassesCycle g d) pairs
      → Pairwise ArePairedApart pairs
      → Every (λ (q : CyclePair). Every (λ (p : CyclePair). IsEvenWith p q) pairs) earlier
      → Passed (cycle_questions g d k earlier pairs)
  cycles_passed k earlier [] h apart before = tt
  cycles_passed k earlier (p ∷ later) h apart before =
      every_append _ (cycle_pair_questions g d k p (earlier ++ later))
      (cycle_questions g d (k + 1) (earlier ++ p ∷ []) later)
      (cycle_pair_passed k p (earlier ++ later) h.0
      (every_append (IsEvenWith p) earlier later
      (every_weaker (λ (q : CyclePair). Every (λ (r : CyclePair). IsEvenWith r q) (p ∷ later)) (IsEvenWith p) earlier
      (λ q all. all.0) before)
      (every_weaker (ArePairedApart p) (IsEvenWith p) later (λ q both. ap not both.1) apart.0)))
      (cycles_passed (k + 1) (earlier ++ p ∷ []) later h.1 apart.1
      (every_append (λ (q : CyclePair). Every (λ (r : CyclePair). IsEvenWith r q) later) earlier (p ∷ [])
      (every_weaker (λ (q : CyclePair). Every (λ (r : CyclePair). IsEvenWith r q) (p ∷ later))
      (λ (q : CyclePair). Every (λ (r : CyclePair). IsEvenWith r q) later) earlier (λ q all. all.1) before) (
        every_weaker (ArePairedApart p) (λ (r : CyclePair). IsEvenWith r p) later (λ r both. ap not both.0) apart.0,
        tt,
      )))

  -- the questions of step pairs
  steps_passed : (k : ℕ) (pairs : List StepPair) → Every (PassesStep g d) pairs
      → Pairwise (λ (p q : StepPair). pairs_oddly (border g q.step) p.probe ≡ false) pairs
      → Passed (step_questions g d k pairs)
  steps_passed k [] h apart = tt
  steps_passed k (p ∷ later) h apart =
      every_append _ (step_pair_questions g d k p later) (step_questions g d (k + 1) later) (
        ap₂ ◌&&◌ h.0.step_degree h.0.probe_degree,
        (
          ap₂ ◌&&◌ h.0.own (all_of_every (λ (q : StepPair). not (pairs_oddly (border g q.step) p.probe)) later
              (every_weaker (λ (q : StepPair). pairs_oddly (border g q.step) p.probe ≡ false)
              (λ (q : StepPair). not (pairs_oddly (border g q.step) p.probe) ≡ true) later (λ q even. ap not even)
              apart.0)),
          tt,
        ),
      )
      (steps_passed (k + 1) later h.1 apart.1)

module _ (c : Certificate) where
  -- the questions of cells
  cells_passed : (k : ℕ) (cells : List Cell) → Every (PassesCell c) cells → Passed (all_questions c k cells)
  cells_passed k [] h = tt
  cells_passed k (cell ∷ cells) h =
      let n = k + 1 + length cell.cycles in
      let m = k + (1 + length cell.cycles + length cell.steps) in
      every_append _ (cell_questions c k cell) (all_questions c m cells) (
        h.0.count,
        every_append _ (cycle_questions c.grid cell.at (k + 1) [] cell.cycles)
            (step_questions c.grid cell.at n cell.steps)
            (cycles_passed c.grid cell.at (k + 1) [] cell.cycles h.0.cycles h.0.cycles_apart tt)
            (steps_passed c.grid cell.at n cell.steps h.0.steps h.0.steps_apart),
      )
      (cells_passed m cells h.1)

  -- if each cell passes and none is missing, the verdict is yes
  pub yes_of_passes : Every (PassesCell c) c.cells → none_missing c ≡ true → verdict_of c ≡ Yes
  unfolding questions
  yes_of_passes cells missing =
      verdict_of-questions c
      ∙ ap verdict_of_first (none_fails (questions c) (every_append _ (all_questions c 1 c.cells) _
      (cells_passed 1 c.cells cells) (missing, tt)))
