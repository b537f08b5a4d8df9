-- The tests of a certificate as the check asks them, one after another, each with the number of its entry.
--     Question                   the number of an entry, a test, and whether the entry passes it
--     numbered k tests           the tests of the entry with the number k
--     all_numbered k entries     those of these entries, of which the first has the number k
--     cycle_pair_questions, cycle_questions, step_pair_questions, step_questions
--                                the tests of a cycle pair, of cycle pairs, of a step pair, of step pairs
--     cell_questions c k cell    those of a cell with the number k and of its pairs
--     all_questions c k cells    those of these cells
--     questions c                all tests of a certificate
--     first_failing questions    the entry and the test of the first that is not passed
--     verdict_of_first f         yes, or no with these
--     at_entry k failure         a test that the entry with the number k fails, if there is one
use Rattle.std.specs.Prelude.{ℕ, ◌+◌, Bool, cond, List, [], ◌∷◌, ◌++◌, length, map, ℤ}
use Rattle.std.specs.declared.option.Option.{Option}
use Rattle.std.specs.declared.option.Option.TheVariants.{None, Some}
use Rattle.f2_algebra.specs.Certificate.{CyclePair, StepPair}
use Rattle.torus_geom.specs.Marks.{Marks}
use Rattle.homology_cert.specs.CertificateCodes.{Cell, Certificate}
use Rattle.homology_cert.specs.Inner.CodeCertificates.{entry_count}
use Rattle.homology_cert.specs.Inner.CodeTests.{cycle_pair_tests, cycle_entries, step_pair_tests, step_entries, count_passes, none_missing}
use Rattle.homology_cert.specs.declared.verdicts.CertTest.{CertTest}
use Rattle.homology_cert.specs.declared.verdicts.CertTest.TheVariants.{Count, Missing}
use Rattle.homology_cert.specs.declared.verdicts.CertVerdict.{CertVerdict}
use Rattle.homology_cert.specs.declared.verdicts.CertVerdict.TheVariants.{Yes, No}

pub record Question : Type 0 where
  pub entry : ℕ
  pub test : CertTest
  pub passes : Bool

abbrev pub numbered : ℕ → List (CertTest × Bool) → List Question
numbered k tests = map (λ (t : CertTest × Bool). record { entry = k; test = t.0; passes = t.1 }) tests

abbrev pub all_numbered : ℕ → List (List (CertTest × Bool)) → List Question
all_numbered k [] = []
all_numbered k (tests ∷ later) = numbered k tests ++ all_numbered (k + 1) later

abbrev pub cycle_pair_questions : Marks → ℤ × ℤ → ℕ → CyclePair → List CyclePair → List Question
cycle_pair_questions g d k p others = numbered k (cycle_pair_tests g d p others)

abbrev pub cycle_questions : Marks → ℤ × ℤ → ℕ → List CyclePair → List CyclePair → List Question
cycle_questions g d k earlier pairs = all_numbered k (cycle_entries g d earlier pairs)

abbrev pub step_pair_questions : Marks → ℤ × ℤ → ℕ → StepPair → List StepPair → List Question
step_pair_questions g d k p later = numbered k (step_pair_tests g d p later)

abbrev pub step_questions : Marks → ℤ × ℤ → ℕ → List StepPair → List Question
step_questions g d k pairs = all_numbered k (step_entries g d pairs)

abbrev pub cell_questions : Certificate → ℕ → Cell → List Question
cell_questions c k cell =
    record { entry = k; test = Count; passes = count_passes c cell }
    ∷ cycle_questions c.grid cell.at (k + 1) [] cell.cycles
    ++ step_questions c.grid cell.at (k + 1 + length cell.cycles) cell.steps

abbrev pub all_questions : Certificate → ℕ → List Cell → List Question
all_questions c k [] = []
all_questions c k (cell ∷ cells) =
    cell_questions c k cell ++ all_questions c (k + (1 + length cell.cycles + length cell.steps)) cells

unfoldable pub questions : Certificate → List Question
questions c =
    all_questions c 1 c.cells ++ record
    { entry = entry_count c.cells + 1; test = Missing; passes = none_missing c } ∷ []

abbrev pub first_failing : List Question → Option (ℕ × CertTest)
first_failing [] = None
first_failing (q ∷ qs) = cond q.passes (first_failing qs) (Some (q.entry, q.test))

abbrev pub verdict_of_first : Option (ℕ × CertTest) → CertVerdict
verdict_of_first None = Yes
verdict_of_first (Some f) = No f.0 f.1

abbrev pub at_entry : ℕ → Option CertTest → Option (ℕ × CertTest)
at_entry k None = None
at_entry k (Some test) = Some (k, test)
