-- The tests of a certificate over codes, one by one those of its states.
--     has_bidegree g d s         the state of index s has the bidegree d
--     all_have g d z             so has each state of z
--     state_count_at g d         the number of states of this bidegree
--     count_passes c cell        there are as many states of the bidegree of the cell as its pairs ask for, and some
--     is_cocycle g f             f pairs evenly with the border of every state
--     is_empty_chain z           z has no state
--     none_missing c             each state has a cell of its bidegree
--     cycle_pair_tests, cycle_entries, step_pair_tests, step_entries, cell_entries, entries
--                                the tests and the entries of the parts of a certificate
--     verdict_of c               the verdict of a certificate
--     certified_rows cells       the table that the certificate claims
use Rattle.std.specs.Prelude.{ℕ, ◌+◌, Bool, not, ◌&&◌, ◌==◌, List, [], ◌∷◌, ◌++◌, length, ℤ, map}
use Rattle.std.specs.List.{filter, flat_map, list_all, list_any}
use Rattle.f2_algebra.specs.Chain.{Chain, codes, pairs_oddly}
use Rattle.f2_algebra.specs.Bigraded.{up_m}
use Rattle.f2_algebra.specs.Certificate.{CyclePair, StepPair, steps_at}
use Rattle.state_rank.specs.Bijection.{ascending}
use Rattle.state_rank.specs.States.{factorial, unrank}
use Rattle.torus_geom.specs.Counts.{all_below}
use Rattle.torus_geom.specs.Marks.{Marks, size}
use Rattle.torus_geom.specs.Degrees.{bidegree}
use Rattle.torus_geom.specs.Inner.CodeBorder.{border_of_state, border}
use Rattle.torus_geom.specs.Homology.{Row}
use Rattle.homology_cert.specs.declared.verdicts.CertTest.{CertTest}
use Rattle.homology_cert.specs.declared.verdicts.CertTest.TheVariants.{Count, Degree, Cycle, Cocycle, Pairing, Probe, Missing}
use Rattle.homology_cert.specs.declared.verdicts.CertVerdict.{CertVerdict}
use Rattle.homology_cert.specs.CertificateCodes.{Cell, Certificate}
use Rattle.homology_cert.specs.CertificateTests.{one_below, same_degree, verdict_from}

abbrev pub has_bidegree : Marks → ℤ × ℤ → ℕ → Bool
has_bidegree g d s = same_degree (bidegree g (unrank (size g) s)) d

abbrev pub all_have : Marks → ℤ × ℤ → Chain → Bool
all_have g d z = list_all (has_bidegree g d) (codes z)

abbrev pub state_count_at : Marks → ℤ × ℤ → ℕ
state_count_at g d = length (filter (has_bidegree g d) (ascending (factorial (size g))))

abbrev pub count_passes : Certificate → Cell → Bool
count_passes c cell =
    not (state_count_at c.grid cell.at == 0)
    && (state_count_at c.grid cell.at == length cell.cycles + length cell.steps
    + length (steps_at same_degree c.cells (up_m cell.at)))

abbrev pub is_cocycle : Marks → Chain → Bool
is_cocycle g f = all_below (factorial (size g)) (λ s. not (pairs_oddly (border_of_state g (unrank (size g) s)) f))

abbrev pub is_empty_chain : Chain → Bool
is_empty_chain z = length (codes z) == 0

-- a cocycle pairs oddly with its own cycle, and evenly with the cycle of every other pair of the cell
abbrev pub cycle_pair_tests : Marks → ℤ × ℤ → CyclePair → List CyclePair → List (CertTest × Bool)
cycle_pair_tests g d p others =
    (Degree, all_have g d p.cycle && all_have g d p.cocycle)
    ∷ (Cycle, is_empty_chain (border g p.cycle))
    ∷ (Cocycle, is_cocycle g p.cocycle)
    ∷ (
      Pairing,
      pairs_oddly p.cycle p.cocycle
          && list_all (λ (q : CyclePair). not (pairs_oddly q.cycle p.cocycle)) others,
    )
    ∷ []

abbrev pub cycle_entries : Marks → ℤ × ℤ → List CyclePair → List CyclePair → List (List (CertTest × Bool))
cycle_entries g d earlier [] = []
cycle_entries g d earlier (p ∷ later) =
    cycle_pair_tests g d p (earlier ++ later) ∷ cycle_entries g d (earlier ++ p ∷ []) later

-- a step is of the bidegree of the cell, and its probe one Maslov degree below; a probe pairs oddly with the border of
-- its own step, and evenly with that of each later step of the cell
abbrev pub step_pair_tests : Marks → ℤ × ℤ → StepPair → List StepPair → List (CertTest × Bool)
step_pair_tests g d p later =
    (Degree, all_have g d p.step && all_have g (one_below d) p.probe)
    ∷ (
      Probe,
      pairs_oddly (border g p.step) p.probe
          && list_all (λ (q : StepPair). not (pairs_oddly (border g q.step) p.probe)) later,
    )
    ∷ []

abbrev pub step_entries : Marks → ℤ × ℤ → List StepPair → List (List (CertTest × Bool))
step_entries g d [] = []
step_entries g d (p ∷ later) = step_pair_tests g d p later ∷ step_entries g d later

abbrev pub cell_entries : Certificate → Cell → List (List (CertTest × Bool))
cell_entries c cell =
    ((Count, count_passes c cell) ∷ [])
    ∷ cycle_entries c.grid cell.at [] cell.cycles ++ step_entries c.grid cell.at cell.steps

-- each degree of a state has a cell
abbrev pub none_missing : Certificate → Bool
none_missing c =
    all_below (factorial (size c.grid)) (λ s. list_any (λ (cell : Cell). has_bidegree c.grid cell.at s) c.cells)

unfoldable pub entries : Certificate → List (List (CertTest × Bool))
entries c = flat_map (cell_entries c) c.cells ++ ((Missing, none_missing c) ∷ []) ∷ []

abbrev pub verdict_of : Certificate → CertVerdict
verdict_of c = verdict_from 1 (entries c)

abbrev pub certified_rows : List Cell → List Row
certified_rows cells =
    map (λ (cell : Cell). (cell.at.0, cell.at.1, length cell.cycles))
    (filter (λ (cell : Cell). not (length cell.cycles == 0)) cells)
