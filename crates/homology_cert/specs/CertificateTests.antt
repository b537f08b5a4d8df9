-- The tests of a certificate, and its verdict. The entries of a certificate are its cells, each followed by its cycle
-- pairs and its step pairs; they are numbered from 1, and each has its tests, in order. No rank is computed and nothing
-- is cancelled: the tests ask for degrees, borders, pairings and numbers.
--     same_degree d e            the bidegrees are equal
--     one_below d                the bidegree with a Maslov degree one lower
--     has_bidegree g d x         the state x has the bidegree d
--     all_have g d z             so has each state of z
--     state_count_at g d         the number of states of this bidegree
--     steps_at cells d           the step pairs of the cell of this bidegree, if there is one
--     count_passes c cell        there are states of the bidegree of the cell, as many as its cycle pairs, its step
--                                pairs and the step pairs of the cell one Maslov degree above together
--     is_cocycle g f             f pairs evenly with the border of every state
--     none_missing c             each state has a cell of its bidegree
--
-- Tests, each with whether it is passed; an entry is the list of its tests:
--     cycle_pair_tests g d p others   those of a cycle pair p of a cell of bidegree d with these other cycle pairs
--     cycle_entries g d earlier pairs   the entries of these cycle pairs, where `earlier` are those before them
--     step_pair_tests g d p later   those of a step pair p of a cell of bidegree d with these later step pairs
--     step_entries g d pairs     the entries of these step pairs
--     cell_entries c cell        the entry of a cell, with its one test, and those of its pairs
--     entries c                  all entries of a certificate, and one more, which asks for the missing cells
--
--     first_failed tests         the first test that is not passed
--     verdict_from k entries     no, with the first entry that has such a test and the test, or yes; the entries are
--                                numbered from k on
--     verdict_of c               the verdict of a certificate
--     certified_rows cells       the table that the certificate claims: the bidegree of each cell with cycle pairs, and
--                                the number of these
use Rattle.std.specs.Prelude.{ℕ, ◌+◌, Bool, not, ◌&&◌, ◌==◌, List, [], ◌∷◌, ◌++◌, length, ℤ, pos, ◌-ℤ◌, map, if◌then◌else◌}
use Rattle.std.specs.List.{filter, flat_map, list_all, list_any}
use Rattle.std.specs.Option.{option_map_or}
use Rattle.std.specs.Ordering.{int_eq}
use Rattle.std.specs.declared.option.Option.{Option}
use Rattle.std.specs.declared.option.Option.TheVariants.{None, Some}
use Rattle.f2_algebra.specs.Bigraded.{up_m}
use Rattle.state_rank.specs.States.{states}
use Rattle.torus_geom.specs.Border.{border}
use Rattle.torus_geom.specs.Chains.{Chain, members, pairs_oddly, single}
use Rattle.torus_geom.specs.Degrees.{bidegree}
use Rattle.torus_geom.specs.Homology.{Row}
use Rattle.torus_geom.specs.Marks.{Marks, size}
use Rattle.homology_cert.specs.Certificates.{Cell, Certificate, CyclePair, StepPair}
use Rattle.homology_cert.specs.declared.verdicts.CertTest.{CertTest}
use Rattle.homology_cert.specs.declared.verdicts.CertTest.TheVariants.{Count, Degree, Cycle, Cocycle, Pairing, Probe, Missing}
use Rattle.homology_cert.specs.declared.verdicts.CertVerdict.{CertVerdict}
use Rattle.homology_cert.specs.declared.verdicts.CertVerdict.TheVariants.{Yes, No}

abbrev pub same_degree : ℤ × ℤ → ℤ × ℤ → Bool
same_degree d e = int_eq d.0 e.0 && int_eq d.1 e.1

abbrev pub one_below : ℤ × ℤ → ℤ × ℤ
one_below d = (d.0 -ℤ pos 1, d.1)

abbrev pub has_bidegree : Marks → ℤ × ℤ → List ℕ → Bool
has_bidegree g d x = same_degree (bidegree g x) d

abbrev pub all_have : Marks → ℤ × ℤ → Chain → Bool
all_have g d z = list_all (has_bidegree g d) (members (size g) z)

abbrev pub state_count_at : Marks → ℤ × ℤ → ℕ
state_count_at g d = length (filter (has_bidegree g d) (states (size g)))

abbrev pub steps_at : List Cell → ℤ × ℤ → List StepPair
steps_at [] d = []
steps_at (c ∷ cells) d = if same_degree c.at d then c.steps else steps_at cells d

abbrev pub count_passes : Certificate → Cell → Bool
count_passes c cell = not (state_count_at c.grid cell.at == 0) && (state_count_at c.grid cell.at
    == length cell.cycles + length cell.steps + length (steps_at c.cells (up_m cell.at)))

abbrev pub is_cocycle : Marks → Chain → Bool
is_cocycle g f = list_all (λ x. not (pairs_oddly (size g) (border g (single x)) f)) (states (size g))

-- a cocycle pairs oddly with its own cycle, and evenly with the cycle of every other pair of the cell
abbrev pub cycle_pair_tests : Marks → ℤ × ℤ → CyclePair → List CyclePair → List (CertTest × Bool)
cycle_pair_tests g d p others =
    (Degree, all_have g d p.cycle && all_have g d p.cocycle)
    ∷ (Cycle, length (members (size g) (border g p.cycle)) == 0) ∷ (Cocycle, is_cocycle g p.cocycle)
    ∷ (
      Pairing,
      pairs_oddly (size g) p.cycle p.cocycle
          && list_all (λ (q : CyclePair). not (pairs_oddly (size g) q.cycle p.cocycle)) others,
    )
    ∷ []

abbrev pub cycle_entries : Marks → ℤ × ℤ → List CyclePair → List CyclePair → List (List (CertTest × Bool))
cycle_entries g d earlier [] = []
cycle_entries g d past (p ∷ later) = cycle_pair_tests g d p (past ++ later) ∷ cycle_entries g d (past ++ p ∷ []) later

-- a step is of the bidegree of the cell, and its probe one Maslov degree below; a probe pairs oddly with the border of
-- its own step, and evenly with that of each later step of the cell
abbrev pub step_pair_tests : Marks → ℤ × ℤ → StepPair → List StepPair → List (CertTest × Bool)
step_pair_tests g d p later =
    (Degree, all_have g d p.step && all_have g (one_below d) p.probe) ∷ (
      Probe,
      pairs_oddly (size g) (border g p.step) p.probe
          && list_all (λ (q : StepPair). not (pairs_oddly (size g) (border g q.step) p.probe)) later,
    ) ∷ []

abbrev pub step_entries : Marks → ℤ × ℤ → List StepPair → List (List (CertTest × Bool))
step_entries g d [] = []
step_entries g d (p ∷ later) = step_pair_tests g d p later ∷ step_entries g d later

abbrev pub cell_entries : Certificate → Cell → List (List (CertTest × Bool))
cell_entries c cell = ((Count, count_passes c cell) ∷ [])
    ∷ cycle_entries c.grid cell.at [] cell.cycles ++ step_entries c.grid cell.at cell.steps

-- each degree of a state has a cell
abbrev pub none_missing : Certificate → Bool
none_missing c = list_all (λ x. list_any (λ (p : Cell). has_bidegree c.grid p.at x) c.cells) (states (size c.grid))

unfoldable pub entries : Certificate → List (List (CertTest × Bool))
entries c = flat_map (cell_entries c) c.cells ++ ((Missing, none_missing c) ∷ []) ∷ []

abbrev pub first_failed : List (CertTest × Bool) → Option CertTest
first_failed [] = None
first_failed (test ∷ tests) = if test.1 then first_failed tests else Some test.0

abbrev pub verdict_from : ℕ → List (List (CertTest × Bool)) → CertVerdict
verdict_from k [] = Yes
verdict_from k (tests ∷ later) = option_map_or (No k) (first_failed tests) (verdict_from (k + 1) later)

abbrev pub verdict_of : Certificate → CertVerdict
verdict_of c = verdict_from 1 (entries c)

abbrev pub certified_rows : List Cell → List Row
certified_rows cells =
    map (λ (cell : Cell). (cell.at.0, cell.at.1, length cell.cycles))
    (filter (λ (cell : Cell). not (length cell.cycles == 0)) cells)
