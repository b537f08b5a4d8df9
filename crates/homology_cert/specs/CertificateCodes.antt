-- The certificate that the code keeps: its chains are sets of codes.
--     Cell                  a bidegree (Maslov degree, Alexander degree), its cycle pairs and its step pairs
--     Certificate           a grid and its cells
--     cycle_pair_code, step_pair_code, cell_code, certificate_code   how the values of these are told apart
--     cycle_pair_of n p, step_pair_of n p, cell_of n c, certificate_of c
--                           the same with the states, of size n, that the codes stand for
use Rattle.std.specs.Prelude.{ℕ, ℤ, List, refl, map}
use Rattle.std.specs.Coded.{Coded, code_by, coded×, coded_list, coded_ℕ, coded_ℤ}
use Rattle.std.specs.FinSet as finite_set
use Rattle.f2_algebra.specs.Chain.{Chain}
use Rattle.f2_algebra.specs.Certificate.{CyclePair, StepPair, CertCell}
use Rattle.torus_geom.specs.Marks.{Marks, size}
use Rattle.torus_geom.specs.Codes.{states_of}
use Rattle.homology_cert.specs.Certificates as states

abbrev pub Cell : Type 0
Cell = CertCell (ℤ × ℤ)

pub record Certificate : Type 0 where
  pub grid : Marks
  pub cells : List Cell

-- ---- how values are told apart
abbrev pub cycle_pair_code : Coded CyclePair
cycle_pair_code =
    code_by (Chain × Chain) (coded× (finite_set.code coded_ℕ) (finite_set.code coded_ℕ))
    (λ p. (p.cycle, p.cocycle)) (λ t. record { cycle = t.0; cocycle = t.1 }) (λ _. refl)

abbrev pub step_pair_code : Coded StepPair
step_pair_code =
    code_by (Chain × Chain) (coded× (finite_set.code coded_ℕ) (finite_set.code coded_ℕ))
    (λ p. (p.step, p.probe)) (λ t. record { step = t.0; probe = t.1 }) (λ _. refl)

abbrev pub cell_code : Coded Cell
cell_code =
    code_by ((ℤ × ℤ) × (List CyclePair × List StepPair))
    (coded× (coded× coded_ℤ coded_ℤ) (coded× (coded_list cycle_pair_code) (coded_list step_pair_code)))
    (λ c. (c.at, (c.cycles, c.steps))) (λ t. record { at = t.0; cycles = t.1.0; steps = t.1.1 }) (λ _. refl)

abbrev pub certificate_code : Coded Certificate
certificate_code =
    code_by (List ℕ × (List ℕ × List Cell))
    (coded× (coded_list coded_ℕ) (coded× (coded_list coded_ℕ) (coded_list cell_code)))
    (λ c. (c.grid.o, (c.grid.x, c.cells))) (λ t. record { grid = record { o = t.0; x = t.1.0 }; cells = t.1.1 })
    (λ _. refl)

-- ---- in states
abbrev pub cycle_pair_of : ℕ → CyclePair → states.CyclePair
cycle_pair_of n p = record { cycle = states_of n p.cycle; cocycle = states_of n p.cocycle }

abbrev pub step_pair_of : ℕ → StepPair → states.StepPair
step_pair_of n p = record { step = states_of n p.step; probe = states_of n p.probe }

abbrev pub cell_of : ℕ → Cell → states.Cell
cell_of n c = record { at = c.at; cycles = map (cycle_pair_of n) c.cycles; steps = map (step_pair_of n) c.steps }

abbrev pub certificate_of : Certificate → states.Certificate
certificate_of c = record { grid = c.grid; cells = map (cell_of (size c.grid)) c.cells }
