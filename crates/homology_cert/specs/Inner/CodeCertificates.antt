-- Certificates over codes.
--     AreStates g z         the codes of z are indices of states of the grid
--     HasCycleStates g p, HasStepStates g p, HasPairStates g c
--                           so are those of both sets of a cycle pair, of a step pair, and of all pairs of a cell
--     entry_count cells     the number of entries: the cells, the cycle pairs and the step pairs
--     IsCertificate c       the grid is one of size at most six; the cells stand in order, no bidegree twice, with
--                           small degrees and with sets of indices; there are fewer than 2^32 - 1 entries
use Rattle.std.specs.Prelude.{ℕ, ◌+◌, ◌-◌, ◌^◌, ◌<◌, ◌≤◌, List, length, IsTrue}
use Rattle.std.specs.List.{All, AllPairs, sum_by}
use Rattle.f2_algebra.specs.Bigraded.{stands_before}
use Rattle.f2_algebra.specs.Chain.{Chain}
use Rattle.f2_algebra.specs.Certificate.{CyclePair, StepPair}
use Rattle.torus_geom.specs.Marks.{Marks, size, IsGrid}
use Rattle.homology_cert.specs.CertificateLimits.{max_certified_size}
use Rattle.torus_geom.specs.Codes.{HasIndices}
use Rattle.homology_cert.specs.CertificateCodes.{Cell, Certificate}
use Rattle.homology_cert.specs.Certificates.{AreSmallDegrees}

abbrev pub AreStates : Marks → Chain → Type 0
AreStates g z = HasIndices (size g) z

pub record HasCycleStates (g : Marks) (p : CyclePair) : Type 0 where
  pub cycle : AreStates g p.cycle
  pub cocycle : AreStates g p.cocycle

pub record HasStepStates (g : Marks) (p : StepPair) : Type 0 where
  pub step : AreStates g p.step
  pub probe : AreStates g p.probe

pub record HasPairStates (g : Marks) (c : Cell) : Type 0 where
  pub cycles : All (HasCycleStates g) c.cycles
  pub steps : All (HasStepStates g) c.steps

abbrev pub entry_count : List Cell → ℕ
entry_count cells = sum_by (λ c. 1 + length c.cycles + length c.steps) cells

pub record IsCertificate (c : Certificate) : Type 0 where
  pub grid : IsGrid c.grid
  pub small : size c.grid ≤ max_certified_size
  pub ordered : AllPairs (λ (p q : Cell). IsTrue (stands_before p.at q.at)) c.cells
  pub degrees : All (λ (cell : Cell). AreSmallDegrees cell.at) c.cells
  pub states : All (HasPairStates c.grid) c.cells
  pub few : entry_count c.cells < 2 ^ 32 - 1
