-- Certificates: what shows the table of ranks of a grid to somebody who trusts borders, pairings and counts alone. A
-- certificate has a cell for each bidegree of the states of its grid. The cycles of a cell stand for the homology of
-- the bidegree, and with each goes a cocycle that tells it from the others. Its steps are chains whose borders are not
-- empty, and with each goes a probe that tells its border from those of the later ones. Cochains are chains of states
-- too.
--     CyclePair             a cycle and its cocycle
--     StepPair              a step and its probe
--     Cell                  a bidegree (Maslov degree, Alexander degree), its cycle pairs and its step pairs
--     Certificate           a grid and its cells
--     AreSmallDegrees d     both degrees are from -1,000 to 1,000
--     entry_count cells     the number of entries: the cells, the cycle pairs and the step pairs
--     HasPairStates n c     the pairs of a cell are chains of states of size n
--     IsCertificate c       the grid is one of size at most six; the cells stand in order, no bidegree twice, with
--                           small degrees and with chains of states; there are fewer than 2^32 - 1 entries
use Rattle.std.specs.Prelude.{ℕ, ◌+◌, ◌-◌, ◌^◌, ◌<◌, ◌≤◌, IsTrue, List, length, ℤ}
use Rattle.std.specs.List.{All, AllPairs, sum_by}
use Rattle.f2_algebra.specs.Bigraded.{stands_before}
use Rattle.gradings.specs.Degrees.{IsSmallDegree}
use Rattle.torus_geom.specs.Chains.{Chain, IsChain}
use Rattle.torus_geom.specs.Marks.{Marks, IsGrid, size}
use Rattle.homology_cert.specs.CertificateLimits.{max_certified_size}

pub record CyclePair : Type 0 where
  pub cycle : Chain
  pub cocycle : Chain

pub record StepPair : Type 0 where
  pub step : Chain
  pub probe : Chain

pub record Cell : Type 0 where
  pub at : ℤ × ℤ
  pub cycles : List CyclePair
  pub steps : List StepPair

pub record Certificate : Type 0 where
  pub grid : Marks
  pub cells : List Cell

pub record AreSmallDegrees (d : ℤ × ℤ) : Type 0 where
  pub maslov : IsSmallDegree d.0
  pub alexander : IsSmallDegree d.1

abbrev pub entry_count : List Cell → ℕ
entry_count cells = sum_by (λ (c : Cell). 1 + length c.cycles + length c.steps) cells

pub record HasPairStates (n : ℕ) (c : Cell) : Type 0 where
  pub cycles : All (λ p. IsChain n p.cycle × IsChain n p.cocycle) c.cycles
  pub steps : All (λ p. IsChain n p.step × IsChain n p.probe) c.steps

pub record IsCertificate (c : Certificate) : Type 0 where
  pub grid : IsGrid c.grid
  pub small : size c.grid ≤ max_certified_size
  pub ordered : AllPairs (λ (p q : Cell). IsTrue (stands_before p.at q.at)) c.cells
  pub degrees : All (λ (cell : Cell). AreSmallDegrees cell.at) c.cells
  pub states : All (HasPairStates (size c.grid)) c.cells
  pub few : entry_count c.cells < 2 ^ 32 - 1
