-- Certificates in the making: the pairs that a log of cancelled arrows gives.
--     degree_is m d            the degree, if there is one, is m
--     left_codes g C m         the indices of states that C has with the degree m, ascending
--     cycle_pair log s         the cycle pair of a state that is left: its lift and its pull
--     step_pair done e         the step pair of the entry after these: the lift of its x and the pull of its y by them
--     steps_after p done log   the step pairs of the entries of a log whose x passes the test, after the entries done
--     HasState g d             some state has the bidegree d
--     HasBidegrees g n degrees the set has the bidegrees of the states with an index below n, and no other
--     IsMadeCell g cell            some state has the bidegree of the cell, and its pairs come from a log of the slice
--                              at its Alexander degree that leaves no arrow
--     AreMade g cells          the cells are made so and stand in order, and none is missing
use Rattle.std.specs.Prelude.{◌≡◌, ℕ, ◌<◌, ℤ, Bool, true, false, cond, List, [], ◌∷◌, ◌++◌, map, IsTrue}
use Rattle.std.specs.List.{All, AllPairs, filter, list_any}
use Rattle.std.specs.Ordering.{int_eq}
use Rattle.std.specs.declared.option.Option.{Option}
use Rattle.std.specs.declared.option.Option.TheVariants.{None, Some}
use Rattle.std.specs.BTreeSet as sorted
use Rattle.std.specs.BTreeSet.{BTreeSet}
use Rattle.f2_algebra.specs.Chain.{nothing, single}
use Rattle.f2_algebra.specs.Complex.{Complex}
use Rattle.f2_algebra.specs.Cancel.{Entry, IsLog, after, lift, pull}
use Rattle.f2_algebra.specs.Bigraded.{at_alexander}
use Rattle.f2_algebra.specs.Certificate.{CyclePair, StepPair}
use Rattle.f2_algebra.specs.Bigraded.{stands_before}
use Rattle.state_rank.specs.Bijection.{ascending}
use Rattle.state_rank.specs.States.{factorial, unrank}
use Rattle.torus_geom.specs.Counts.{all_below}
use Rattle.torus_geom.specs.Marks.{Marks, size}
use Rattle.torus_geom.specs.Degrees.{bidegree}
use Rattle.torus_geom.specs.Inner.GridComplex.{grid_complex}
use Rattle.gradings.specs.Degrees.{bidegree_cmp}
use Rattle.gradings.specs.declared.degrees.Bidegree.{Bidegree}
use Rattle.homology_cert.specs.CertificateCodes.{Cell}
use Rattle.homology_cert.specs.Inner.CodeTests.{has_bidegree}
use Rattle.hat_division.specs.RankMaps.{bidegree_key}

abbrev pub degree_is : ℤ → Option ℤ → Bool
degree_is m None = false
degree_is m (Some n) = int_eq n m

abbrev pub left_codes : Marks → Complex ℤ → ℤ → List ℕ
left_codes g C m = filter (λ s. degree_is m (C.degree s)) (ascending (factorial (size g)))

abbrev pub cycle_pair : List Entry → ℕ → CyclePair
cycle_pair log s = record { cycle = lift log (single s); cocycle = pull log (single s) }

abbrev pub step_pair : List Entry → Entry → StepPair
step_pair done e = record { step = lift done (single e.x); probe = pull done (single e.y) }

abbrev pub steps_after : (ℕ → Bool) → List Entry → List Entry → List StepPair
steps_after p done [] = []
steps_after p done (e ∷ log) = cond (p e.x) (step_pair done e ∷ []) [] ++ steps_after p (done ++ e ∷ []) log

abbrev pub HasState : Marks → ℤ × ℤ → Type 0
HasState g d = (s : ℕ) × (s < factorial (size g)) × (bidegree g (unrank (size g) s) ≡ d)

pub record HasBidegrees (g : Marks) (n : ℕ) (degrees : BTreeSet Bidegree) : Type 0 where
  pub found : (s : ℕ) → s < n
      → sorted.contains bidegree_cmp degrees (bidegree_key (bidegree g (unrank (size g) s))) ≡ true
  pub of_states : (q : Bidegree) → sorted.contains bidegree_cmp degrees q ≡ true
      → (s : ℕ) × (s < n) × (bidegree_key (bidegree g (unrank (size g) s)) ≡ q)

pub record IsMadeCell (g : Marks) (cell : Cell) : Type 0 where
  pub state : ℕ
  pub below : state < factorial (size g)
  pub is_state : bidegree g (unrank (size g) state) ≡ cell.at
  pub log : List Entry
  pub left : Complex ℤ
  pub stands : IsLog (at_alexander cell.at.1 (grid_complex g)) log
  pub is_after : left ≡ after (at_alexander cell.at.1 (grid_complex g)) log
  pub no_arrow : (s : ℕ) → left.targets s ≡ nothing
  pub cycles : cell.cycles ≡ map (cycle_pair log) (left_codes g left cell.at.0)
  pub steps : cell.steps ≡ steps_after (has_bidegree g cell.at) [] log

pub record AreMade (g : Marks) (cells : List Cell) : Type 0 where
  pub ordered : AllPairs (λ (p q : Cell). IsTrue (stands_before p.at q.at)) cells
  pub each : All (IsMadeCell g) cells
  pub complete : all_below (factorial (size g)) (λ s. list_any (λ (cell : Cell). has_bidegree g cell.at s) cells) ≡ true
