-- How a list of degrees is kept: its numbers in an array that is long enough for each list, with zeros behind them.
--     padded ds               the numbers of ds, and zeros up to the length of the array
--     IsStored count degrees  the first `count` numbers are a list of degrees, and the others are 0
use Rattle.std.specs.Prelude.{◌≡◌, ℕ, ◌-◌, ◌≤◌, ℤ, pos, List, ◌++◌, length, take, replicate}
use Rattle.hat_division.specs.DegreeLists.{IsDegreeList}
use Rattle.hat_division.specs.declared.degree_lists.TheConstants.{MAX_COMPONENTS}

abbrev pub padded : List ℤ → List ℤ
padded ds = ds ++ replicate (MAX_COMPONENTS - length ds) (pos 0)

pub record IsStored (count : ℕ) (degrees : List ℤ) : Type 0 where
  pub within : count ≤ length degrees
  pub list : IsDegreeList (take count degrees)
  pub zeros : degrees ≡ padded (take count degrees)
