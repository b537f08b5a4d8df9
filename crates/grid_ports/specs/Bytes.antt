-- The bytes that a source has left and those that were written to a sink, if it tells them: `None`
-- if it does not, and then nothing is said. More words of this kind are std's, of `Io.KnownBytes`:
-- `Consumes`, `Appends`, `Keeps`, `IsAtEnd`.
--     Takes k old new              the first k of the bytes left are gone
--     TakesAtMost most old new     the same for some k up to `most`
--     AppendsPrefix old new bs     a prefix of bs was written
use Rattle.std.specs.Prelude.{◌≡◌, ℕ, ◌≤◌, List, ◌++◌, length, drop, ⊤, None, Some, Option}
use Rattle.std.specs.Io.KnownBytes.{Appends}

abbrev pub Takes : ℕ → Option (List ℕ) → Option (List ℕ) → Type 0
Takes k None new = ⊤
Takes k (Some xs) None = ⊥
Takes k (Some xs) (Some ys) = (k ≤ length xs) × (ys ≡ drop k xs)

abbrev pub TakesAtMost : ℕ → Option (List ℕ) → Option (List ℕ) → Type 0
TakesAtMost most old new = (k : ℕ) × (k ≤ most) × Takes k old new

abbrev pub AppendsPrefix : Option (List ℕ) → Option (List ℕ) → List ℕ → Type 0
AppendsPrefix old new bs =
    (front : List ℕ) × ((back : List ℕ) × (front ++ back ≡ bs)) × Appends old new front
