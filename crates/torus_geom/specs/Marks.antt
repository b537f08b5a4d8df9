-- Grid diagrams (Ozsváth, Stipsicz and Szabó, "Grid Homology for Knots and Links", chapter 3): each
-- column and each row has one O and one X, in different squares. Columns are counted from the left
-- and rows from the bottom, both from 0.
--     Marks        the row of the O and the row of the X of each column
--     size g       the number of columns
--     IsGrid g     the marks are those of a grid diagram of a size that is handled
--     AreBijections g, SharesSquare g    what two lists have to be, and not to do, for that
use Rattle.std.specs.Prelude.{◌≡◌, ◌≢◌, ℕ, ◌<◌, List, length, slice_index}
use Rattle.state_rank.specs.Bijection.{IsSize, IsBijection}

pub record Marks : Type 0 where
  pub o : List ℕ
  pub x : List ℕ

abbrev pub size : Marks → ℕ
size g = length g.o

pub record IsGrid (g : Marks) : Type 0 where
  pub is_size : IsSize (size g)
  pub o : IsBijection (size g) g.o
  pub x : IsBijection (size g) g.x
  pub apart : (c : ℕ) → c < size g → slice_index g.o c ≢ slice_index g.x c

-- both lists are bijections of one size that is handled
pub record AreBijections (g : Marks) : Type 0 where
  pub is_size : IsSize (size g)
  pub o : IsBijection (size g) g.o
  pub x : IsBijection (size g) g.x

-- some column has its O and its X in one square
abbrev pub SharesSquare : Marks → Type 0
SharesSquare g = (c : ℕ) × (c < size g) × (slice_index g.o c ≡ slice_index g.x c)
