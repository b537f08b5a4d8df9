-- Lists of states of one size, ascending.
--     AreAscending z    each state is before the ones after it
--     AreStates z       states of one size, ascending
use Rattle.std.specs.Prelude.{◌≡◌, ℕ, List, length, IsTrue}
use Rattle.std.specs.List.{All, AllPairs}
use Rattle.state_rank.specs.States.{IsState, is_before}

abbrev pub AreAscending : List (List ℕ) → Type 0
AreAscending z = AllPairs (λ x y. IsTrue (is_before x y)) z

pub record AreStates (z : List (List ℕ)) : Type 0 where
  pub states : All IsState z
  pub one_size : AllPairs (λ (x y : List ℕ). length x ≡ length y) z
  pub ascending : AreAscending z
