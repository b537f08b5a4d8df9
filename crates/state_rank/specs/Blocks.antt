-- Blocks of states: in the order of states those that begin with the same rows come one after another.
--     IsBlock n p rows base      the rows ascend, and in the order of the states of size n, from the place `base` on,
--                                come those that begin with the rows p and go on with `rows` in some order
use Rattle.std.specs.Prelude.{◌≡◌, ◌<◌, ℕ, List, ◌++◌, length, map}
use Rattle.std.specs.List.{AllPairs}
use Rattle.state_rank.specs.States.{arrangements, states}

pub record IsBlock (n : ℕ) (p rows : List ℕ) (base : ℕ) : Type 0 where
  pub earlier : List (List ℕ)
  pub later : List (List ℕ)
  pub parts : states n ≡ earlier ++ (map (λ y. p ++ y) (arrangements (length rows) rows) ++ later)
  pub count : length earlier ≡ base
  pub rises : AllPairs (λ r s. r < s) rows
