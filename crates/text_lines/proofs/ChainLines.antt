-- The line of a set of indices is that of its chain of states.
use Rattle.std.proofs.Common.{◌≡◌, ℕ, List, ◌∷◌, ◌++◌, ap}
use Rattle.f2_algebra.specs.Chain.{Chain as Codes}
use Rattle.torus_geom.specs.Codes.{HasIndices, states_of}
use Rattle.torus_geom.proofs.Chains.CodesLemmas.{indices_from_All}
use Rattle.torus_geom.proofs.Chains.OrderedMembers.{states_text}
use Rattle.state_rank.specs.States.{state_word}
use Rattle.text_lines.specs.Lines.{chain_line}
use Rattle.text_lines.specs.Inner.CodeLines.{set_line}

pub set_line-states : (word : List ℕ) (n : ℕ) (z : Codes) → HasIndices n z
    → set_line word n z ≡ chain_line word n (states_of n z)
set_line-states word n z ranks =
    ap (λ rest. word ++ rest) (states_text n z (indices_from_All n z ranks) (λ x. 32 ∷ state_word x))
