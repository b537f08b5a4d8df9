-- The laws of the border of chains of states, from those of sets of indices; and what the calls answer, over codes.
use Rattle.std.proofs.Common.{◌≡◌, ℕ, pos, ◌+ℤ◌, true, List, map, sym, ap, ◌∙◌}
use Rattle.std.specs.List.{Contains}
use Rattle.f2_algebra.specs.Chain.{Chain as Codes, codes}
use Rattle.state_rank.specs.Bijection.{IsBijection}
use Rattle.state_rank.specs.States.{rank}
use Rattle.torus_geom.specs.Border.{is_step, border}
use Rattle.torus_geom.specs.Chains.{Chain, nothing, single, members}
use Rattle.torus_geom.specs.Codes.{states_of, HasIndices}
use Rattle.torus_geom.specs.Degrees.{maslov_o, alexander}
use Rattle.torus_geom.specs.Inner.CodeBorder as over_codes
use Rattle.torus_geom.specs.Inner.CodeBorder.{border_of_state, codes_of}
use Rattle.torus_geom.specs.Marks.{Marks, IsGrid, size}
use Rattle.torus_geom.proofs.Chains.ChainLemmas.{reached-same}
use Rattle.torus_geom.proofs.Chains.StateChains.{holds-states_where}
use Rattle.torus_geom.proofs.Chains.CodesLemmas.{AreIndices, AreIndices-codes_of, states_of-at, states_of-nothing, states_of_one_to_one, indices_from_All}
use Rattle.torus_geom.proofs.Chains.OrderedMembers.{listed_members, members_codes}
use Rattle.torus_geom.proofs.Chains.ReachedLemmas.{AreIndices-border, AreIndices-border_of_state, in_border_of_state, states_of-border, states_of-border_of_state, border_codes}
use Rattle.rectangles.proofs.Law.GridComplexLemmas as code_degrees
use Rattle.rectangles.proofs.Square.BorderLemmas as code_laws

-- ---- laws
-- The border of the border of any chain is empty.
pub border-border : (g : Marks) → IsGrid g → (z : Chain) → border g (border g z) ≡ nothing
border-border g s z =
    let n = size g in
    let w = codes_of n z in
    let below = AreIndices-codes_of n z in
    let same : border g z ≡ border g (states_of n w) =
    reached-same n (is_step g) z (states_of n w)
    (λ x sx. sym (states_of-at n w x sx ∙ holds-states_where n z x sx)) in
    ap (border g) (same ∙ sym (states_of-border g w below))
    ∙ sym (states_of-border g (over_codes.border g w) (AreIndices-border g w))
    ∙ ap (states_of n) (code_laws.border-border g s w) ∙ states_of-nothing n

module _ (g : Marks) (s : IsGrid g) (x y : List ℕ) (sx : IsBijection (size g) x)
    (h : border g (single x) y ≡ true) where
  -- a state of the border of a state has a Maslov degree one lower
  pub maslov_o-in_border : maslov_o g x ≡ maslov_o g y +ℤ pos 1
  maslov_o-in_border =
      let (sy, held) = in_border_of_state g x y sx h in
      ap (λ d. d.0) (code_degrees.bidegree-border_of_state g s x y sx sy held)

  -- and the same Alexander degree
  pub alexander-in_border : alexander g x ≡ alexander g y
  alexander-in_border =
      let (sy, held) = in_border_of_state g x y sx h in
      ap (λ d. d.1) (code_degrees.bidegree-border_of_state g s x y sx sy held)

-- ---- what calls answer
-- the states that `targets` lists have the codes of the border of the state
pub targets_codes : (g : Marks) (x : List ℕ) → IsBijection (size g) x → (items : List (List ℕ))
    → items ≡ members (size g) (border g (single x)) → map rank items ≡ codes (border_of_state g x)
targets_codes g x sx items e =
    members_codes (size g) (border_of_state g x) (AreIndices-border_of_state g x) items
    (e ∙ ap (members (size g)) (sym (states_of-border_of_state g x sx)))

-- and a list with these codes lists them
pub targets_states : (g : Marks) (x : List ℕ) → IsBijection (size g) x → (items : List (List ℕ))
    → ((y : List ℕ) → Contains items y → IsBijection (size g) y) → map rank items ≡ codes (border_of_state g x)
    → items ≡ members (size g) (border g (single x))
targets_states g x sx items all e =
    listed_members (size g) (border_of_state g x) (AreIndices-border_of_state g x) items all e
    ∙ ap (members (size g)) (states_of-border_of_state g x sx)

-- a set of indices that stands for the border of a state has the indices of this border
pub border_of_state_codes : (g : Marks) (x : List ℕ) → IsBijection (size g) x → (z : Codes) → AreIndices (size g) z
    → states_of (size g) z ≡ border g (single x) → z ≡ border_of_state g x
border_of_state_codes g x sx z below e =
    states_of_one_to_one (size g) z (border_of_state g x) below (AreIndices-border_of_state g x)
    (e ∙ sym (states_of-border_of_state g x sx))

-- the same, with codes that are indices as contracts say it
pub border_of_state_answer : (g : Marks) (x : List ℕ) → IsBijection (size g) x → (z : Codes) → HasIndices (size g) z
    → states_of (size g) z ≡ border g (single x) → z ≡ border_of_state g x
border_of_state_answer g x sx z ranks e = border_of_state_codes g x sx z (indices_from_All (size g) z ranks) e

pub border_answer : (g : Marks) (y z : Codes) → HasIndices (size g) y → HasIndices (size g) z
    → states_of (size g) y ≡ border g (states_of (size g) z) → y ≡ over_codes.border g z
border_answer g y z of_y of_z e =
    border_codes g y z (indices_from_All (size g) y of_y) (indices_from_All (size g) z of_z) e
