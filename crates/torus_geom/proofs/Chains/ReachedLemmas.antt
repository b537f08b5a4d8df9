-- The border of a set of indices stands for the border of its chain of states.
-- Route: the sum, over the codes of a set, of the chains of what their states reach holds the index of y if an odd
-- number of pairs reach y.
use Rattle.std.proofs.Common.{◌≡◌, ℕ, Bool, true, false, ◌&&◌, List, refl, sym, ap, ap₂, subst, ◌∙◌}
use Rattle.std.proofs.lemmas.Bool.{and_parts, false≢true}
use Rattle.f2_algebra.specs.Chain.{Chain as Codes, single as one_code, holds, sum_over}
use Rattle.f2_algebra.proofs.Chains.Sets.{weight-same, weight-some}
use Rattle.f2_algebra.proofs.Chains.Sums.{holds-sum_over, sum_over-single}
use Rattle.state_rank.specs.Bijection.{IsBijection}
use Rattle.state_rank.specs.States.{rank, unrank}
use Rattle.state_rank.proofs.RankLemmas.{unrank-rank}
use Rattle.torus_geom.specs.Inner.CodeBorder.{states_where, border_of_state}
use Rattle.torus_geom.specs.Inner.CodeBorder as over_codes
use Rattle.torus_geom.specs.Marks.{Marks, size}
use Rattle.torus_geom.specs.Rectangle.{leads, is_empty, is_unmarked}
use Rattle.torus_geom.specs.declared.rects.Rect.{Rect}
use Rattle.torus_geom.proofs.Chains.StateChains.{states_where-below, holds-states_where}
use Rattle.torus_geom.specs.Chains.{Chain, IsChain, single, ◌⊕◌, reached}
use Rattle.torus_geom.specs.Border.{is_step, border}
use Rattle.torus_geom.specs.Codes.{is_state, states_of}
use Rattle.torus_geom.proofs.Chains.StateTests.{is_state-is, is_state-true, parity-states, weight-states}
use Rattle.torus_geom.proofs.Chains.ChainLemmas.{is_reached, reached-parity, reached-add, LeadsToStates, leads_to_state, reached-outside}
use Rattle.torus_geom.proofs.Chains.CodesLemmas.{AreIndices, in_states_of, AreIndices-single, states_of-single, states_of-at, is_states_of, states_of_one_to_one}

-- ---- what a set of codes reaches
-- the sum, over the codes of z, of the chains of the states that their states reach
abbrev pub reached_codes : ℕ → (List ℕ → List ℕ → Rect → Bool) → Codes → Codes
reached_codes n L z = sum_over z (λ code. states_where n (is_reached n L (unrank n code)))

-- it stands for what the chain of states reaches
pub states_of-reached : (n : ℕ) (L : List ℕ → List ℕ → Rect → Bool) → LeadsToStates n L → (z : Codes) → AreIndices n z
    → states_of n (reached_codes n L z) ≡ reached n L (states_of n z)
states_of-reached n L keeps z below =
    is_states_of n (reached_codes n L z) (reached n L (states_of n z))
    (λ y sy.
    holds-sum_over z (λ code. states_where n (is_reached n L (unrank n code))) (rank y)
    ∙ weight-same (λ s. holds (states_where n (is_reached n L (unrank n s))) (rank y))
    (λ s. is_reached n L (unrank n s) y) z
    (λ s _. holds-states_where n (is_reached n L (unrank n s)) y sy)
    ∙ weight-states n z below (λ s. is_reached n L (unrank n s) y)
    ∙ parity-states n (λ x. holds z (rank x) && is_reached n L (unrank n (rank x)) y)
    (λ x. states_of n z x && is_reached n L x y)
    (λ x sx. ap₂ (λ b w. b && is_reached n L w y) (sym (states_of-at n z x sx)) (unrank-rank n x sx))
    ∙ sym (reached-parity n L (states_of n z) y))
    (reached-outside n L keeps (states_of n z))

-- it has indices of states
pub AreIndices-reached : (n : ℕ) (L : List ℕ → List ℕ → Rect → Bool) (z : Codes) → AreIndices n (reached_codes n L z)
AreIndices-reached n L z q h =
    let (s, in_z, in_s) =
    weight-some (λ s. holds (states_where n (is_reached n L (unrank n s))) q) z
    (sym (holds-sum_over z (λ code. states_where n (is_reached n L (unrank n code))) q) ∙ h) in
    states_where-below n (is_reached n L (unrank n s)) q in_s

-- ---- the border
steps_LeadToStates : (g : Marks) → LeadsToStates (size g) (is_step g)
steps_LeadToStates g x y r sx proper h =
    leads_to_state (size g) x y r sx proper (and_parts (leads r x y) (is_empty x r && is_unmarked g r) h).0

-- The border of a set of indices stands for the border of its chain.
pub states_of-border : (g : Marks) (z : Codes) → AreIndices (size g) z
    → states_of (size g) (over_codes.border g z) ≡ border g (states_of (size g) z)
unfolding over_codes.border border_of_state
states_of-border g z below = states_of-reached (size g) (is_step g) (steps_LeadToStates g) z below

-- The set of the indices of the border of a state stands for the border of the chain of this state.
pub states_of-border_of_state : (g : Marks) (x : List ℕ) → IsBijection (size g) x
    → states_of (size g) (border_of_state g x) ≡ border g (single x)
unfolding over_codes.border
states_of-border_of_state g x sx =
    let n = size g in
    ap (states_of n) (ap (border_of_state g) (sym (unrank-rank n x sx))
    ∙ sym (sum_over-single (rank x) (λ code. border_of_state g (unrank n code))))
    ∙ states_of-border g (one_code (rank x)) (AreIndices-single n x sx)
    ∙ ap (border g) (states_of-single n x sx)

-- what is reached has states alone
pub IsChain-reached : (n : ℕ) (L : List ℕ → List ℕ → Rect → Bool) → LeadsToStates n L → (z : Chain)
    → IsChain n (reached n L z)
IsChain-reached n L keeps z y h = by (is_state n y) refl
  where
    by : (b : Bool) → is_state n y ≡ b → IsBijection n y
    by true e = is_state-true n y e
    by false e =
        absurd (false≢true (sym (reached-outside n L keeps z y (λ sy. false≢true (sym e ∙ is_state-is n y sy))) ∙ h))

pub IsChain-border : (g : Marks) (z : Chain) → IsChain (size g) (border g z)
IsChain-border g z = IsChain-reached (size g) (is_step g) (steps_LeadToStates g) z

-- the set of the indices of the border has indices of states
pub AreIndices-border : (g : Marks) (z : Codes) → AreIndices (size g) (over_codes.border g z)
unfolding over_codes.border border_of_state
AreIndices-border g z = AreIndices-reached (size g) (is_step g) z

-- the border of a sum is the sum of the borders
pub border-add : (g : Marks) (z w : Chain) → border g (z ⊕ w) ≡ border g z ⊕ border g w
border-add g z w = reached-add (size g) (is_step g) z w

-- ---- from a clause over states to one over codes
-- a set of indices that stands for the border of a chain is the border of the set of its indices
pub border_codes : (g : Marks) (y z : Codes) → AreIndices (size g) y → AreIndices (size g) z
    → states_of (size g) y ≡ border g (states_of (size g) z) → y ≡ over_codes.border g z
border_codes g y z sy sz e =
    states_of_one_to_one (size g) y (over_codes.border g z) sy (AreIndices-border g z)
    (e ∙ sym (states_of-border g z sz))

-- if the size has another name
pub states_of-border_at : (g : Marks) (n : ℕ) → size g ≡ n → (z : Codes) → AreIndices n z
    → states_of n (over_codes.border g z) ≡ border g (states_of n z)
states_of-border_at g n e z =
    let P : ℕ → Type 0 = λ m. AreIndices m z → states_of m (over_codes.border g z) ≡ border g (states_of m z) in
    subst P e (states_of-border g z)

-- a state of the border of a state, and its index
pub in_border_of_state : (g : Marks) (x y : List ℕ) → IsBijection (size g) x → border g (single x) y ≡ true
    → IsBijection (size g) y × (holds (border_of_state g x) (rank y) ≡ true)
in_border_of_state g x y sx h =
    in_states_of (size g) (border_of_state g x) y (ap (λ z. z y) (states_of-border_of_state g x sx) ∙ h)

-- the set of the indices of the border of a state has indices of states
pub AreIndices-border_of_state : (g : Marks) (x : List ℕ) → AreIndices (size g) (border_of_state g x)
unfolding border_of_state
AreIndices-border_of_state g x = states_where-below (size g) (is_reached (size g) (is_step g) x)
