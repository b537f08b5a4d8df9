-- Chains of states as a vector space over the field of two elements, and what their words hold, as sums modulo 2 over
-- the states.
use Rattle.std.proofs.Common.{◌≡◌, ℕ, Bool, true, false, ◌&&◌, List, length, refl, sym, ap, ap₂, ◌∙◌, ◌⊎◌, inl, inr}
use Rattle.std.specs.List.{Contains, filter}
use Rattle.std.proofs.lemmas.Bool.{false_from_ne_true, and_parts}
use Rattle.f2_algebra.specs.Chain.{is_odd}
use Rattle.f2_algebra.proofs.Chains.ParityLemmas.{parity, parity-xor, parity-ext, parity-false, parity-filter, is_odd-filter}
use Rattle.f2_algebra.proofs.Chains.Sets.{xor-true}
use Rattle.f2_algebra.proofs.Chains.Tables.{◌⊻◌, xor_or, xor-and, xor_self}
use Rattle.state_rank.specs.Bijection.{IsBijection}
use Rattle.state_rank.specs.States.{states}
use Rattle.state_rank.proofs.SwapLemmas.{IsBijection-swap}
use Rattle.state_rank.proofs.MemberLemmas.{member_of_filter, Contains-filter}
use Rattle.state_rank.proofs.OrderLemmas.{member_of_states, Contains-states}
use Rattle.torus_geom.specs.Rectangle.{IsProper, leads, rectangles}
use Rattle.torus_geom.specs.declared.rects.Rect.{Rect}
use Rattle.torus_geom.proofs.Circles.RectangleLemmas.{member_of_rectangles}
use Rattle.torus_geom.specs.Chains.{Chain, IsChain, nothing, ◌⊕◌, members, pairs_oddly, reached}
use Rattle.torus_geom.proofs.Chains.StateTests.{is_same-true, odd-flat_map, parity-members, parity-states}

-- ---- equality
-- chains that have the same states are one
pub same_states : (z w : Chain) → ((x : List ℕ) → z x ≡ w x) → z ≡ w
same_states z w h = λ i x. h x i

-- ---- the sum
-- as an exclusive or
pub at-add : (z w : Chain) (x : List ℕ) → (z ⊕ w) x ≡ z x ⊻ w x
unfolding ◌⊕◌
at-add z w x = xor_or (z x) (w x)

-- a state of a sum is one of the two
pub in_sum : (z w : Chain) (x : List ℕ) → (z ⊕ w) x ≡ true → (z x ≡ true) ⊎ (w x ≡ true)
in_sum z w x h = xor-true (z x) (w x) (sym (at-add z w x) ∙ h)

pub chain_add_self : (z : Chain) → z ⊕ z ≡ nothing
chain_add_self z = same_states (z ⊕ z) nothing (λ x. at-add z z x ∙ xor_self (z x))

-- the sum of chains of states is one
pub IsChain-add : (n : ℕ) (z w : Chain) → IsChain n z → IsChain n w → IsChain n (z ⊕ w)
IsChain-add n z w sz sw x h = elim (in_sum z w x h) [ inl i ↦ sz x i | inr i ↦ sw x i ]

-- ---- members
pub Contains-members : (n : ℕ) (z : Chain) (x : List ℕ) → IsBijection n x → z x ≡ true → Contains (members n z) x
Contains-members n z x sx h = Contains-filter z (states n) x (Contains-states n x sx) h

pub member_of_members : (n : ℕ) (z : Chain) (x : List ℕ) → Contains (members n z) x → IsBijection n x × (z x ≡ true)
member_of_members n z x m = let (in_states, h) = member_of_filter z (states n) x m in
    (member_of_states n x in_states, h)

-- ---- words as sums modulo 2
pub pairs_oddly-parity : (n : ℕ) (z f : Chain) → pairs_oddly n z f ≡ parity (λ x. z x && f x) (states n)
unfolding pairs_oddly
pairs_oddly-parity n z f = is_odd-filter f (members n z) ∙ parity-filter f z (states n)

-- whether an odd number of rectangles leads from x to y
abbrev pub is_reached : ℕ → (List ℕ → List ℕ → Rect → Bool) → List ℕ → List ℕ → Bool
is_reached n leads x y = is_odd (length (filter (leads x y) (rectangles n)))

pub reached-parity : (n : ℕ) (L : List ℕ → List ℕ → Rect → Bool) (z : Chain) (y : List ℕ)
    → reached n L z y ≡ parity (λ x. z x && is_reached n L x y) (states n)
unfolding reached
reached-parity n L z y =
    odd-flat_map (λ x. filter (L x y) (rectangles n)) (members n z)
    ∙ parity-filter (λ x. is_reached n L x y) z (states n)

-- what is reached depends on the states of the chain alone
pub reached-same : (n : ℕ) (L : List ℕ → List ℕ → Rect → Bool) (z w : Chain)
    → ((x : List ℕ) → IsBijection n x → z x ≡ w x) → reached n L z ≡ reached n L w
reached-same n L z w h = same_states (reached n L z) (reached n L w) (λ y.
    reached-parity n L z y
    ∙ parity-states n (λ x. z x && is_reached n L x y) (λ x. w x && is_reached n L x y)
    (λ x sx. ap (λ b. b && is_reached n L x y) (h x sx)) ∙ sym (reached-parity n L w y))

-- ---- the sum of what is reached
pub reached-add : (n : ℕ) (L : List ℕ → List ℕ → Rect → Bool) (z w : Chain)
    → reached n L (z ⊕ w) ≡ reached n L z ⊕ reached n L w
reached-add n L z w = same_states (reached n L (z ⊕ w)) (reached n L z ⊕ reached n L w) (λ y.
    reached-parity n L (z ⊕ w) y
    ∙ parity-ext (λ x. (z ⊕ w) x && is_reached n L x y)
    (λ x. (z x && is_reached n L x y) ⊻ (w x && is_reached n L x y)) (states n) (λ x.
    ap (λ b. b && is_reached n L x y) (at-add z w x) ∙ xor-and (z x) (w x) (is_reached n L x y))
    ∙ parity-xor (λ x. z x && is_reached n L x y) (λ x. w x && is_reached n L x y) (states n)
    ∙ sym (at-add (reached n L z) (reached n L w) y
    ∙ ap₂ (λ a b. a ⊻ b) (reached-parity n L z y) (reached-parity n L w y)))

-- nothing reaches nothing
pub reached-nothing : (n : ℕ) (L : List ℕ → List ℕ → Rect → Bool) → reached n L nothing ≡ nothing
reached-nothing n L =
    same_states (reached n L nothing) nothing (λ y. reached-parity n L nothing y ∙ parity-false (states n))

-- ---- rectangles that lead from states to states
abbrev pub LeadsToStates : ℕ → (List ℕ → List ℕ → Rect → Bool) → Type 0
LeadsToStates n L =
    (x y : List ℕ) (r : Rect) → IsBijection n x → IsProper n r → L x y r ≡ true → IsBijection n y

-- what a rectangle leads to is a state
pub leads_to_state : (n : ℕ) (x y : List ℕ) (r : Rect) → IsBijection n x → IsProper n r → leads r x y ≡ true
    → IsBijection n y
leads_to_state n x y r sx proper h =
    let second = (and_parts _ _ h).1 in
    let same = is_same-true _ _ (and_parts _ _ second).1 in
    subst_state same (IsBijection-swap n x r.left r.right proper.left_below proper.right_below sx)
  where
    subst_state : {u v : List ℕ} → u ≡ v → IsBijection n u → IsBijection n v
    subst_state e s = rw e at s

-- no rectangle leads to what is no state
pub is_reached-no_state : (n : ℕ) (L : List ℕ → List ℕ → Rect → Bool) → LeadsToStates n L → (x y : List ℕ)
    → IsBijection n x → (IsBijection n y → ⊥) → is_reached n L x y ≡ false
is_reached-no_state n L keeps x y sx other =
    is_odd-filter (L x y) (rectangles n)
    ∙ parity-members (L x y) (λ r. false) (rectangles n)
    (λ r m. false_from_ne_true _ (λ h. other (keeps x y r sx (member_of_rectangles n r m) h)))
    ∙ parity-false (rectangles n)

-- what is reached from a chain of states, or of anything, is a chain of states
pub reached-outside : (n : ℕ) (L : List ℕ → List ℕ → Rect → Bool) → LeadsToStates n L → (z : Chain) (y : List ℕ)
    → (IsBijection n y → ⊥) → reached n L z y ≡ false
reached-outside n L keeps z y other =
    reached-parity n L z y
    ∙ parity-states n (λ x. z x && is_reached n L x y) (λ x. false) (λ x sx.
    ap (λ b. z x && b) (is_reached-no_state n L keeps x y sx other) ∙ and_no (z x))
    ∙ parity-false (states n)
  where
    and_no : (b : Bool) → (b && false) ≡ false
    and_no true = refl
    and_no false = refl
