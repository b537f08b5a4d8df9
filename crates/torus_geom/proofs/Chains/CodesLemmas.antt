-- Sets of codes below n! and chains of states of size n stand for each other one to one; sums, the empty chain, single
-- states and pairings go along.
use Rattle.std.proofs.Common.{◌≡◌, ℕ, ◌<◌, Bool, true, false, not, ◌&&◌, ◌||◌, List, eqb, refl, sym, ap, ap₂, subst, ◌∙◌}
use Rattle.std.proofs.lemmas.Bool.{and_parts, eqb-true, eq-eqb, false_from_ne_true, false≢true}
use Rattle.f2_algebra.specs.Chain.{Chain as Codes, holds, codes, ◌⊕◌ as ◌⊞◌}
use Rattle.f2_algebra.specs.Chain as over_codes
use Rattle.std.proofs.lemmas.List.Elements.{All-contains}
use Rattle.f2_algebra.proofs.Chains.Lists.{All-codes}
use Rattle.f2_algebra.proofs.Chains.Sets.{same_chain, holds-nothing, holds-single, holds-add, pairs_oddly-weight}
use Rattle.f2_algebra.proofs.Chains.Tables.{◌⊻◌, same, same_test}
use Rattle.state_rank.specs.Bijection.{IsBijection}
use Rattle.state_rank.specs.States.{rank, unrank, factorial}
use Rattle.state_rank.proofs.RankLemmas.{rank-below, rank-unrank, rank_one_to_one, IsBijection-unrank}
use Rattle.torus_geom.specs.Rectangle.{is_same}
use Rattle.torus_geom.proofs.Chains.StateChains.{member_of_states_where, states_where-below, holds-states_where}
use Rattle.torus_geom.specs.Chains.{Chain, IsChain, nothing, single, ◌⊕◌, pairs_oddly}
use Rattle.torus_geom.specs.Codes.{HasIndices, is_state, states_of}
use Rattle.torus_geom.specs.Inner.CodeBorder.{codes_of}
use Rattle.torus_geom.proofs.Chains.StateTests.{is_same-is, is_same-true, Contains-codes, is_state-is, is_state-true, parity-states, weight-states}
use Rattle.torus_geom.proofs.Chains.ChainLemmas.{same_states, pairs_oddly-parity}

-- the codes are indices of states of size n
abbrev pub AreIndices : ℕ → Codes → Type 0
AreIndices n z = (s : ℕ) → holds z s ≡ true → s < factorial n

-- ---- what a set of codes stands for
-- a state is in it if its index is
pub states_of-at : (n : ℕ) (z : Codes) (x : List ℕ) → IsBijection n x → states_of n z x ≡ holds z (rank x)
unfolding states_of
states_of-at n z x sx = ap (λ b. b && holds z (rank x)) (is_state-is n x sx)

-- and nothing else is in it
pub in_states_of : (n : ℕ) (z : Codes) (x : List ℕ) → states_of n z x ≡ true
    → IsBijection n x × (holds z (rank x) ≡ true)
unfolding states_of
in_states_of n z x h = let parts = and_parts (is_state n x) (holds z (rank x)) h in (is_state-true n x parts.0, parts.1)

pub states_of-outside : (n : ℕ) (z : Codes) (x : List ℕ) → (IsBijection n x → ⊥) → states_of n z x ≡ false
states_of-outside n z x other = false_from_ne_true _ (λ h. other (in_states_of n z x h).0)

pub IsChain-states_of : (n : ℕ) (z : Codes) → IsChain n (states_of n z)
IsChain-states_of n z x h = (in_states_of n z x h).0

-- the state of a code
pub states_of-unrank : (n : ℕ) (z : Codes) (s : ℕ) → s < factorial n → states_of n z (unrank n s) ≡ holds z s
states_of-unrank n z s l = states_of-at n z (unrank n s) (IsBijection-unrank n s l) ∙ ap (holds z) (rank-unrank n s l)

-- a chain is that of a set of codes if it has the states with these indices and nothing else
pub is_states_of : (n : ℕ) (z : Codes) (w : Chain) → ((x : List ℕ) → IsBijection n x → holds z (rank x) ≡ w x)
    → ((x : List ℕ) → (IsBijection n x → ⊥) → w x ≡ false) → states_of n z ≡ w
is_states_of n z w inside outside = same_states (states_of n z) w (λ x. by x (is_state n x) refl)
  where
    by : (x : List ℕ) (b : Bool) → is_state n x ≡ b → states_of n z x ≡ w x
    by x true e = let sx = is_state-true n x e in states_of-at n z x sx ∙ inside x sx
    by x false e =
        let other : IsBijection n x → ⊥ = λ sx. false≢true (sym e ∙ is_state-is n x sx) in
        states_of-outside n z x other ∙ sym (outside x other)

-- ---- one to one
pub AreIndices-codes_of : (n : ℕ) (z : Chain) → AreIndices n (codes_of n z)
AreIndices-codes_of n z s h = states_where-below n z s h

pub states_of-codes_of : (n : ℕ) (z : Chain) → IsChain n z → states_of n (codes_of n z) ≡ z
states_of-codes_of n z sz =
    is_states_of n (codes_of n z) z (holds-states_where n z)
    (λ x other. false_from_ne_true (z x) (λ h. other (sz x h)))

pub codes_of-states_of : (n : ℕ) (z : Codes) → AreIndices n z → codes_of n (states_of n z) ≡ z
codes_of-states_of n z below = same_chain (codes_of n (states_of n z)) z (λ q.
    same_test (holds (codes_of n (states_of n z)) q) (holds z q)
    (λ h. let (y, sy, is, passes) = member_of_states_where n (states_of n z) q h in
    ap (holds z) (sym is) ∙ (in_states_of n z y passes).1)
    (λ h.
    let l = below q h in
    ap (holds (codes_of n (states_of n z))) (sym (rank-unrank n q l))
    ∙ holds-states_where n (states_of n z) (unrank n q) (IsBijection-unrank n q l) ∙ states_of-unrank n z q l ∙ h))

-- sets of indices that stand for one chain are one
pub states_of_one_to_one : (n : ℕ) (z w : Codes) → AreIndices n z → AreIndices n w
    → states_of n z ≡ states_of n w → z ≡ w
states_of_one_to_one n z w sz sw e =
    sym (codes_of-states_of n z sz) ∙ ap (codes_of n) e ∙ codes_of-states_of n w sw

-- ---- sums, the empty chain, single states
pub states_of-nothing : (n : ℕ) → states_of n over_codes.nothing ≡ nothing
states_of-nothing n = is_states_of n over_codes.nothing nothing (λ x sx. holds-nothing (rank x)) (λ x other. refl)

pub states_of-add : (n : ℕ) (z w : Codes) → states_of n (z ⊞ w) ≡ states_of n z ⊕ states_of n w
unfolding states_of ◌⊕◌
states_of-add n z w = same_states (states_of n (z ⊞ w)) (states_of n z ⊕ states_of n w) (λ x.
    ap (λ b. is_state n x && b) (holds-add z w (rank x))
    ∙ same 3 (λ s a b. s && (a ⊻ b)) (λ s a b. ((s && a) && not (s && b)) || ((s && b) && not (s && a))) refl
    (is_state n x) (holds z (rank x)) (holds w (rank x)))

pub states_of-single : (n : ℕ) (x : List ℕ) → IsBijection n x → states_of n (over_codes.single (rank x)) ≡ single x
states_of-single n x sx =
    is_states_of n (over_codes.single (rank x)) (single x)
    (λ y sy. holds-single (rank x) (rank y)
    ∙ same_test (eqb (rank y) (rank x)) (is_same x y)
    (λ h. is_same-is x y (rank_one_to_one n x y sx sy (sym (eqb-true (rank y) (rank x) h))))
    (λ h. eq-eqb (rank y) (rank x) (ap rank (sym (is_same-true x y h)))))
    (λ y other. false_from_ne_true (is_same x y) (λ h. other (subst (IsBijection n) (is_same-true x y h) sx)))

-- the index of a state is one
pub AreIndices-single : (n : ℕ) (x : List ℕ) → IsBijection n x → AreIndices n (over_codes.single (rank x))
AreIndices-single n x sx s h =
    subst (λ k. k < factorial n) (sym (eqb-true s (rank x) (sym (holds-single (rank x) s) ∙ h))) (rank-below n x sx)

-- a set of indices is empty if its chain is
pub nothing_from_states_of : (n : ℕ) (z : Codes) → AreIndices n z → states_of n z ≡ nothing → z ≡ over_codes.nothing
nothing_from_states_of n z below e =
    states_of_one_to_one n z over_codes.nothing below (λ s h. absurd (false≢true (sym (holds-nothing s) ∙ h)))
    (e ∙ sym (states_of-nothing n))

-- ---- pairings
pub pairs_oddly-states_of : (n : ℕ) (z f : Codes) → AreIndices n z
    → pairs_oddly n (states_of n z) (states_of n f) ≡ over_codes.pairs_oddly z f
pairs_oddly-states_of n z f below =
    pairs_oddly-parity n (states_of n z) (states_of n f)
    ∙ parity-states n (λ x. states_of n z x && states_of n f x) (λ x. holds z (rank x) && holds f (rank x))
    (λ x sx. ap₂ ◌&&◌ (states_of-at n z x sx) (states_of-at n f x sx))
    ∙ sym (weight-states n z below (holds f)) ∙ sym (pairs_oddly-weight z f)

-- ---- from sets of indices to chains of states
-- what holds of the chains of sets of indices holds of each chain of states
pub by_indices : (n : ℕ) (P : Chain → Type 0) → ((z : Codes) → AreIndices n z → P (states_of n z))
    → (z : Chain) → IsChain n z
    → P z
by_indices n P h z sz = subst P (states_of-codes_of n z sz) (h (codes_of n z) (AreIndices-codes_of n z))

-- the two ways of saying that codes are indices
pub indices_from_All : (n : ℕ) (z : Codes) → HasIndices n z → AreIndices n z
indices_from_All n z all s h = All-contains (λ code. code < factorial n) (codes z) s all (Contains-codes z s h)

pub All_from_indices : (n : ℕ) (z : Codes) → AreIndices n z → HasIndices n z
All_from_indices n z below = All-codes (λ code. code < factorial n) z below

-- the chain of a state alone is a chain of states
pub IsChain-single : (n : ℕ) (x : List ℕ) → IsBijection n x → IsChain n (single x)
IsChain-single n x sx y h = subst (IsBijection n) (is_same-true x y h) sx

-- so is the empty chain
pub IsChain-nothing : (n : ℕ) → IsChain n nothing
IsChain-nothing n x h = absurd (false≢true h)
