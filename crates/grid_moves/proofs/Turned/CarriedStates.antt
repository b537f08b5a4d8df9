-- A set of indices that is carried along a map of states stands for the carried chain of states; so do the turned and
-- the transposed chain. A turn carries borders of chains of states.
-- Route: the two are compared state by state.
use Rattle.std.proofs.Common.{◌≡◌, ℕ, ◌<◌, List, map, sym, ap, subst, ◌∙◌}
use Rattle.std.specs.List.{Contains, list_any}
use Rattle.std.proofs.lemmas.Bool.{eqb-true, false_from_ne_true}
use Rattle.std.proofs.lemmas.Cmp.{nat_eq_equiv}
use Rattle.std.proofs.lemmas.Map.Views.{Contains-from_any, list_any-from_Contains}
use Rattle.f2_algebra.specs.Chain.{Chain as Codes, holds, codes, of_codes}
use Rattle.f2_algebra.proofs.Chains.Sets.{holds-of_codes}
use Rattle.state_rank.specs.Bijection.{IsBijection}
use Rattle.state_rank.specs.States.{rank, unrank, factorial, transpose}
use Rattle.state_rank.proofs.MemberLemmas.{Contains-map, member_of_map}
use Rattle.state_rank.proofs.RankLemmas.{rank-below, rank-unrank, rank_one_to_one, IsBijection-unrank}
use Rattle.torus_geom.specs.Marks.{Marks, IsGrid, size}
use Rattle.torus_geom.proofs.TransposeLemmas.{IsBijection-transposed}
use Rattle.grid_moves.proofs.Turned.TurnedStates.{IsBijection-turned_state}
use Rattle.torus_geom.specs.Chains.{Chain, IsChain, members, carried}
use Rattle.torus_geom.specs.Codes.{states_of}
use Rattle.torus_geom.proofs.Chains.StateTests.{is_same-is, is_same-true, any-member, member_of_any, Contains-codes, holds-member}
use Rattle.torus_geom.proofs.Chains.ChainLemmas.{Contains-members, member_of_members}
use Rattle.torus_geom.proofs.Chains.CodesLemmas.{AreIndices, states_of-at, in_states_of, is_states_of}
use Rattle.grid_moves.specs.Carried.{turned_state, turned_chain, transposed_chain}
use Rattle.grid_moves.specs.Inner.CodeCarried as over_codes
use Rattle.grid_moves.specs.Inner.CodeCarried.{moved}
use Rattle.grid_moves.specs.Moves.{turned}
use Rattle.grid_moves.specs.declared.turns.Side.{Side}
use Rattle.grid_moves.proofs.Turned.CarriedChains.{moved-below, moved-rank}
use Rattle.grid_moves.proofs.Turned.TurnLemmas.{length-turned_rows}
use Rattle.grid_moves.proofs.Turned.TurnedBorders as code_laws
use Rattle.torus_geom.specs.Border.{border}
use Rattle.torus_geom.specs.Chains.{Chain, IsChain, members, carried}
use Rattle.torus_geom.specs.Codes.{states_of}
use Rattle.torus_geom.specs.Inner.CodeBorder as code_border
use Rattle.torus_geom.specs.Rectangle.{is_same}
use Rattle.torus_geom.proofs.Chains.StateTests.{is_same-is, is_same-true, any-member, member_of_any, Contains-codes, holds-member}
use Rattle.torus_geom.proofs.Chains.ChainLemmas.{Contains-members, member_of_members}
use Rattle.torus_geom.proofs.Chains.CodesLemmas.{AreIndices, by_indices, states_of-at, in_states_of, is_states_of}
use Rattle.torus_geom.proofs.Chains.ReachedLemmas.{AreIndices-border, states_of-border, states_of-border_at}
use Rattle.f2_algebra.proofs.Chains.Tables.{same_test}

-- ---- chains carried along a map of states
module _ (n : ℕ) (f : List ℕ → List ℕ) (keeps : (x : List ℕ) → IsBijection n x → IsBijection n (f x)) where
  pub states_of-carried : (z : Codes) → AreIndices n z
      → states_of n (over_codes.carried n f z) ≡ carried n f (states_of n z)
  unfolding over_codes.carried carried
  states_of-carried z below =
      is_states_of n (over_codes.carried n f z) (carried n f (states_of n z))
      (λ y sy. same_test (holds (of_codes (map (moved n f) (codes z))) (rank y))
      (list_any (λ x. is_same (f x) y) (members n (states_of n z)))
      (λ h.
      let (s, in_codes, is) =
      member_of_map (moved n f) (codes z) (rank y)
      (Contains-from_any (λ a b. eqb-true a b) (rank y) (map (moved n f) (codes z))
      (sym (holds-of_codes (map (moved n f) (codes z)) (rank y)) ∙ h)) in
      let in_z = holds-member z s in_codes in
      let l = below s in_z in
      let x = unrank n s in
      let sx = IsBijection-unrank n s l in
      any-member (λ x. is_same (f x) y) (members n (states_of n z)) x
      (Contains-members n (states_of n z) x sx (states_of-at n z x sx ∙ ap (holds z) (rank-unrank n s l) ∙ in_z))
      (is_same-is (f x) y (rank_one_to_one n (f x) y (keeps x sx) sy (sym (moved-below n f s l) ∙ is))))
      (λ h.
      let (x, in_members, is) = member_of_any (λ x. is_same (f x) y) (members n (states_of n z)) h in
      let (sx, passes) = member_of_members n (states_of n z) x in_members in
      holds-of_codes (map (moved n f) (codes z)) (rank y)
      ∙ list_any-from_Contains nat_eq_equiv (rank y) (map (moved n f) (codes z))
      (subst (Contains (map (moved n f) (codes z)))
      (moved-rank n f x sx ∙ ap rank (is_same-true (f x) y is))
      (Contains-map (moved n f) (codes z) (rank x) (Contains-codes z (rank x) (in_states_of n z x passes).1)))))
      (λ y other. false_from_ne_true _ (λ h.
      let (x, in_members, is) = member_of_any (λ x. is_same (f x) y) (members n (states_of n z)) h in
      let (sx, passes) = member_of_members n (states_of n z) x in_members in
      other (subst (IsBijection n) (is_same-true (f x) y is) (keeps x sx))))

  pub AreIndices-carried : (z : Codes) → AreIndices n z → AreIndices n (over_codes.carried n f z)
  unfolding over_codes.carried
  AreIndices-carried z below q h =
      let (s, in_codes, is) =
      member_of_map (moved n f) (codes z) q
      (Contains-from_any (λ a b. eqb-true a b) q (map (moved n f) (codes z))
      (sym (holds-of_codes (map (moved n f) (codes z)) q) ∙ h)) in
      let l = below s (holds-member z s in_codes) in
      subst (λ k. k < factorial n) (sym (moved-below n f s l) ∙ is)
      (rank-below n (f (unrank n s)) (keeps (unrank n s) (IsBijection-unrank n s l)))

  pub IsChain-carried : (z : Chain) → IsChain n (carried n f z)
  unfolding carried
  IsChain-carried z y h =
      let (x, in_members, is) = member_of_any (λ x. is_same (f x) y) (members n z) h in
      let (sx, passes) = member_of_members n z x in_members in
      subst (IsBijection n) (is_same-true (f x) y is) (keeps x sx)

-- Transposed chains.
pub states_of-transposed : (n : ℕ) (z : Codes) → AreIndices n z
    → states_of n (over_codes.transposed_chain n z) ≡ transposed_chain n (states_of n z)
states_of-transposed n z below = states_of-carried n transpose (IsBijection-transposed n) z below

-- Turned chains.
pub states_of-turned : (side : Side) (n : ℕ) (z : Codes) → AreIndices n z
    → states_of n (over_codes.turned_chain side n z) ≡ turned_chain side n (states_of n z)
states_of-turned side n z below =
    states_of-carried n (turned_state side) (IsBijection-turned_state side n) z below

pub IsChain-turned : (side : Side) (n : ℕ) (z : Chain) → IsChain n (turned_chain side n z)
IsChain-turned side n z = IsChain-carried n (turned_state side) (IsBijection-turned_state side n) z

-- A turn carries the border of a chain to the border of the turned chain.
pub border-turned : (side : Side) (g : Marks) → IsGrid g → (z : Chain) → IsChain (size g) z
    → border (turned side g) (turned_chain side (size g) z) ≡ turned_chain side (size g) (border g z)
border-turned side g s =
    let n = size g in
    let h = turned side g in
    by_indices n (λ z. border h (turned_chain side n z) ≡ turned_chain side n (border g z)) (λ z below.
    ap (border h) (sym (states_of-turned side n z below))
    ∙ sym (states_of-border_at h n (length-turned_rows side n g.o) (over_codes.turned_chain side n z)
    (AreIndices-carried n (turned_state side) (IsBijection-turned_state side n) z below))
    ∙ ap (states_of n) (code_laws.border-turned side g s z)
    ∙ states_of-turned side n (code_border.border g z) (AreIndices-border g z)
    ∙ ap (turned_chain side n) (states_of-border g z below))
