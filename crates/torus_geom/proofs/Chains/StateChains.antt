-- The chain of the states that pass a test: what it holds.
use Rattle.std.proofs.Common.{Bool, List, ap, inl, inr, map, subst, sym, true, ℕ, ◌<◌, ◌∙◌, ◌≡◌}
use Rattle.std.specs.List.{filter}
use Rattle.std.proofs.lemmas.Bool.{cases_Bool, eqb-true, false_from_ne_true, false≢true}
use Rattle.std.proofs.lemmas.Cmp.{nat_eq_equiv}
use Rattle.std.proofs.lemmas.Map.Views.{Contains-from_any, list_any-from_Contains}
use Rattle.f2_algebra.proofs.Chains.Sets.{holds-of_codes}
use Rattle.f2_algebra.specs.Chain.{holds}
use Rattle.state_rank.proofs.MemberLemmas.{Contains-filter, Contains-map, member_of_filter, member_of_map}
use Rattle.state_rank.proofs.OrderLemmas.{Contains-states, member_of_states}
use Rattle.state_rank.proofs.RankLemmas.{rank-below, rank_one_to_one}
use Rattle.state_rank.specs.Bijection.{IsBijection}
use Rattle.state_rank.specs.States.{factorial, rank, states}
use Rattle.torus_geom.specs.Inner.CodeBorder.{states_where}

module _ (n : ℕ) (test : List ℕ → Bool) where
  -- what it holds is the index of a state that passes
  pub member_of_states_where : (q : ℕ) → holds (states_where n test) q ≡ true
      → (y : List ℕ) × IsBijection n y × (rank y ≡ q) × (test y ≡ true)
  member_of_states_where q h =
      let ranks : List ℕ = map rank (filter test (states n)) in
      let (y, in_filter, is) =
      member_of_map rank (filter test (states n)) q
      (Contains-from_any (λ a b. eqb-true a b) q ranks (sym (holds-of_codes ranks q) ∙ h)) in
      let (in_states, passes) = member_of_filter test (states n) y in_filter in
      (y, member_of_states n y in_states, is, passes)

  -- so it holds indices of states
  pub states_where-below : (q : ℕ) → holds (states_where n test) q ≡ true → q < factorial n
  states_where-below q h = let (y, sy, is, passes) = member_of_states_where q h in
      subst (λ k. k < factorial n) is (rank-below n y sy)

  -- it holds the index of a state that passes, and of no other
  pub holds-states_where : (y : List ℕ) → IsBijection n y → holds (states_where n test) (rank y) ≡ test y
  holds-states_where y sy = elim (cases_Bool (test y)) [
    | inl e ↦
        holds-of_codes (map rank (filter test (states n))) (rank y)
        ∙ list_any-from_Contains nat_eq_equiv (rank y) (map rank (filter test (states n)))
        (Contains-map rank (filter test (states n)) y (Contains-filter test (states n) y (Contains-states n y sy) e))
        ∙ sym e
    | inr e ↦
        false_from_ne_true _ (λ h.
        let (z, sz, is, passes) = member_of_states_where (rank y) h in
        false≢true (sym e ∙ ap test (sym (rank_one_to_one n z y sz sy is)) ∙ passes))
        ∙ sym e
  ]
