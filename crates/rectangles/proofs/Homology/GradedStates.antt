-- The rank of a complex over the indices of the states of a grid is that over states, for each grading of the states
-- and each complex whose border stands for a map of chains of states, as the border or the coborder.
-- Route: a set of codes is a chain of a degree, a cycle, a boundary of the complex if the chain of its states is one;
-- so cycles modulo boundaries have one dimension.
use Rattle.std.proofs.Common.{◌≡◌, ◌↔◌, ℕ, ◌<◌, Bool, true, false, List, Some, None, if◌then◌else◌, is_some, Option, refl, sym, ap, ap₂, subst, ◌∙◌, inl, inr}
use Rattle.std.specs.Prelude.{nat_lt}
use Rattle.std.proofs.lemmas.Bool.{false≢true, lt-ltb, ltb-true}
use Rattle.f2_algebra.specs.Chain.{Chain as Codes, chain_sums as code_sums, holds, ◌⊕◌ as ◌⊞◌}
use Rattle.f2_algebra.specs.Chain as codes
use Rattle.f2_algebra.specs.Complex.{Complex, AllOfDegree}
use Rattle.f2_algebra.specs.Complex as complex
use Rattle.f2_algebra.specs.Dimension.{IsDimension}
use Rattle.f2_algebra.proofs.Cancelling.Cancellation.{same_some, complex_border-add, border-nothing}
use Rattle.f2_algebra.proofs.Chains.Sets.{holds-add, xor-true}
use Rattle.f2_algebra.proofs.Chains.Sums.{add_self}
use Rattle.f2_algebra.proofs.Ranks.DimensionLemmas.{Carries, dimension_carried}
use Rattle.f2_algebra.proofs.Ranks.RankLemmas.{degree-add, degree-nothing}
use Rattle.state_rank.specs.Bijection.{IsBijection}
use Rattle.state_rank.specs.States.{rank, unrank, factorial}
use Rattle.state_rank.proofs.RankLemmas.{unrank-rank}
use Rattle.torus_geom.specs.Chains.{Chain, IsChain, nothing, ◌⊕◌, chain_sums}
use Rattle.torus_geom.specs.Codes.{states_of}
use Rattle.torus_geom.specs.Inner.CodeBorder.{codes_of}
use Rattle.torus_geom.specs.Marks.{Marks, size}
use Rattle.torus_geom.proofs.Chains.ChainLemmas.{IsChain-add}
use Rattle.torus_geom.proofs.Chains.CodesLemmas.{AreIndices, states_of-unrank, in_states_of, AreIndices-codes_of, states_of-codes_of, codes_of-states_of, states_of_one_to_one, states_of-nothing, states_of-add, nothing_from_states_of}

-- the degree of a state, and of no other code
pub value_if : {D : Type 0} (b : Bool) (v d : D) → (if b then Some v else None) ≡ Some d → (b ≡ true) × (v ≡ d)
value_if true v d e = (refl, same_some v d e)
value_if false v d e = absurd (false≢true (ap is_some e))

-- the degree of a state by its index, and of no other code
abbrev pub degree_at : {D : Type 0} → ℕ → (List ℕ → D) → ℕ → Option D
degree_at n of s = if nat_lt s (factorial n) then Some (of (unrank n s)) else None

-- C is a complex over the indices of the states of g, with the degrees `of`: its border stands for the map `border` of
-- chains, and `above` is the degree from which it leads to a degree
pub record StandsFor {D : Type 0} (g : Marks) (of : List ℕ → D) (C : Complex D) (border : Chain → Chain)
    (above : D → D) :
    Type 0 where
  pub degrees : (s : ℕ) → C.degree s ≡ degree_at (size g) of s
  pub rises : (d : D) → C.up d ≡ above d
  pub indices : (z : Codes) → AreIndices (size g) (complex.border C z)
  pub borders : (z : Codes) → AreIndices (size g) z
      → states_of (size g) (complex.border C z) ≡ border (states_of (size g) z)

-- a code that has a degree is the index of a state of that degree
pub degree_at-is : {D : Type 0} (n : ℕ) (of : List ℕ → D) (s : ℕ) (d : D) → degree_at n of s ≡ Some d
    → (s < factorial n) × (of (unrank n s) ≡ d)
degree_at-is n of s d e = let told = value_if _ (of (unrank n s)) d e in (ltb-true s (factorial n) told.0, told.1)

-- and the index of a state has its degree
pub degree_at-state : {D : Type 0} (n : ℕ) (of : List ℕ → D) (s : ℕ) → s < factorial n
    → degree_at n of s ≡ Some (of (unrank n s))
degree_at-state n of s l = ap (λ b. if b then Some (of (unrank n s)) else None) (lt-ltb s (factorial n) l)

-- `Has d x` says that x is a state of degree d
module _ {D : Type 0} (g : Marks) (of : List ℕ → D) (Has : D → List ℕ → Type 0)
    (has : (d : D) (x : List ℕ) → Has d x ↔ (IsBijection (size g) x × (of x ≡ d))) (C : Complex D)
    (border : Chain → Chain) (above : D → D) (is : StandsFor g of C border above) where
  abbrev AllHave : D → Chain → Type 0
  AllHave d z = (x : List ℕ) → z x ≡ true → Has d x

  -- ---- degrees
  ranks_of_degree : (d : D) (z : Codes) → AllOfDegree C d z → AreIndices (size g) z
  ranks_of_degree d z all s h = (degree_at-is (size g) of s d (sym (is.degrees s) ∙ all s h)).0

  states_of_degree : (d : D) (z : Codes) → AllOfDegree C d z → AllHave d (states_of (size g) z)
  states_of_degree d z all x h =
      let (sx, in_z) = in_states_of (size g) z x h in
      let at = (degree_at-is (size g) of (rank x) d (sym (is.degrees (rank x)) ∙ all (rank x) in_z)).1 in
      (has d x).1 (sx, ap of (sym (unrank-rank (size g) x sx)) ∙ at)

  codes_of_degree : (d : D) (z : Codes) → AreIndices (size g) z → AllHave d (states_of (size g) z) → AllOfDegree C d z
  codes_of_degree d z below all s h =
      let l = below s h in
      let at = all (unrank (size g) s) (states_of-unrank (size g) z s l ∙ h) in
      is.degrees s ∙ degree_at-state (size g) of s l ∙ ap Some ((has d (unrank (size g) s)).0 at).1

  IsChain-degree : (d : D) (w : Chain) → AllHave d w → IsChain (size g) w
  IsChain-degree d w all x h = ((has d x).0 (all x h)).0

  -- the set of the indices of a chain of a degree
  codes_of_chain : (d : D) (w : Chain) → AllHave d w → AllOfDegree C d (codes_of (size g) w)
  codes_of_chain d w all =
      codes_of_degree d (codes_of (size g) w) (AreIndices-codes_of (size g) w)
      (subst (AllHave d) (sym (states_of-codes_of (size g) w (IsChain-degree d w all))) all)

  -- ---- cycles and boundaries
  module _ (d : D) where
    abbrev IsCycleAt : Chain → Type 0
    IsCycleAt z = AllHave d z × (border z ≡ nothing)

    abbrev IsBoundaryAt : Chain → Type 0
    IsBoundaryAt z = (w : Chain) × AllHave (above d) w × (border w ≡ z)

    border-codes_of : (w : Chain) → IsChain (size g) w
        → states_of (size g) (complex.border C (codes_of (size g) w)) ≡ border w
    border-codes_of w sw =
        is.borders (codes_of (size g) w) (AreIndices-codes_of (size g) w) ∙ ap border (states_of-codes_of (size g) w sw)

    cycle_ranks : (z : Codes) → complex.IsCycle C d z → AreIndices (size g) z
    cycle_ranks z c = ranks_of_degree d z c.0

    cycle_states : (w : Chain) → IsCycleAt w → IsChain (size g) w
    cycle_states w c = IsChain-degree d w c.0

    cycle-states_of : (z : Codes) → complex.IsCycle C d z → IsCycleAt (states_of (size g) z)
    cycle-states_of z c = (
      states_of_degree d z c.0,
      sym (is.borders z (cycle_ranks z c)) ∙ ap (states_of (size g)) c.1 ∙ states_of-nothing (size g),
    )

    cycle-codes_of : (w : Chain) → IsCycleAt w → complex.IsCycle C d (codes_of (size g) w)
    cycle-codes_of w c = (
      codes_of_chain d w c.0,
      nothing_from_states_of (size g) (complex.border C (codes_of (size g) w)) (is.indices (codes_of (size g) w))
          (border-codes_of w (cycle_states w c) ∙ c.1),
    )

    boundary-states_of : (z : Codes) → complex.IsBoundary C d z → IsBoundaryAt (states_of (size g) z)
    boundary-states_of z (w, all, e) =
        let of_above : AllOfDegree C (above d) w = subst (λ d. AllOfDegree C d w) (is.rises d) all in (
          states_of (size g) w,
          states_of_degree (above d) w of_above,
          sym (is.borders w (ranks_of_degree (above d) w of_above)) ∙ ap (states_of (size g)) e,
        )

    -- the border of a chain is that of its indices
    boundary-codes : (z : Codes) → AreIndices (size g) z → IsBoundaryAt (states_of (size g) z)
        → complex.IsBoundary C d z
    boundary-codes z below (v, all, e) = (
      codes_of (size g) v,
      subst (λ d. AllOfDegree C d (codes_of (size g) v)) (sym (is.rises d)) (codes_of_chain (above d) v all),
      states_of_one_to_one (size g) (complex.border C (codes_of (size g) v)) z (is.indices (codes_of (size g) v)) below
          (border-codes_of v (IsChain-degree (above d) v all) ∙ e),
    )

    codes_of-add : (z w : Chain) → IsChain (size g) z → IsChain (size g) w
        → codes_of (size g) (z ⊕ w) ≡ codes_of (size g) z ⊞ codes_of (size g) w
    codes_of-add z w sz sw =
        states_of_one_to_one (size g) (codes_of (size g) (z ⊕ w)) (codes_of (size g) z ⊞ codes_of (size g) w)
        (AreIndices-codes_of (size g) (z ⊕ w))
        (λ s h. elim (xor-true (holds (codes_of (size g) z) s) (holds (codes_of (size g) w) s)
        (sym (holds-add (codes_of (size g) z) (codes_of (size g) w) s) ∙ h)) [
          | inl i ↦ AreIndices-codes_of (size g) z s i
          | inr i ↦ AreIndices-codes_of (size g) w s i
        ])
        (states_of-codes_of (size g) (z ⊕ w) (IsChain-add (size g) z w sz sw)
        ∙ sym (states_of-add (size g) (codes_of (size g) z) (codes_of (size g) w)
        ∙ ap₂ (λ u v. u ⊕ v) (states_of-codes_of (size g) z sz) (states_of-codes_of (size g) w sw)))

    codes_of-nothing : codes_of (size g) nothing ≡ codes.nothing
    codes_of-nothing =
        nothing_from_states_of (size g) (codes_of (size g) nothing) (AreIndices-codes_of (size g) nothing)
        (states_of-codes_of (size g) nothing (λ x h. absurd (false≢true h)))

    -- cycles of codes, and so cycles of states, are closed under sums
    codes_cycle-nothing : complex.IsCycle C d codes.nothing
    codes_cycle-nothing = (degree-nothing C d, border-nothing C)

    codes_cycle-add : (z w : Codes) → complex.IsCycle C d z → complex.IsCycle C d w → complex.IsCycle C d (z ⊞ w)
    codes_cycle-add z w c e = (
      degree-add C d z w c.0 e.0,
      complex_border-add C z w ∙ ap₂ (λ u v. u ⊞ v) c.1 e.1 ∙ add_self codes.nothing,
    )

    cycle-nothing : IsCycleAt nothing
    cycle-nothing = subst IsCycleAt (states_of-nothing (size g)) (cycle-states_of codes.nothing codes_cycle-nothing)

    cycle-add : (z w : Chain) → IsCycleAt z → IsCycleAt w → IsCycleAt (z ⊕ w)
    cycle-add z w c e =
        subst IsCycleAt
        (states_of-add (size g) (codes_of (size g) z) (codes_of (size g) w)
        ∙ ap₂ (λ u v. u ⊕ v) (states_of-codes_of (size g) z (cycle_states z c))
        (states_of-codes_of (size g) w (cycle_states w e)))
        (cycle-states_of (codes_of (size g) z ⊞ codes_of (size g) w)
        (codes_cycle-add (codes_of (size g) z) (codes_of (size g) w) (cycle-codes_of z c) (cycle-codes_of w e)))

    -- sets of codes stand for chains of states
    codes_to_states : Carries code_sums chain_sums (complex.IsCycle C d) (complex.IsBoundary C d) IsCycleAt
        IsBoundaryAt (states_of (size g)) (codes_of (size g))
    codes_to_states = record {
      nothing = states_of-nothing (size g);
      add = λ z w _ _. states_of-add (size g) z w;
      cycle_nothing = codes_cycle-nothing;
      cycle_add = codes_cycle-add;
      cycles = cycle-states_of;
      cycles_back = cycle-codes_of;
      undone = λ w c. states_of-codes_of (size g) w (cycle_states w c);
      boundaries = λ z _ x. boundary-states_of z x;
      boundaries_back = λ z c y. boundary-codes z (cycle_ranks z c) y;
    }

    states_to_codes : Carries chain_sums code_sums IsCycleAt IsBoundaryAt (complex.IsCycle C d)
        (complex.IsBoundary C d) (codes_of (size g)) (states_of (size g))
    states_to_codes = record {
      nothing = codes_of-nothing;
      add = λ z w c e. codes_of-add z w (cycle_states z c) (cycle_states w e);
      cycle_nothing = cycle-nothing;
      cycle_add = cycle-add;
      cycles = cycle-codes_of;
      cycles_back = cycle-states_of;
      undone = λ z c. codes_of-states_of (size g) z (cycle_ranks z c);
      boundaries = λ w c x.
          boundary-codes (codes_of (size g) w) (AreIndices-codes_of (size g) w)
          (subst IsBoundaryAt (sym (states_of-codes_of (size g) w (cycle_states w c))) x);
      boundaries_back = λ w c y.
          subst IsBoundaryAt (states_of-codes_of (size g) w (cycle_states w c))
          (boundary-states_of (codes_of (size g) w) y);
    }

    -- The rank of the complex is the dimension over states.
    pub rank-states : (r : ℕ) → complex.IsRank C d r ↔ IsDimension chain_sums IsCycleAt IsBoundaryAt r
    rank-states r = (
      dimension_carried code_sums chain_sums (complex.IsCycle C d) (complex.IsBoundary C d) IsCycleAt IsBoundaryAt
          (states_of (size g)) (codes_of (size g)) codes_to_states r,
      dimension_carried chain_sums code_sums IsCycleAt IsBoundaryAt (complex.IsCycle C d) (complex.IsBoundary C d)
          (codes_of (size g)) (states_of (size g)) states_to_codes r,
    )
