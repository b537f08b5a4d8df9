-- The coranks of a grid are its ranks, in every degree.
-- Route: over codes, the complex of the cochains is the dual of the grid complex, and a finite complex and its dual
-- have the same ranks. The cochains of codes stand for those of states, as chains of codes do for chains of states.
use Rattle.std.proofs.Common.{◌≡◌, ◌≢◌, ◌↔◌, ℕ, ◌<◌, ◌≤◌, Bool, false, cond, ◌&&◌, Some, None, List, refl, ap, ◌∙◌, sym, subst, arith, inl, inr}
use Rattle.std.proofs.Math.IntN.{ℤ, pos, ◌+ℤ◌, ◌-ℤ◌}
use Rattle.std.proofs.lemmas.Int.{ints}
use Rattle.std.proofs.lemmas.Bool.{cases_lt, lt-ltb, le-ltb, false_from_ne_true}
use Rattle.f2_algebra.specs.Chain.{Chain as Codes, holds, nothing, single, pairs_oddly}
use Rattle.f2_algebra.specs.Complex.{Complex, arrow, IsComplex}
use Rattle.f2_algebra.specs.Complex as complex
use Rattle.f2_algebra.specs.Bigraded.{up_m}
use Rattle.f2_algebra.specs.Dual.{IsDualOf}
use Rattle.f2_algebra.proofs.Chains.ParityLemmas.{parity-false}
use Rattle.f2_algebra.proofs.Chains.Sets.{same_chain, holds-nothing, weight-same, weight-none, pairs_oddly-weight, pairs_oddly-comm}
use Rattle.f2_algebra.proofs.Chains.Sums.{holds-sum_over, pairs_oddly-single}
use Rattle.f2_algebra.proofs.Duals.Dual.{ranks_of_dual}
use Rattle.state_rank.specs.Bijection.{IsBijection, ascending}
use Rattle.state_rank.specs.States.{unrank, factorial, states}
use Rattle.state_rank.proofs.RankLemmas.{rank-unrank, IsBijection-unrank}
use Rattle.torus_geom.specs.Marks.{Marks, size, IsGrid}
use Rattle.torus_geom.specs.Border.{border, is_step}
use Rattle.torus_geom.specs.Chains as chains
use Rattle.torus_geom.specs.Codes.{states_of}
use Rattle.torus_geom.specs.Degrees.{bidegree}
use Rattle.torus_geom.specs.Homology.{HasDegree, IsHomologyRank, IsHomologyTable, Row}
use Rattle.torus_geom.specs.Inner.CodeBorder.{states_where, border_of_state}
use Rattle.torus_geom.specs.Inner.CodeHomology as code_homology
use Rattle.torus_geom.specs.Inner.GridComplex.{grid_complex}
use Rattle.torus_geom.proofs.Chains.ChainLemmas.{is_reached, same_states, pairs_oddly-parity, reached-parity}
use Rattle.torus_geom.proofs.Chains.CodesLemmas.{AreIndices, pairs_oddly-states_of, is_states_of}
use Rattle.torus_geom.proofs.Chains.ReachedLemmas.{AreIndices-border_of_state, states_of-border_of_state}
use Rattle.torus_geom.proofs.Chains.StateChains.{holds-states_where as holds-states_where_state, states_where-below}
use Rattle.torus_geom.proofs.Chains.StateTests.{is_same-true, parity-states}
use Rattle.rectangles.specs.Coranks as over_states
use Rattle.rectangles.specs.Coranks.{IsCorank, IsCorankTable}
use Rattle.rectangles.specs.Inner.CodeCoranks.{coborder, down_m, cochain_complex}
use Rattle.f2_algebra.proofs.Ranks.OrderLemmas.{same_bidegree, same_bidegree-is}
use Rattle.rectangles.proofs.Homology.GridCells.{has_all_cells}
use Rattle.rectangles.proofs.Homology.GradedStates.{StandsFor, rank-states}
use Rattle.rectangles.proofs.Homology.HomologyLemmas.{has_bidegree, homology_rank-states}
use Rattle.rectangles.proofs.Law.GridComplexLemmas.{grid_complex_rules}
use Rattle.rectangles.proofs.Square.BorderLemmas.{border_of_state-below}

-- ---- the states that pass a test
-- an index is held if its state passes
holds-states_where : (n : ℕ) (test : List ℕ → Bool) (q : ℕ) → q < factorial n
    → holds (states_where n test) q ≡ test (unrank n q)
holds-states_where n test q l =
    ap (holds (states_where n test)) (sym (rank-unrank n q l))
    ∙ holds-states_where_state n test (unrank n q) (IsBijection-unrank n q l)

-- no other number is held
holds-states_where_past : (n : ℕ) (test : List ℕ → Bool) (q : ℕ) → factorial n ≤ q
    → holds (states_where n test) q ≡ false
holds-states_where_past n test q l =
    false_from_ne_true _ (λ h. let below = states_where-below n test q h in absurd (omega arith))

-- ---- arrows of the grid complex
-- a code past the indices of states has no targets
pub targets-past : (g : Marks) (c : ℕ) → factorial (size g) ≤ c → (grid_complex g).targets c ≡ nothing
targets-past g c l = ap (λ b. cond b (border_of_state g (unrank (size g) c)) nothing) (le-ltb c (factorial (size g)) l)

pub targets-below : (g : Marks) (c : ℕ) → c < factorial (size g)
    → (grid_complex g).targets c ≡ border_of_state g (unrank (size g) c)
targets-below g c l = ap (λ b. cond b (border_of_state g (unrank (size g) c)) nothing) (lt-ltb c (factorial (size g)) l)

-- it has no degree
pub degree-past : (g : Marks) (c : ℕ) → factorial (size g) ≤ c → (grid_complex g).degree c ≡ None
degree-past g c l = ap (λ b. cond b (Some (bidegree g (unrank (size g) c))) None) (le-ltb c (factorial (size g)) l)

-- and is no target
pub not_target : (g : Marks) (s t : ℕ) → factorial (size g) ≤ t → arrow (grid_complex g) s t ≡ false
not_target g s t l = elim (cases_lt s (factorial (size g))) [
  | inl b ↦ false_from_ne_true _ (λ h.
      let below = border_of_state-below g (unrank (size g) s) t (ap (λ z. holds z t) (sym (targets-below g s b)) ∙ h) in
      absurd (omega arith))
  | inr b ↦ ap (λ z. holds z t) (targets-past g s b) ∙ holds-nothing t
]

-- ---- the dual of a complex is a complex
module _ {G H : Type 0} (C : Complex G) (flip : G → H) (D : Complex H) (dual : IsDualOf C flip D) where
  dual_IsComplex : ((m n : H) → D.up m ≡ D.up n → m ≡ n) → ((m : H) → D.up m ≢ m) → IsComplex C → IsComplex D
  dual_IsComplex up_one up_other laws = record {
    up_one = up_one;
    up_other = up_other;
    lowers = λ t s a.
        let (m, above, below) = laws.lowers s t (sym (dual.arrows s t) ∙ a) in
        (flip (C.up m), dual.degrees t m below ∙ ap Some (sym (dual.flip_up m)), dual.degrees s (C.up m) above);
    squares = λ s. same_chain _ _ (λ q.
        holds-sum_over (D.targets s) D.targets q
        ∙ weight-same _ _ (D.targets s) (λ t _. dual.arrows q t)
        ∙ sym (pairs_oddly-weight (D.targets s) (C.targets q))
        ∙ pairs_oddly-comm (D.targets s) (C.targets q)
        ∙ pairs_oddly-weight (C.targets q) (D.targets s)
        ∙ weight-same _ _ (C.targets q) (λ t _. dual.arrows t s)
        ∙ sym (holds-sum_over (C.targets q) C.targets s)
        ∙ ap (λ z. holds z s) (laws.squares q)
        ∙ holds-nothing s ∙ sym (holds-nothing q));
  }

-- ---- cochains over codes
module _ (g : Marks) where
  cotargets-below : (c : ℕ) → c < factorial (size g) → (cochain_complex g).targets c ≡ coborder g (single c)
  cotargets-below c l = ap (λ b. cond b (coborder g (single c)) nothing) (lt-ltb c (factorial (size g)) l)

  cotargets-past : (c : ℕ) → factorial (size g) ≤ c → (cochain_complex g).targets c ≡ nothing
  cotargets-past c l = ap (λ b. cond b (coborder g (single c)) nothing) (le-ltb c (factorial (size g)) l)

  coborder-single : (t s : ℕ) → holds (coborder g (single t)) s ≡ arrow (grid_complex g) s t
  unfolding coborder
  coborder-single t s = elim (cases_lt s (factorial (size g))) [
    | inl l ↦
        holds-states_where (size g) (λ y. pairs_oddly (border_of_state g y) (single t)) s l
        ∙ pairs_oddly-single t (border_of_state g (unrank (size g) s))
        ∙ ap (λ z. holds z t) (sym (targets-below g s l))
    | inr l ↦
        holds-states_where_past (size g) (λ y. pairs_oddly (border_of_state g y) (single t)) s l
        ∙ sym (ap (λ z. holds z t) (targets-past g s l) ∙ holds-nothing t)
  ]

  -- an arrow of cochains is an arrow of chains, turned round
  pub coarrows : (s t : ℕ) → arrow (cochain_complex g) t s ≡ arrow (grid_complex g) s t
  coarrows s t = elim (cases_lt t (factorial (size g))) [
    | inl l ↦ ap (λ z. holds z s) (cotargets-below t l) ∙ coborder-single t s
    | inr l ↦ ap (λ z. holds z s) (cotargets-past t l) ∙ holds-nothing s ∙ sym (not_target g s t l)
  ]

  -- the border of the complex of cochains is the coborder
  pub border-cochain_complex : (f : Codes) → complex.border (cochain_complex g) f ≡ coborder g f
  unfolding coborder
  border-cochain_complex f = same_chain _ _ (λ q.
      holds-sum_over f (cochain_complex g).targets q
      ∙ weight-same _ _ f (λ t _. coarrows q t)
      ∙ sym (pairs_oddly-weight f ((grid_complex g).targets q))
      ∙ pairs_oddly-comm f ((grid_complex g).targets q)
      ∙ elim (cases_lt q (factorial (size g))) [
        | inl l ↦
            ap (λ z. pairs_oddly z f) (targets-below g q l)
            ∙ sym (holds-states_where (size g) (λ y. pairs_oddly (border_of_state g y) f) q l)
        | inr l ↦
            ap (λ z. pairs_oddly z f) (targets-past g q l) ∙ pairs_oddly-comm nothing f ∙ pairs_oddly-weight f nothing
            ∙ weight-same _ (λ t. false) f (λ t _. holds-nothing t) ∙ weight-none f
            ∙ sym (holds-states_where_past (size g) (λ y. pairs_oddly (border_of_state g y) f) q l)
      ])

  down_up : (d : ℤ × ℤ) → down_m (up_m d) ≡ d
  down_up d = let first : (d.0 +ℤ pos 1) -ℤ pos 1 ≡ d.0 = omega (arith, ints) in λ i. (first i, d.1)

  up_down : (d : ℤ × ℤ) → up_m (down_m d) ≡ d
  up_down d = let first : (d.0 -ℤ pos 1) +ℤ pos 1 ≡ d.0 = omega (arith, ints) in λ i. (first i, d.1)

  cochains_IsDualOf : IsDualOf (grid_complex g) (λ d. d) (cochain_complex g)
  cochains_IsDualOf = record {
    flip_one = λ m n e. e;
    flip_up = down_up;
    degrees = λ s m e. e;
    back = λ s k e. (k, e, refl);
    arrows = coarrows;
  }

  chains_IsDualOf : IsDualOf (cochain_complex g) (λ d. d) (grid_complex g)
  chains_IsDualOf = record {
    flip_one = λ m n e. e;
    flip_up = up_down;
    degrees = λ s m e. e;
    back = λ s k e. (k, e, refl);
    arrows = λ s t. sym (coarrows t s);
  }

  cochain_complex_IsComplex : IsGrid g → IsComplex (cochain_complex g)
  cochain_complex_IsComplex s =
      dual_IsComplex (grid_complex g) (λ d. d) (cochain_complex g) cochains_IsDualOf
      (λ m n e. sym (up_down m) ∙ ap up_m e ∙ up_down n)
      (λ m e. let first : m.0 -ℤ pos 1 ≡ m.0 = ap (λ (d : ℤ × ℤ). d.0) e in omega (arith, ints))
      (grid_complex_rules g s)

-- ---- cochains over states
-- what is no state has no border
border-no_state : (g : Marks) (x : List ℕ) → (IsBijection (size g) x → ⊥) → border g (chains.single x) ≡ chains.nothing
border-no_state g x other =
    same_states (border g (chains.single x)) chains.nothing (λ y.
    reached-parity (size g) (is_step g) (chains.single x) y
    ∙ parity-states (size g) (λ w. chains.single x w && is_reached (size g) (is_step g) w y) (λ w. false)
    (λ w sw. ap (λ b. b && is_reached (size g) (is_step g) w y)
    (false_from_ne_true _ (λ h. other (subst (IsBijection (size g)) (sym (is_same-true x w h)) sw))))
    ∙ parity-false (states (size g)))

pairs_oddly-nothing : (n : ℕ) (f : chains.Chain) → chains.pairs_oddly n chains.nothing f ≡ false
pairs_oddly-nothing n f = pairs_oddly-parity n chains.nothing f ∙ parity-false (states n)

-- the coborder of a set of indices stands for the coborder of its chain
pub states_of-coborder : (g : Marks) (f : Codes) → AreIndices (size g) f
    → states_of (size g) (coborder g f) ≡ over_states.coborder g (states_of (size g) f)
unfolding coborder
states_of-coborder g f below =
    is_states_of (size g) (coborder g f) (over_states.coborder g (states_of (size g) f))
    (λ x sx.
    holds-states_where_state (size g) (λ y. pairs_oddly (border_of_state g y) f) x sx
    ∙ sym (pairs_oddly-states_of (size g) (border_of_state g x) f (AreIndices-border_of_state g x))
    ∙ ap (λ z. chains.pairs_oddly (size g) z (states_of (size g) f)) (states_of-border_of_state g x sx))
    (λ x other.
    ap (λ z. chains.pairs_oddly (size g) z (states_of (size g) f)) (border-no_state g x other)
    ∙ pairs_oddly-nothing (size g) (states_of (size g) f))

pub AreIndices-coborder : (g : Marks) (f : Codes) → AreIndices (size g) (coborder g f)
unfolding coborder
AreIndices-coborder g f = states_where-below (size g) (λ y. pairs_oddly (border_of_state g y) f)

cochain_complex_StandsFor : (g : Marks) → StandsFor g (bidegree g) (cochain_complex g) (over_states.coborder g) down_m
cochain_complex_StandsFor g = record {
  degrees = λ s. refl;
  rises = λ d. refl;
  indices = λ f. subst (AreIndices (size g)) (sym (border-cochain_complex g f)) (AreIndices-coborder g f);
  borders = λ f below. ap (states_of (size g)) (border-cochain_complex g f) ∙ states_of-coborder g f below;
}

-- ---- the law
corank_of_codes : (g : Marks) → IsGrid g → (m a : ℤ) (d : ℕ)
    → complex.IsRank (cochain_complex g) (m, a) d ↔ code_homology.IsHomologyRank g m a d
corank_of_codes g s m a d = (
  ranks_of_dual same_bidegree same_bidegree-is (cochain_complex g) (cochain_complex_IsComplex g s)
      (ascending (factorial (size g))) (has_all_cells g) (λ e. e) (grid_complex g) (chains_IsDualOf g)
      (grid_complex_rules g s) (m, a) d,
  ranks_of_dual same_bidegree same_bidegree-is (grid_complex g) (grid_complex_rules g s)
      (ascending (factorial (size g))) (has_all_cells g) (λ e. e) (cochain_complex g) (cochains_IsDualOf g)
      (cochain_complex_IsComplex g s) (m, a) d,
)

-- The corank is the rank.
pub corank-rank : (g : Marks) → IsGrid g → (m a : ℤ) (d : ℕ) → IsCorank g m a d ↔ IsHomologyRank g m a d
corank-rank g s m a d =
    let (states_from, states_to) =
    rank-states g (bidegree g) (λ p. HasDegree g p.0 p.1) (has_bidegree g) (cochain_complex g)
    (over_states.coborder g) down_m
    (cochain_complex_StandsFor g) (m, a) d in
    let (there, back) = corank_of_codes g s m a d in
    let (to, from) = homology_rank-states g m a d in (
      λ is. to (there (states_to is)),
      λ is. states_from (back (from is)),
    )

-- And the table of the coranks is the table of the ranks.
pub corank_table-table : (g : Marks) → IsGrid g → (rows : List Row) → IsCorankTable g rows ↔ IsHomologyTable g rows
corank_table-table g s rows = (
  λ t. record {
    ordered = t.ordered;
    complete = λ m a d. let (there, back) = t.complete m a d in let (to, from) = corank-rank g s m a d in (
      λ h. let (some, r) = there h in (some, to r),
      λ (some, r). back (some, from r),
    );
  },
  λ t. record {
    ordered = t.ordered;
    complete = λ m a d. let (there, back) = t.complete m a d in let (to, from) = corank-rank g s m a d in (
      λ h. let (some, r) = there h in (some, from r),
      λ (some, r). back (some, to r),
    );
  },
)
