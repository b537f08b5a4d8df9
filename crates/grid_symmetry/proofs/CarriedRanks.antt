-- A map of states that undoes itself and carries steps of one grid to steps of another carries borders; if it keeps
-- degrees too, the two grids have the same ranks. If it turns steps round and reflects degrees, the ranks are those at
-- the reflected degrees, and the border is the coborder.
use Rattle.std.proofs.Common.{◌≡◌, ◌↔◌, ℕ, ◌<◌, ◌≤◌, ℤ, List, Some, refl, sym, ap, ap₂, ◌∙◌, arith, inl, inr}
use Rattle.std.proofs.lemmas.Bool.{cases_lt}
use Rattle.f2_algebra.specs.Chain.{Chain, holds, sum_over}
use Rattle.f2_algebra.specs.Complex.{arrow, IsRank}
use Rattle.f2_algebra.specs.Bigraded.{up_m}
use Rattle.f2_algebra.proofs.Chains.Sets.{holds-nothing}
use Rattle.state_rank.specs.Bijection.{IsBijection, ascending}
use Rattle.state_rank.specs.States.{rank, unrank, factorial}
use Rattle.state_rank.proofs.RankLemmas.{IsBijection-unrank, rank-unrank, rank-below, unrank-rank}
use Rattle.torus_geom.specs.Marks.{Marks, size, IsGrid}
use Rattle.torus_geom.specs.Inner.CodeBorder.{border_of_state, border}
use Rattle.torus_geom.specs.Degrees.{bidegree}
use Rattle.torus_geom.specs.Inner.GridComplex.{grid_complex}
use Rattle.torus_geom.specs.Inner.CodeHomology.{IsHomologyRank}
use Rattle.rectangles.proofs.Square.BorderLemmas.{border-grid_complex}
use Rattle.rectangles.proofs.Law.GridComplexLemmas.{grid_complex_rules}
use Rattle.f2_algebra.proofs.Ranks.OrderLemmas.{same_bidegree, same_bidegree-is}
use Rattle.rectangles.proofs.Homology.GridCells.{has_all_cells}
use Rattle.rectangles.proofs.Homology.GradedStates.{degree_at-state}
use Rattle.rectangles.proofs.Homology.CorankLemmas.{targets-past, targets-below, degree-past, not_target, coarrows, border-cochain_complex}
use Rattle.rectangles.specs.Inner.CodeCoranks.{cochain_complex, coborder}
use Rattle.grid_moves.specs.Inner.CodeCarried.{moved, carried}
use Rattle.grid_moves.proofs.Turned.CarriedChains.{AreInverse, moved-below, moved-past, moved-undone, sum_over-carried}
use Rattle.grid_moves.proofs.Turned.TurnedBorders.{border_IsOfStates}
use Rattle.grid_symmetry.proofs.RenamedComplexes.{UndoesItself, renamed, sum_over-renamed, IsRenamed, IsRenamed-back, rank_renamed, flipped_degree, rank_renamed_dual}

moved-undoes : (n : ℕ) (f : List ℕ → List ℕ) → AreInverse n f f → UndoesItself (moved n f)
moved-undoes n f is = moved-undone n f f is

-- f carries the steps of g to those of h
pub record CarriesSteps (g h : Marks) (f : List ℕ → List ℕ) : Type 0 where
  pub same_size : size h ≡ size g
  pub inverse : AreInverse (size g) f f
  pub steps : (x y : List ℕ) → IsBijection (size g) x → IsBijection (size g) y
      → holds (border_of_state h (f x)) (rank (f y)) ≡ holds (border_of_state g x) (rank y)

-- f turns the steps of g round, to those of h
pub record ReversesSteps (g h : Marks) (f : List ℕ → List ℕ) : Type 0 where
  pub same_size : size h ≡ size g
  pub inverse : AreInverse (size g) f f
  pub steps : (x y : List ℕ) → IsBijection (size g) x → IsBijection (size g) y
      → holds (border_of_state h (f y)) (rank (f x)) ≡ holds (border_of_state g x) (rank y)

-- ---- from states to codes
module _ (g h : Marks) (f : List ℕ → List ℕ) (same_size : size h ≡ size g) (is : AreInverse (size g) f f) where
  abbrev n : ℕ
  n = size g

  abbrev p : ℕ → ℕ
  p = moved (size g) f

  past : (c : ℕ) → factorial (size g) ≤ c → factorial (size h) ≤ p c
  past c l = let e = moved-past n f c l in let i = ap factorial same_size in omega arith

  below_also : (c : ℕ) → c < factorial (size g) → p c < factorial (size h)
  below_also c l =
      let e = moved-below n f c l in
      let k = rank-below n (f (unrank n c)) (is.kept (unrank n c) (IsBijection-unrank n c l)) in
      let i = ap factorial same_size in
      omega arith

  -- the targets of the code that c moves to
  targets-moved : (c : ℕ) → c < factorial (size g) → (grid_complex h).targets (p c) ≡ border_of_state h (f (unrank n c))
  targets-moved c l =
      targets-below h (p c) (below_also c l)
      ∙ ap (λ m. border_of_state h (unrank m (p c))) same_size
      ∙ ap (λ k. border_of_state h (unrank n k)) (moved-below n f c l)
      ∙ ap (border_of_state h) (unrank-rank n (f (unrank n c)) (is.kept (unrank n c) (IsBijection-unrank n c l)))

  -- and its degree
  degree-moved : (c : ℕ) → c < factorial (size g) → (grid_complex h).degree (p c) ≡ Some (bidegree h (f (unrank n c)))
  degree-moved c l =
      degree_at-state (size h) (bidegree h) (p c) (below_also c l)
      ∙ ap (λ m. Some (bidegree h (unrank m (p c)))) same_size
      ∙ ap (λ k. Some (bidegree h (unrank n k))) (moved-below n f c l)
      ∙ ap (λ y. Some (bidegree h y)) (unrank-rank n (f (unrank n c)) (is.kept (unrank n c) (IsBijection-unrank n c l)))

  -- what holds of the arrows of states holds of those of codes
  arrows_of_codes : ((x y : List ℕ) → IsBijection (size g) x → IsBijection (size g) y
      → holds (border_of_state h (f x)) (rank (f y)) ≡ holds (border_of_state g x) (rank y))
      → (s t : ℕ) → arrow (grid_complex h) (p s) (p t) ≡ arrow (grid_complex g) s t
  arrows_of_codes steps s t = elim (cases_lt s (factorial (size g))) [
    | inl a ↦ elim (cases_lt t (factorial (size g))) [
      | inl b ↦
          ap₂ holds (targets-moved s a) (moved-below n f t b)
          ∙ steps (unrank n s) (unrank n t) (IsBijection-unrank n s a) (IsBijection-unrank n t b)
          ∙ ap₂ holds (sym (targets-below g s a)) (rank-unrank n t b)
      | inr b ↦ not_target h (p s) (p t) (past t b) ∙ sym (not_target g s t b)
    ]
    | inr a ↦ ap (λ z. holds z (p t)) (targets-past h (p s) (past s a)) ∙ holds-nothing (p t)
        ∙ sym (ap (λ z. holds z t) (targets-past g s a) ∙ holds-nothing t)
  ]

  -- the same if f turns arrows round
  reversed_arrows_of_codes :
      ((x y : List ℕ) → IsBijection (size g) x → IsBijection (size g) y → holds (border_of_state h (f y)) (rank (f x))
      ≡ holds (border_of_state g x) (rank y))
      → (s t : ℕ) → arrow (grid_complex h) (p t) (p s) ≡ arrow (grid_complex g) s t
  reversed_arrows_of_codes steps s t = elim (cases_lt t (factorial (size g))) [
    | inl a ↦ elim (cases_lt s (factorial (size g))) [
      | inl b ↦
          ap₂ holds (targets-moved t a) (moved-below n f s b)
          ∙ steps (unrank n s) (unrank n t) (IsBijection-unrank n s b) (IsBijection-unrank n t a)
          ∙ ap₂ holds (sym (targets-below g s b)) (rank-unrank n t a)
      | inr b ↦ not_target h (p t) (p s) (past s b) ∙ sym (ap (λ z. holds z t) (targets-past g s b) ∙ holds-nothing t)
    ]
    | inr a ↦ ap (λ z. holds z (p s)) (targets-past h (p t) (past t a)) ∙ holds-nothing (p s) ∙ sym (not_target g s t a)
  ]

-- The border of the carried chain is the border, carried.
pub border-carried : (g h : Marks) (f : List ℕ → List ℕ) → CarriesSteps g h f → (z : Chain)
    → border h (carried (size g) f z) ≡ carried (size g) f (border g z)
unfolding border
border-carried g h f c z =
    ap (λ m. sum_over (carried (size g) f z) (λ code. border_of_state h (unrank m code))) c.same_size
    ∙ sum_over-carried (size g) f f c.inverse (border_of_state g) (border_of_state h)
    (border_IsOfStates g (size g) refl)
    (border_IsOfStates h (size g) c.same_size) c.steps z

-- If f turns steps round, it is the coborder.
pub border-reversed : (g h : Marks) (f : List ℕ → List ℕ) → ReversesSteps g h f → (z : Chain)
    → border h (carried (size g) f z) ≡ carried (size g) f (coborder g z)
unfolding carried
border-reversed g h f c z =
    sym (border-grid_complex h (renamed (moved (size g) f) z))
    ∙ sum_over-renamed (moved (size g) f) (moved-undoes (size g) f c.inverse) (cochain_complex g).targets
    (grid_complex h).targets
    (λ s t. reversed_arrows_of_codes g h f c.same_size c.inverse c.steps t s ∙ sym (coarrows g t s)) z
    ∙ ap (renamed (moved (size g) f)) (border-cochain_complex g z)

-- ---- ranks
-- f keeps degrees
abbrev pub KeepsDegrees : Marks → Marks → (List ℕ → List ℕ) → Type 0
KeepsDegrees g h f = (x : List ℕ) → IsBijection (size g) x → bidegree h (f x) ≡ bidegree g x

-- f changes degrees as `flip` says
abbrev pub ReflectsDegrees : Marks → Marks → (ℤ × ℤ → ℤ × ℤ) → (List ℕ → List ℕ) → Type 0
ReflectsDegrees g h flip f = (x : List ℕ) → IsBijection (size g) x → bidegree h (f x) ≡ flip (bidegree g x)

pub grid_complex_IsRenamed : (g h : Marks) (f : List ℕ → List ℕ) → CarriesSteps g h f → KeepsDegrees g h f
    → IsRenamed (grid_complex g) (grid_complex h) (moved (size g) f)
grid_complex_IsRenamed g h f c keeps = record {
  undoes = moved-undoes (size g) f c.inverse;
  same_up = λ m. refl;
  degrees = λ s. elim (cases_lt s (factorial (size g))) [
    | inl l ↦ degree-moved g h f c.same_size c.inverse s l
        ∙ ap Some (keeps (unrank (size g) s) (IsBijection-unrank (size g) s l))
        ∙ sym (degree_at-state (size g) (bidegree g) s l)
    | inr l ↦ degree-past h (moved (size g) f s) (past g h f c.same_size c.inverse s l) ∙ sym (degree-past g s l)
  ];
  arrows = arrows_of_codes g h f c.same_size c.inverse c.steps;
}

-- Grids whose steps and degrees agree have the same ranks.
pub rank-carried : (g h : Marks) (f : List ℕ → List ℕ) → CarriesSteps g h f → KeepsDegrees g h f → (m a : ℤ) (d : ℕ)
    → IsHomologyRank h m a d ↔ IsHomologyRank g m a d
rank-carried g h f c keeps m a d =
    let there = grid_complex_IsRenamed g h f c keeps in (
      rank_renamed (grid_complex h) (grid_complex g) (moved (size g) f)
          (IsRenamed-back (grid_complex g) (grid_complex h) (moved (size g) f) there) (m, a) d,
      rank_renamed (grid_complex g) (grid_complex h) (moved (size g) f) there (m, a) d,
    )

-- ---- ranks of the dual
-- If f turns steps round and changes degrees as `flip` says, the ranks are those at the degrees that `flip` makes.
pub rank-reversed : (g h : Marks) (f : List ℕ → List ℕ) (flip : ℤ × ℤ → ℤ × ℤ) → IsGrid g → IsGrid h
    → ((d : ℤ × ℤ) → flip (flip d) ≡ d) → ((d : ℤ × ℤ) → up_m (flip (up_m d)) ≡ flip d)
    → ReversesSteps g h f → ReflectsDegrees g h flip f → (e : ℤ × ℤ) (d : ℕ) → IsRank (grid_complex g) e d
    → IsRank (grid_complex h) (flip e) d
rank-reversed g h f flip sg sh flip_back flip_up c flips e d r =
    rank_renamed_dual (grid_complex g) (grid_complex h) flip (moved (size g) f)
    (record {
      undoes = moved-undoes (size g) f c.inverse;
      flip_back = flip_back;
      flip_up = flip_up;
      degrees = λ s. elim (cases_lt s (factorial (size g))) [
        | inl l ↦ degree-moved g h f c.same_size c.inverse s l
            ∙ ap Some (flips (unrank (size g) s) (IsBijection-unrank (size g) s l))
            ∙ sym (ap (flipped_degree flip) (degree_at-state (size g) (bidegree g) s l))
        | inr l ↦ degree-past h (moved (size g) f s) (past g h f c.same_size c.inverse s l)
            ∙ sym (ap (flipped_degree flip) (degree-past g s l))
      ];
      arrows = reversed_arrows_of_codes g h f c.same_size c.inverse c.steps;
    })
    same_bidegree same_bidegree-is (grid_complex_rules g sg) (grid_complex_rules h sh) (ascending (factorial (size g)))
    (has_all_cells g) e d r
