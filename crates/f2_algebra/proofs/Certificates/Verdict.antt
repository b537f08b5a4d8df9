-- Each chain of cells of a finite complex has exactly one of the three verdicts.
use Rattle.std.proofs.Common.{◌≡◌, ℕ, ◌≤◌, Bool, true, false, ◌||◌, eqb, List, [], ◌∷◌, Option, Some, None, is_some, ◌⊎◌, inl, inr, refl, sym, ap, ◌∙◌, arith}
use Rattle.std.proofs.lemmas.Bool.{eqb-true, eq-eqb, false≢true, cases_lt}
use Rattle.f2_algebra.specs.Chain.{Chain, holds, codes, nothing, single, ◌⊕◌, pairs_oddly}
use Rattle.f2_algebra.specs.Complex.{Complex, border, IsComplex, AllCells}
use Rattle.f2_algebra.specs.Cancel.{Entry, IsLog, after, rest, lift, pull}
use Rattle.f2_algebra.specs.Verdict.{IsNotCycleBy, IsNullBy, IsAliveBy}
use Rattle.f2_algebra.proofs.Chains.Sets.{any, same_chain, holds-nothing, holds-codes, weight-same, weight-none, pairs_oddly-weight}
use Rattle.f2_algebra.proofs.Chains.Sums.{weight-sum_over, nothing-add, linear-nothing}
use Rattle.f2_algebra.proofs.Cancelling.Cancellation.{border-single, complex_border-border, border-no_arrow}
use Rattle.f2_algebra.proofs.Cancelling.LogLemmas.{correction_by, rest_degrees, correction_degrees, rest_border, cycle_law, lift-linear, pairs-pull_single, pull_IsPull, pull_degrees}
use Rattle.f2_algebra.proofs.Ranks.Existence.{HasAllCells, some_code, reduce}

-- ---- no two verdicts
-- a cochain that pairs evenly with the border of each code pairs evenly with each border
pub even_with_borders : {G : Type 0} (C : Complex G) (f : Chain) → ((s : ℕ) → pairs_oddly (C.targets s) f ≡ false)
    → (w : Chain) → pairs_oddly (border C w) f ≡ false
even_with_borders C f even w = pairs_oddly-weight (border C w) f ∙ weight-sum_over (holds f) w C.targets
    ∙ weight-same _ (λ s. false) w (λ s _. sym (pairs_oddly-weight (C.targets s) f) ∙ even s) ∙ weight-none w

-- a border is a cycle
pub not_cycle-null : {G : Type 0} (C : Complex G) → IsComplex C → (z : Chain) (s : ℕ) (b : Chain) → IsNotCycleBy C z s
    → IsNullBy C z b → ⊥
not_cycle-null C laws z s b a n =
    false≢true (sym (holds-nothing s)
    ∙ ap (λ c. holds c s) (sym (ap (border C) (sym n.0) ∙ complex_border-border C laws b))
    ∙ a.0)

-- a chain that is alive is a cycle
pub not_cycle-alive : {G : Type 0} (C : Complex G) (z : Chain) (s : ℕ) (f : Chain) → IsNotCycleBy C z s
    → IsAliveBy C z f → ⊥
not_cycle-alive C z s f a alive = false≢true (sym (holds-nothing s) ∙ ap (λ c. holds c s) (sym alive.cycle) ∙ a.0)

-- a border is not alive
pub null-alive : {G : Type 0} (C : Complex G) (z b f : Chain) → IsNullBy C z b → IsAliveBy C z f → ⊥
null-alive C z b f n alive =
    false≢true (sym (even_with_borders C f alive.cocycle b) ∙ ap (λ c. pairs_oddly c f) n.0 ∙ alive.odd)

-- ---- one verdict
abbrev IsLeast : Chain → ℕ → Type 0
IsLeast z s = (holds z s ≡ true) × ((t : ℕ) → holds z t ≡ true → s ≤ t)

abbrev IsLeastOf : List ℕ → ℕ → Type 0
IsLeastOf xs s = (any s xs ≡ true) × ((t : ℕ) → any t xs ≡ true → s ≤ t)

in_tail : (b : Bool) {c : Bool} → c ≡ true → (b || c) ≡ true
in_tail true i = refl
in_tail false i = i

le_either : (s t x : ℕ) (b m : Bool) → eqb t x ≡ b → s ≤ x → (m ≡ true → s ≤ t) → (b || m) ≡ true → s ≤ t
le_either s t x true m e l h i = let same = eqb-true t x e in omega arith
le_either s t x false m e l h i = h i

least_of : (x : ℕ) (xs : List ℕ) → (s : ℕ) × IsLeastOf (x ∷ xs) s
least_of x [] = (
  x,
  (
    ap (λ b. b || false) (eq-eqb x x refl),
    λ t i. le_either x t x (eqb t x) false refl (omega arith) (λ f. absurd (false≢true f)) i,
  ),
)
least_of x (y ∷ ys) =
    let (s, (in_ys, low)) = least_of y ys in
    elim (cases_lt s x) [
      | inl l ↦ (s, (in_tail (eqb s x) in_ys, λ t i. le_either s t x (eqb t x) _ refl (omega arith) (low t) i))
      | inr l ↦ (
        x,
        (
          ap (λ b. b || any x (y ∷ ys)) (eq-eqb x x refl),
          λ t i. le_either x t x (eqb t x) _ refl (omega arith) (λ j. let k = low t j in omega arith) i,
        ),
      )
    ]

least : (z : Chain) → ((s : ℕ) × IsLeast z s) ⊎ (z ≡ nothing)
least z = at_list (codes z) refl
  where
    at_list : (xs : List ℕ) → codes z ≡ xs → ((s : ℕ) × IsLeast z s) ⊎ (z ≡ nothing)
    at_list [] e = inr (same_chain z nothing (λ q. holds-codes z q ∙ ap (any q) e ∙ sym (holds-nothing q)))
    at_list (x ∷ xs) e =
        let (s, (is_in, low)) = least_of x xs in
        inl (s, (holds-codes z s ∙ ap (any s) e ∙ is_in, λ t h. low t (sym (ap (any t) e) ∙ sym (holds-codes z t) ∙ h)))

-- the value of an option that has one
pub value_of : {G : Type 0} (d : Option G) → is_some d ≡ true → (m : G) × (d ≡ Some m)
value_of None h = absurd (false≢true h)
value_of (Some m) h = (m, refl)

module _ {G : Type 0} (C : Complex G) (laws : IsComplex C) (log : List Entry) (stands : IsLog C log)
    (bare : (s : ℕ) → (after C log).targets s ≡ nothing) (z : Chain) (cycle : border C z ≡ nothing) where
  -- a cycle of which nothing is left is the border of its correction
  pub null_by_correction : rest log z ≡ nothing → IsNullBy C z (correction_by log z)
  null_by_correction none = (
    sym (cycle_law C laws log stands z cycle
        ∙ ap (λ u. u ⊕ border C (correction_by log z))
        (ap (lift log) none ∙ linear-nothing (lift log) (lift-linear log)) ∙ nothing-add _),
    correction_degrees C laws log stands z,
  )

  -- a cycle of which s is left pairs oddly with the pull of s
  pub alive_by_pull : AllCells C z → (s : ℕ) → holds (rest log z) s ≡ true → IsAliveBy C z (pull log (single s))
  alive_by_pull cells s h =
      let (t, in_z, same) = rest_degrees C laws log stands z s h in
      let (m, is) = value_of (C.degree t) (cells t in_z) in
      record {
        cycle = cycle;
        cocycle = λ u.
            pairs-pull_single log s (C.targets u)
            ∙ ap (λ c. holds c s) (ap (rest log) (sym (border-single C u)) ∙ rest_border C laws log stands (single u)
            ∙ border-no_arrow (after C log) bare _)
            ∙ holds-nothing s;
        odd = pairs-pull_single log s z ∙ h;
        degree = (
          m,
          (λ u i. pull_degrees C laws log stands s (pull log (single s)) (pull_IsPull log s) u i ∙ sym same ∙ is),
          (t, in_z, is),
        );
      }

-- each chain of cells of a finite complex has a verdict
pub exists_verdict : {G : Type 0} (C : Complex G) → IsComplex C → (xs : List ℕ) → HasAllCells C xs → (z : Chain)
    → AllCells C z
    → ((s : ℕ) × IsNotCycleBy C z s) ⊎ (((b : Chain) × IsNullBy C z b) ⊎ ((f : Chain) × IsAliveBy C z f))
exists_verdict C laws xs in_xs z cells = elim (least (border C z)) [
  | inl a ↦ inl a
  | inr cycle ↦
      let (log, stands, bare) = reduce C laws xs in_xs in
      inr (elim (some_code (rest log z)) [
        | inl a ↦ inr (pull log (single a.0), alive_by_pull C laws log stands bare z cycle cells a.0 a.1)
        | inr none ↦ inl (correction_by log z, null_by_correction C laws log stands bare z cycle none)
      ])
]
