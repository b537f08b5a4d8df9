-- Pairs that pass in the slice of an Alexander degree pass the tests of a cell of the grid.
use Rattle.std.proofs.Common.{◌≡◌, ℕ, ◌<◌, Bool, true, false, not, ◌&&◌, ◌||◌, eqb, List, [], ◌∷◌, length, ℤ, pos, ◌+ℤ◌, ◌-ℤ◌, Some, if◌then◌else◌, refl, sym, ap, ap₂, ◌∙◌, arith}
use Rattle.std.specs.List.{list_all}
use Rattle.std.specs.List.Sorted.{IsStrictlyIncreasing}
use Rattle.std.proofs.lemmas.Bool.{true≢false, lt-ltb, eq-eqb}
use Rattle.std.proofs.lemmas.Int.{ints}
use Rattle.f2_algebra.specs.Chain.{Chain, holds, codes, nothing, pairs_oddly}
use Rattle.f2_algebra.specs.Complex.{Complex, border as border_in, IsComplex, AllOfDegree, IsCycle}
use Rattle.f2_algebra.specs.Bigraded.{up_m}
use Rattle.f2_algebra.specs.Part.{IsPartOf}
use Rattle.f2_algebra.specs.Certificate.{CyclePair, StepPair, AreCyclePairs, AreStepPairs}
use Rattle.f2_algebra.proofs.Chains.Sets.{any, holds-codes, pairs_oddly-weight, weight-some}
use Rattle.f2_algebra.proofs.Chains.Lists.{codes-of_codes, All-codes}
use Rattle.f2_algebra.proofs.Cancelling.Cancellation.{same_some}
use Rattle.f2_algebra.proofs.Cancelling.LogLemmas.{none_where}
use Rattle.f2_algebra.proofs.Ranks.Bigraded.{at_alexander_IsPartOf, with_second}
use Rattle.f2_algebra.proofs.Ranks.Part.{of_part, border-part, cycle_of_part}
use Rattle.f2_algebra.proofs.Certificates.Span.{Every}
use Rattle.f2_algebra.proofs.Certificates.Certificate.{Every-All}
use Rattle.f2_algebra.proofs.Certificates.LogCertificate.{IsTest, pairwise, Pairwise, every_both}
use Rattle.state_rank.specs.States.{factorial, unrank}
use Rattle.torus_geom.specs.Marks.{Marks, size, IsGrid}
use Rattle.torus_geom.specs.Degrees.{bidegree}
use Rattle.torus_geom.specs.Inner.CodeBorder.{border_of_state, border}
use Rattle.torus_geom.specs.Inner.GridComplex.{grid_complex}
use Rattle.torus_geom.proofs.Sums.AllBelowLemmas.{all_below-true}
use Rattle.rectangles.proofs.Square.BorderLemmas.{border-grid_complex}
use Rattle.rectangles.proofs.Law.GridComplexLemmas.{grid_complex_rules}
use Rattle.homology_cert.specs.Inner.CodeCertificates.{AreStates, HasCycleStates, HasStepStates}
use Rattle.homology_cert.specs.CertificateTests.{one_below}
use Rattle.homology_cert.specs.Inner.CodeTests.{has_bidegree, all_have, is_empty_chain, is_cocycle}
use Rattle.homology_cert.proofs.Homology.SliceRanks.{slice_of, slice-below}
use Rattle.homology_cert.proofs.Certified.PassingLemmas.{PassesCycle, PassesStep, ArePairedApart}
use Rattle.homology_cert.proofs.Certified.CertifiedLemmas.{same_degree-is, degree_of_state, state_of_degree, degree_of_test}

-- a test that each code of a chain passes
pub all_codes : (p : ℕ → Bool) (z : Chain) → ((s : ℕ) → holds z s ≡ true → p s ≡ true) → list_all p (codes z) ≡ true
all_codes p z h = among (codes z) (λ s i. h s (holds-codes z s ∙ i))
  where
    among : (xs : List ℕ) → ((s : ℕ) → any s xs ≡ true → p s ≡ true) → list_all p xs ≡ true
    among [] f = refl
    among (x ∷ xs) f = ap₂ ◌&&◌ (f x (ap (λ b. b || any x xs) (eq-eqb x x refl)))
        (among xs (λ s i. f s (ap (λ b. eqb s x || b) i ∙ either (eqb s x))))
      where
        either : (b : Bool) → (b || true) ≡ true
        either true = refl
        either false = refl

-- ---- lists
every_three : {X : Type 0} (P Q R T : X → Type 0) (xs : List X) → ((x : X) → P x → Q x → R x → T x) → Every P xs
    → Every Q xs → Every R xs → Every T xs
every_three P Q R T [] f p q r = tt
every_three P Q R T (x ∷ xs) f p q r = (f x p.0 q.0 r.0, every_three P Q R T xs f p.1 q.1 r.1)

-- and from four
every_four : {X : Type 0} (P Q R S T : X → Type 0) (xs : List X) → ((x : X) → P x → Q x → R x → S x → T x) → Every P xs
    → Every Q xs → Every R xs → Every S xs → Every T xs
every_four P Q R S T [] f p q r s = tt
every_four P Q R S T (x ∷ xs) f p q r s = (f x p.0 q.0 r.0 s.0, every_four P Q R S T xs f p.1 q.1 r.1 s.1)

-- what follows of two elements from a property of the later one
pairwise_with : {X : Type 0} (P : X → Type 0) (R S : X → X → Type 0) (xs : List X) → ((x y : X) → P y → R x y → S x y)
    → Every P xs → Pairwise R xs → Pairwise S xs
pairwise_with P R S [] f p h = tt
pairwise_with P R S (x ∷ xs) f p h = (
  every_both P (R x) (S x) xs (λ y q r. f x y q r) p.1 h.0,
  pairwise_with P R S xs f
      p.1 h.1,
)

-- the empty chain has no codes
empty_nothing : (z : Chain) → z ≡ nothing → is_empty_chain z ≡ true
empty_nothing z e = ap is_empty_chain e ∙ ap (λ xs. eqb (length xs) 0) (codes-of_codes [] none)
  where
    none : IsStrictlyIncreasing []
    none i l = absurd (omega arith)

module _ (g : Marks) (grid : IsGrid g) (m a : ℤ) where
  -- the complex of the grid
  abbrev G : Complex (ℤ × ℤ)
  G = grid_complex g

  -- the slice
  abbrev S : Complex ℤ
  S = slice_of g a

  -- the bidegree
  abbrev d : ℤ × ℤ
  d = (m, a)

  -- the slice is a part of the complex
  part : IsPartOf G (with_second a) S
  part = at_alexander_IsPartOf a G refl

  -- which keeps the two rules
  rules : IsComplex G
  rules = grid_complex_rules g grid

  -- a state of the degree passes the test of its bidegree
  test_of_degree : (e : ℤ × ℤ) (s : ℕ) → G.degree s ≡ Some e → has_bidegree g e s ≡ true
  test_of_degree e s is = (same_degree-is (bidegree g (unrank (size g) s)) e).1
      (same_some _ _ (sym (degree_of_state g grid s (state_of_degree g grid s e is)) ∙ is))

  -- a chain of a bidegree passes the test of it
  have_degree : (e : ℤ × ℤ) (z : Chain) → AllOfDegree G e z → all_have g e z ≡ true
  have_degree e z of = all_codes (has_bidegree g e) z (λ s h. test_of_degree e s (of s h))

  -- and has states alone
  are_states : (e : ℤ × ℤ) (z : Chain) → AllOfDegree G e z → AreStates g z
  are_states e z of = All-codes (λ code. code < factorial (size g)) z (λ s h. state_of_degree g grid s e (of s h))

  -- the test of the bidegree tells the cells of degree m of the slice
  pub IsTest-has_bidegree : IsTest S m (has_bidegree g d)
  IsTest-has_bidegree s live = (
    λ h. (part.degrees s m).1 (degree_of_test g grid d s (slice-below g a s live) h),
    λ is. test_of_degree d s ((part.degrees s m).0 is),
  )

  -- a cochain that pairs evenly with the borders of the slice does so with all
  even_everywhere : (f : Chain) → AllOfDegree G d f → ((s : ℕ) → pairs_oddly (S.targets s) f ≡ false) → (s : ℕ)
      → pairs_oddly (G.targets s) f ≡ false
  even_everywhere f of even s = none_where (pairs_oddly (G.targets s) f) (λ odd.
      let (t, reached, in_f) = weight-some (holds f) (G.targets s) (sym (pairs_oddly-weight (G.targets s) f) ∙ odd) in
      let (n, above, below) = rules.lowers s t reached in
      let up : G.degree s ≡ Some (m +ℤ pos 1, a) = above
      ∙ ap (λ e. Some (up_m e)) (same_some n d (sym below ∙ of t in_f)) in
      true≢false (sym odd ∙ ap (λ z. pairs_oddly z f) (sym
      (part.targets s (m +ℤ pos 1) ((part.degrees s (m +ℤ pos 1)).1 up))) ∙ even s))

  -- so it passes the test of a cocycle
  cocycle_test : (f : Chain) → AllOfDegree G d f → ((s : ℕ) → pairs_oddly (S.targets s) f ≡ false)
      → is_cocycle g f ≡ true
  cocycle_test f of even = all_below-true (factorial (size g))
      (λ s. not (pairs_oddly (border_of_state g (unrank (size g) s)) f)) (λ s l.
      ap (λ b. not (pairs_oddly (if b then border_of_state g (unrank (size g) s) else nothing) f))
      (sym (lt-ltb s (factorial (size g)) l))
      ∙ ap not (even_everywhere f of even s))

  -- ---- cycle pairs
  module _ (pairs : List CyclePair) (h : AreCyclePairs S m pairs) where
    -- a chain of the degree has the bidegree
    in_grid : (z : Chain) → AllOfDegree S m z → AllOfDegree G d z
    in_grid z of = of_part G (with_second a) S part m z of

    -- each passes its own tests
    pub cycle_passes : Every (PassesCycle g d) pairs
    cycle_passes = every_four (λ (p : CyclePair). IsCycle S m p.cycle) (λ (p : CyclePair). AllOfDegree S m p.cocycle)
        (λ (p : CyclePair). (s : ℕ) → pairs_oddly (S.targets s) p.cocycle ≡ false)
        (λ (p : CyclePair). pairs_oddly p.cycle p.cocycle ≡ true)
        (PassesCycle g d) pairs one
        (Every-All _ pairs h.cycles) (Every-All _ pairs h.cocycle_degrees) (Every-All _ pairs h.cocycles)
        (Every-All _ pairs h.own)
      where
        one : (p : CyclePair) → IsCycle S m p.cycle → AllOfDegree S m p.cocycle
            → ((s : ℕ) → pairs_oddly (S.targets s) p.cocycle ≡ false) → pairs_oddly p.cycle p.cocycle ≡ true
            → PassesCycle g d p
        one p c of even odd =
            let whole = cycle_of_part G (with_second a) S part m p.cycle c in
            record {
              cycle_degree = have_degree d p.cycle whole.0;
              cocycle_degree = have_degree d p.cocycle (in_grid p.cocycle of);
              cycle = empty_nothing (border g p.cycle) (sym (border-grid_complex g p.cycle) ∙ whole.1);
              cocycle = cocycle_test p.cocycle (in_grid p.cocycle of) even;
              own = odd;
            }

    -- and they pair evenly with each other
    pub cycles_apart : Pairwise ArePairedApart pairs
    cycles_apart = pairwise ArePairedApart pairs h.others

    -- their sets are sets of states
    pub cycle_states : Every (HasCycleStates g) pairs
    cycle_states = every_both (λ (p : CyclePair). IsCycle S m p.cycle) (λ (p : CyclePair). AllOfDegree S m p.cocycle)
        (HasCycleStates g) pairs
        (λ p c of. record {
          cycle = are_states d p.cycle (in_grid p.cycle c.0);
          cocycle =
              are_states d p.cocycle (in_grid p.cocycle of);
        })
        (Every-All _ pairs h.cycles) (Every-All _ pairs h.cocycle_degrees)

  -- ---- step pairs
  module _ (pairs : List StepPair) (h : AreStepPairs S m pairs) where
    -- a chain has one border in the slice and in the grid
    same_border : (z : Chain) → AllOfDegree S m z → border g z ≡ border_in S z
    same_border z of = sym (border-part G (with_second a) S part m z of ∙ border-grid_complex g z)

    -- a probe is one degree below
    IsBelow : StepPair → Type 0
    IsBelow p = (s : ℕ) → holds p.probe s ≡ true → (n : ℤ) × (S.degree s ≡ Some n) × (S.up n ≡ m)

    -- so it has the bidegree below
    below : (p : StepPair) → IsBelow p → AllOfDegree G (one_below d) p.probe
    unfolding IsBelow
    below p is s held =
        let (n, at, up) = is s held in
        (part.degrees s n).0 at ∙ ap (λ k. Some (k, a)) (down n m up)
      where
        down : (n k : ℤ) → n +ℤ pos 1 ≡ k → n ≡ k -ℤ pos 1
        down n k e = omega (arith, ints, e)

    -- each passes its own tests
    pub step_passes : Every (PassesStep g d) pairs
    unfolding IsBelow
    step_passes = every_three (λ (p : StepPair). AllOfDegree S m p.step) IsBelow
        (λ (p : StepPair). pairs_oddly (border_in S p.step) p.probe ≡ true) (PassesStep g d) pairs
        (λ p of is odd. record {
          step_degree = have_degree d p.step (of_part G (with_second a) S part m p.step of);
          probe_degree = have_degree (one_below d) p.probe (below p is);
          own = ap (λ z. pairs_oddly z p.probe) (same_border p.step of) ∙ odd;
        })
        (Every-All _ pairs h.steps) (Every-All _ pairs h.probe_degrees) (Every-All _ pairs h.own)

    -- a probe pairs evenly with the borders of later steps
    pub steps_apart : Pairwise (λ (p q : StepPair). pairs_oddly (border g q.step) p.probe ≡ false) pairs
    steps_apart = pairwise_with (λ (p : StepPair). AllOfDegree S m p.step)
        (λ (p q : StepPair). pairs_oddly (border_in S q.step) p.probe ≡ false)
        (λ (p q : StepPair). pairs_oddly (border g q.step) p.probe ≡ false) pairs
        (λ p q of even. ap (λ z. pairs_oddly z p.probe) (same_border q.step of) ∙ even) (Every-All _ pairs h.steps)
        (pairwise _ pairs h.later)

    -- their sets are sets of states
    pub step_states : Every (HasStepStates g) pairs
    unfolding IsBelow
    step_states = every_both (λ (p : StepPair). AllOfDegree S m p.step) IsBelow (HasStepStates g) pairs
        (λ p of is. record {
          step = are_states d p.step (of_part G (with_second a) S part m p.step of);
          probe =
              are_states (one_below d) p.probe (below p is);
        })
        (Every-All _ pairs h.steps) (Every-All _ pairs h.probe_degrees)
