-- The border of a state that one rectangle alone leads on.
use Rattle.std.proofs.Common.{◌≡◌, ◌≢◌, ℕ, ◌<◌, true, false, not, ◌&&◌, ◌||◌, List, slice_index, swap, refl, ap, ap₂, ◌∙◌, sym, eqb, inl, inr}
use Rattle.std.proofs.lemmas.Bool.{cases_eq, eq-eqb, ne_eqb}
use Rattle.f2_algebra.specs.Chain.{holds, single as one_code}
use Rattle.f2_algebra.proofs.Chains.Tables.{same}
use Rattle.f2_algebra.proofs.Chains.ParityLemmas.{parity-and, below, parity_below-same, parity_below-one}
use Rattle.f2_algebra.specs.Bigraded.{up_m}
use Rattle.f2_algebra.proofs.Chains.Sets.{weight-at, same_chain, holds-single}
use Rattle.state_rank.specs.Bijection.{IsBijection}
use Rattle.state_rank.specs.States.{rank, unrank}
use Rattle.state_rank.proofs.RankLemmas.{unrank-rank}
use Rattle.torus_geom.specs.Marks.{Marks, size, IsGrid}
use Rattle.torus_geom.specs.Chains.{single}
use Rattle.torus_geom.specs.Border.{border}
use Rattle.torus_geom.specs.Codes.{states_of}
use Rattle.torus_geom.specs.Inner.CodeBorder.{border_of_state}
use Rattle.torus_geom.proofs.Chains.CodesLemmas.{states_of-single}
use Rattle.torus_geom.proofs.Chains.ReachedLemmas.{states_of-border_of_state}
use Rattle.torus_geom.specs.Degrees.{bidegree}
use Rattle.torus_geom.proofs.Circles.BetweenLemmas.{between, is_between}
use Rattle.torus_geom.proofs.Sums.AllBelowLemmas.{all_below-true, all_below-false}
use Rattle.rectangles.proofs.Square.TwoSteps.{differ, differ-true}
use Rattle.rectangles.proofs.Square.OpenRectangles.{is_open, marks}
use Rattle.rectangles.proofs.Square.EmptyRectangles.{is_clear_of}
use Rattle.rectangles.proofs.Square.RectangleSums.{weight-border_of_state}
use Rattle.rectangles.proofs.Square.BorderLemmas.{step_of_border}
use Rattle.rectangles.proofs.Law.RectangleLaw.{lowers_degrees}

-- ---- one rectangle
module _ (h : Marks) (grid : IsGrid h) (y : List ℕ) (state : IsBijection (size h) y) (a b : ℕ) (la : a < size h)
    (lb : b < size h)
    (only : (i j : ℕ) → i < size h → j < size h
    → is_open (size h) (slice_index h.o) (slice_index h.x) (slice_index y) i j ≡ (eqb i a && eqb j b)) where
  -- the border is the one state to which it leads
  pub border_of_state-one : border_of_state h y ≡ one_code (rank (swap y a b))
  border_of_state-one = same_chain _ _ (λ q.
      sym (weight-at (border_of_state h y) q)
      ∙ weight-border_of_state h grid y state (λ s. eqb q s)
      ∙ parity_below-same (size h) _ (λ i. eqb i a && eqb q (rank (swap y i b))) (λ i li.
      parity_below-same (size h) _ (λ j. eqb i a && (eqb j b && eqb q (rank (swap y i j)))) (λ j lj.
      ap (λ t. t && eqb q (rank (swap y i j))) (only i j li lj)
      ∙ same 3 (λ s t u. (s && t) && u) (λ s t u. s && (t && u)) refl (eqb i a) (eqb j b) (eqb q (rank (swap y i j))))
      ∙ parity-and (eqb i a) (λ j. eqb j b && eqb q (rank (swap y i j))) (below (size h))
      ∙ ap (λ t. eqb i a && t) (parity_below-one (size h) b (λ j. eqb q (rank (swap y i j))) lb))
      ∙ parity_below-one (size h) a (λ i. eqb q (rank (swap y i b))) la
      ∙ sym (holds-single (rank (swap y a b)) q))

-- ---- one state as a border
module _ (h : Marks) (grid : IsGrid h) (x y : List ℕ) (from : IsBijection (size h) y) (to : IsBijection (size h) x)
    (one : border_of_state h y ≡ one_code (rank x)) where
  -- as chains of states
  pub border-single_state : border h (single y) ≡ single x
  border-single_state =
      sym (states_of-border_of_state h y from) ∙ ap (states_of (size h)) one ∙ states_of-single (size h) x to

  -- it is one Maslov degree above, in the same Alexander degree
  pub bidegree-single_state : bidegree h y ≡ up_m (bidegree h x)
  bidegree-single_state =
      let held : holds (border_of_state h y) (rank x) ≡ true =
      ap (λ z. holds z (rank x)) one ∙ holds-single (rank x) (rank x) ∙ eq-eqb (rank x) (rank x) refl in
      let (z, sz, is, (r, proper, step)) = step_of_border h y (rank x) held in
      let same : z ≡ x =
      sym (unrank-rank (size h) z sz) ∙ ap (unrank (size h)) is ∙ unrank-rank (size h) x to in
      lowers_degrees h grid y z r from sz proper step ∙ ap (λ t. up_m (bidegree h t)) same

-- ---- open and not open
module _ (n : ℕ) (O X f : ℕ → ℕ) where
  -- a rectangle with a mark is not open
  pub not_open : (a b t : ℕ) → t < n → between a b t ≡ true
      → (between (f a) (f b) (O t) || between (f a) (f b) (X t)) ≡ true
      → is_open n O X f a b ≡ false
  not_open a b t l column row =
      ap (λ s. differ a b && (is_clear_of n f a b (f a) (f b) && s))
      (all_below-false n (λ t. false || not (between a b t && marks O X (between (f a) (f b)) t)) t l
      (ap₂ (λ u v. false || not (u && v)) column row))
      ∙ same 2 (λ u v. u && (v && false)) (λ u v. false) refl (differ a b) (is_clear_of n f a b (f a) (f b))

  -- one square without a mark is open
  pub is_open-square : (a b : ℕ) → a ≢ b → ((t : ℕ) → t < n → between a b t ≡ eqb t a)
      → between (f a) (f b) (O a) ≡ false → between (f a) (f b) (X a) ≡ false → is_open n O X f a b ≡ true
  is_open-square a b p alone no_o no_x =
      ap₂ (λ u v. u && v) (differ-true a b p)
      (ap₂ (λ u v. u && v)
      (all_below-true n (λ t. not (is_between a b t && is_between (f a) (f b) (f t))) (λ t l.
      ap (λ u. not ((u && not (eqb t a)) && is_between (f a) (f b) (f t))) (alone t l)
      ∙ same 2 (λ u v. not ((u && not u) && v)) (λ u v. true) refl (eqb t a) (is_between (f a) (f b) (f t))))
      (all_below-true n (λ t. false || not (between a b t && marks O X (between (f a) (f b)) t)) (λ t l.
      ap (λ u. false || not (u && marks O X (between (f a) (f b)) t)) (alone t l)
      ∙ elim (cases_eq t a) [
        | inl e ↦
            ap (λ u. not (u && marks O X (between (f a) (f b)) t)) (eq-eqb t a e)
            ∙ ap (λ u. not (marks O X (between (f a) (f b)) u)) e ∙ ap₂ (λ u v. not (u || v)) no_o no_x
        | inr q ↦ ap (λ u. not (u && marks O X (between (f a) (f b)) t)) (ne_eqb t a q)
      ])))
