-- Sums modulo 2 over the rectangles that lead from a state and pass a test: the states that an odd number
-- of them lead to, as a sum over the ordered pairs of vertical circles.
use Rattle.std.proofs.Common.{Bool, List, ap, length, refl, slice_index, swap, sym, ℕ, ◌&&◌, ◌∙◌, ◌≡◌}
use Rattle.std.specs.List.{filter}
use Rattle.f2_algebra.proofs.Chains.ParityLemmas.{below, is_odd-filter, parity-and, parity-ext, parity_below, parity_below-same, parity_swap}
use Rattle.f2_algebra.proofs.Chains.Sets.{weight}
use Rattle.f2_algebra.proofs.Chains.Tables.{and_comm, same}
use Rattle.f2_algebra.specs.Chain.{is_odd}
use Rattle.state_rank.proofs.SwapLemmas.{IsBijection-swap}
use Rattle.state_rank.specs.Bijection.{IsBijection}
use Rattle.state_rank.specs.States.{rank, states}
use Rattle.torus_geom.specs.Inner.CodeBorder.{states_where}
use Rattle.torus_geom.specs.Rectangle.{is_same, leads, rectangles}
use Rattle.torus_geom.specs.declared.rects.Rect.{Rect}
use Rattle.rectangles.proofs.Square.RectangleSums.{parity-corners, parity-rectangles, parity-states_one, weight-states_where}
use Rattle.rectangles.proofs.Square.TwoSteps.{differ, differ-true, differ_apart, guard}
use Rattle.torus_geom.proofs.Circles.RectangleLemmas.{corners}

module _ (n : ℕ) (x : List ℕ) (sx : IsBijection n x) (ok : Rect → Bool) where
  -- the rectangle that leaves x at the circles a and b passes
  abbrev pub passes_at : ℕ → ℕ → Bool
  passes_at a b = differ a b && ok (corners a b (slice_index x a) (slice_index x b))

  -- the rectangles from x to y
  pub is_odd-leading : (y : List ℕ) → is_odd (length (filter (λ r. leads r x y && ok r) (rectangles n)))
      ≡ parity_below n (λ a. parity_below n (λ b. passes_at a b && is_same (swap x a b) y))
  is_odd-leading y =
      is_odd-filter (λ r. leads r x y && ok r) (rectangles n)
      ∙ parity-rectangles (λ r. leads r x y && ok r) n
      ∙ parity_below-same n _ _ (λ a la. parity_below-same n _ _ (λ b lb.
      let good : Bool = ok (corners a b (slice_index x a) (slice_index x b)) in
      let there : Bool = is_same (swap x a b) y in
      ap (λ t. differ a b && t) (parity-corners n (slice_index x a) (slice_index x b) (sx.small a la)
      (sx.small b lb) there (λ j k. ok (corners a b j k)))
      ∙ guard (differ a b) _ (there && good) (λ d.
      ap (λ t. t && (there && good))
      (differ-true (slice_index x a) (slice_index x b) (sx.apart a b la lb (differ_apart a b d))))
      ∙ same 3 (λ d t e. d && (t && e)) (λ d t e. (d && e) && t) refl (differ a b) there good))

  -- the weight of the states that an odd number of them lead to
  pub weight-leading : (p : ℕ → Bool)
      → weight p (states_where n (λ y. is_odd (length (filter (λ r. leads r x y && ok r) (rectangles n)))))
      ≡ parity_below n (λ a. parity_below n (λ b. passes_at a b && p (rank (swap x a b))))
  weight-leading p =
      weight-states_where p n (λ y. is_odd (length (filter (λ r. leads r x y && ok r) (rectangles n))))
      ∙ parity-ext _ (λ y. parity_below n (λ a. parity_below n (λ b. passed_to a b y && p (rank y)))) (states n) (λ y.
      ap (λ t. t && p (rank y)) (is_odd-leading y) ∙ and_comm _ (p (rank y))
      ∙ sym (parity-and (p (rank y)) (λ a. parity_below n (λ b. passed_to a b y)) (below n))
      ∙ parity_below-same n _ _ (λ a la. sym (parity-and (p (rank y)) (λ b. passed_to a b y) (below n))
      ∙ parity_below-same n _ _ (λ b lb. and_comm (p (rank y)) (passed_to a b y))))
      ∙ parity_swap (λ y a. parity_below n (λ b. passed_to a b y && p (rank y))) (states n) (below n)
      ∙ parity_below-same n _ _ (λ a la.
      parity_swap (λ y b. passed_to a b y && p (rank y)) (states n) (below n)
      ∙ parity_below-same n _ _ (λ b lb.
      parity-ext _ (λ y. passes_at a b && (is_same (swap x a b) y && p (rank y))) (states n)
      (λ y. same 3 (λ o t q. (o && t) && q) (λ o t q. o && (t && q)) refl (passes_at a b) (is_same (swap x a b) y)
      (p (rank y)))
      ∙ parity-and (passes_at a b) (λ y. is_same (swap x a b) y && p (rank y)) (states n)
      ∙ ap (λ t. passes_at a b && t)
      (parity-states_one n (swap x a b) (IsBijection-swap n x a b la lb sx) (λ y. p (rank y)))))
    where
      passed_to : ℕ → ℕ → List ℕ → Bool
      passed_to a b y = passes_at a b && is_same (swap x a b) y
