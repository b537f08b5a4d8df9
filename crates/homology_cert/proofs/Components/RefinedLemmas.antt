-- A log of a complex is a log of each refinement of it by labels that arrows keep, and leaves the same cells: so the
-- ranks by degree and label are the numbers of left cells with this degree and label.
use Rattle.std.proofs.Common.{◌≡◌, ◌↔◌, ℕ, Bool, true, false, cond, List, [], ◌∷◌, length, Option, Some, None, is_some, refl, sym, ap, subst, ◌∙◌}
use Rattle.std.proofs.lemmas.Bool.{false≢true}
use Rattle.f2_algebra.specs.Chain.{Chain, holds, codes, nothing}
use Rattle.f2_algebra.specs.Complex.{Complex, IsComplex, IsRank}
use Rattle.f2_algebra.specs.Cancel.{is_one_of, cancelled, Entry, IsLog, after}
use Rattle.f2_algebra.proofs.Cancelling.Cancellation.{same_some}
use Rattle.f2_algebra.proofs.Ranks.RankLemmas.{rank_of_log}
use Rattle.homology_cert.specs.Inner.Refined.{with_label, refined, KeepsLabels}

-- what a degree with its label is
pub with_label-is : {G H : Type 0} (h : H) (d : Option G) (m : G) (k : H)
    → (with_label h d ≡ Some (m, k)) ↔ ((d ≡ Some m) × (h ≡ k))
with_label-is {H = H} h None m k = (
  λ e. absurd (false≢true (ap is_some e)),
  λ p. absurd (false≢true (ap is_some p.0)),
)
with_label-is {G = G} {H = H} h (Some n) m k = (
  λ e. let same : (n, h) ≡ (m, k) = same_some (n, h) (m, k) e in
      (ap (λ (p : G × H). Some p.0) same, ap (λ (p : G × H). p.1) same),
  λ p. let first = same_some n m p.0 in let second = p.1 in λ i. Some (first i, second i),
)

module _ {G H : Type 0} (label : ℕ → H) where
  -- a refined complex is a complex
  pub refined_IsComplex : (C : Complex G) → IsComplex C → KeepsLabels C label → IsComplex (refined C label)
  refined_IsComplex C laws keeps = record {
    up_one = λ m n e. let first = laws.up_one m.0 n.0 (ap (λ (p : G × H). p.0) e) in λ i. (first i, (e i).1);
    up_other = λ m e. laws.up_other m.0 (ap (λ (p : G × H). p.0) e);
    lowers = λ s t a.
        let (m, above, below) = laws.lowers s t a in (
          (m, label t),
          (with_label-is (label s) (C.degree s) (C.up m) (label t)).1 (above, keeps s t a),
          (with_label-is (label t) (C.degree t) m (label t)).1 (below, refl),
        );
    squares = laws.squares;
  }

  label_if : (b : Bool) (h : H) (d : Option G) → cond b None (with_label h d) ≡ with_label h (cond b None d)
  label_if true h d = refl
  label_if false h d = refl

  -- cancelling and refining, in either order
  pub refined-cancelled : (C : Complex G) (x y : ℕ) → cancelled (refined C label) x y ≡ refined (cancelled C x y) label
  refined-cancelled C x y = λ i. record {
    up = λ d. (C.up d.0, d.1);
    degree = λ s. label_if (is_one_of x y s) (label s) (C.degree s) i;
    targets = (cancelled C x y).targets;
  }

  pub after-refined : (C : Complex G) (log : List Entry) → after (refined C label) log ≡ refined (after C log) label
  after-refined C [] = refl
  after-refined C (e ∷ log) =
      ap (λ D. after D log) (refined-cancelled C e.x e.y) ∙ after-refined (cancelled C e.x e.y) log

  -- a log is a log of the refined complex
  pub IsLog-refined : (C : Complex G) (log : List Entry) → IsLog C log → IsLog (refined C label) log
  IsLog-refined C [] stands = tt
  IsLog-refined C (e ∷ log) stands = (
    record {
      arrows = stands.0.arrows;
      other_sources = stands.0.other_sources;
      other_targets = stands.0.other_targets;
    },
    subst (λ D. IsLog D log) (sym (refined-cancelled C e.x e.y)) (IsLog-refined (cancelled C e.x e.y) log stands.1),
  )

  -- the rank by degree and label is the number of cells with both that are left
  pub rank_of_refined : (C : Complex G) → IsComplex C → KeepsLabels C label → (log : List Entry) → IsLog C log
      → ((s : ℕ) → (after C log).targets s ≡ nothing) → (m : G) (h : H) (cells : Chain)
      → ((s : ℕ) → (holds cells s ≡ true) ↔ (((after C log).degree s ≡ Some m) × (label s ≡ h)))
      → IsRank (refined C label) (m, h) (length (codes cells))
  rank_of_refined C laws keeps log stands bare m h cells all =
      rank_of_log (refined C label) (refined_IsComplex C laws keeps) log (IsLog-refined C log stands)
      (λ s. ap (λ D. D.targets s) (after-refined C log) ∙ bare s) (m, h) cells
      (λ s.
      let same : (after (refined C label) log).degree s ≡ with_label (label s) ((after C log).degree s) =
      ap (λ D. D.degree s) (after-refined C log) in
      let is = with_label-is (label s) ((after C log).degree s) m h in (
        λ e. same ∙ is.1 ((all s).0 e),
        λ e. (all s).1 (is.0 (sym same ∙ e)),
      ))
