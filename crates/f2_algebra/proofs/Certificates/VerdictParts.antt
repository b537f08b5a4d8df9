-- The verdict of a chain from those of its parts: what a part of the complex says of a chain, the whole says too; and
-- chains with no code in common.
use Rattle.std.proofs.Common.{◌≡◌, ℕ, true, false, Option, Some, None, is_some, inl, inr, refl, sym, ap, ap₂, ◌∙◌}
use Rattle.std.proofs.lemmas.Bool.{false≢true}
use Rattle.f2_algebra.specs.Chain.{Chain, holds, nothing, ◌⊕◌, pairs_oddly}
use Rattle.f2_algebra.specs.Complex.{Complex, border, IsAbove, IsComplex, AllCells, AllOfDegree}
use Rattle.f2_algebra.specs.Part.{IsPartOf}
use Rattle.f2_algebra.specs.Verdict.{IsNullBy, IsAliveBy}
use Rattle.f2_algebra.proofs.Chains.Tables.{◌⊻◌}
use Rattle.f2_algebra.proofs.Chains.Sets.{holds-add, xor-true, weight, weight-some, pairs_oddly-weight}
use Rattle.f2_algebra.proofs.Chains.Sums.{add_self, sum_over-same, pairs_oddly-add}
use Rattle.f2_algebra.proofs.Cancelling.Cancellation.{same_some, complex_border-add}
use Rattle.f2_algebra.proofs.Cancelling.LogLemmas.{none_where}
use Rattle.f2_algebra.proofs.Certificates.Verdict.{value_of}

-- a chain pairs evenly with a cochain with which it shares no code
pub even_apart : (z f : Chain) → ((s : ℕ) → holds z s ≡ true → holds f s ≡ true → ⊥) → pairs_oddly z f ≡ false
even_apart z f apart = pairs_oddly-weight z f
    ∙ none_where (weight (holds f) z) (λ odd. let (s, in_z, in_f) = weight-some (holds f) z odd in apart s in_z in_f)

module _ {G H : Type 0} (C : Complex G) (embed : H → G) (D : Complex H) (part : IsPartOf C embed D) where
  border-cells : (z : Chain) → AllCells D z → border D z ≡ border C z
  border-cells z cells =
      sum_over-same z D.targets C.targets
      (λ s h. let (m, is) = value_of (D.degree s) (cells s h) in part.targets s m is)

  above_of_part : (s t : ℕ) → IsAbove D s t → IsAbove C s t
  above_of_part s t (m, above, below) =
      (embed m, (part.degrees s (D.up m)).0 above ∙ ap Some (part.embed_up m), (part.degrees t m).0 below)

  -- a chain that is null in a part is null in the whole
  pub null_of_part : (z b : Chain) → IsNullBy D z b → IsNullBy C z b
  null_of_part z b (bounds, above) = (
    sym (border-cells b (λ s h. let (t, in_z, (m, is, _)) = above s h in ap is_some is)) ∙ bounds,
    λ s h. let (t, in_z, up) = above s h in (t, in_z, above_of_part s t up),
  )

  even_elsewhere : IsComplex C → (m : H) (f : Chain) → AllOfDegree D m f
      → ((s : ℕ) → pairs_oddly (D.targets s) f ≡ false) → (s : ℕ) (d : Option H) → D.degree s ≡ d
      → pairs_oddly (C.targets s) f ≡ false
  even_elsewhere laws m f of even s (Some k) is = ap (λ z. pairs_oddly z f) (sym (part.targets s k is)) ∙ even s
  even_elsewhere laws m f of even s None is = even_apart (C.targets s) f (λ t a in_f.
      let (n, above, below) = laws.lowers s t a in
      let same : n ≡ embed m = same_some _ _ (sym below ∙ (part.degrees t m).0 (of t in_f)) in
      let in_part : D.degree s ≡ Some (D.up m) =
      (part.degrees s (D.up m)).1 (above ∙ ap Some (ap C.up same ∙ sym (part.embed_up m))) in
      false≢true (ap is_some (sym is ∙ in_part)))

  -- a chain of the part that is alive there is alive in the whole
  pub alive_of_part : IsComplex C → (z f : Chain) → AllCells D z → IsAliveBy D z f → IsAliveBy C z f
  alive_of_part laws z f cells alive =
      let (m, of, (t, in_z, is)) = alive.degree in
      record {
        cycle = sym (border-cells z cells) ∙ alive.cycle;
        cocycle = λ s. even_elsewhere laws m f of alive.cocycle s (D.degree s) refl;
        odd = alive.odd;
        degree = (embed m, (λ s h. (part.degrees s m).0 (of s h)), (t, in_z, (part.degrees t m).0 is));
      }

-- ---- chains with no code in common
-- the chains have no code in common
abbrev pub Apart : Chain → Chain → Type 0
Apart z w = (s : ℕ) → holds z s ≡ true → holds w s ≡ true → ⊥

in_first : (z w : Chain) → Apart z w → (s : ℕ) → holds z s ≡ true → holds (z ⊕ w) s ≡ true
in_first z w apart s h = holds-add z w s ∙ ap₂ ◌⊻◌ h (none_where (holds w s) (apart s h))

in_second : (z w : Chain) → Apart z w → (s : ℕ) → holds w s ≡ true → holds (z ⊕ w) s ≡ true
in_second z w apart s h = holds-add z w s ∙ ap₂ ◌⊻◌ (none_where (holds z s) (λ i. apart s i h)) h

-- the sum of null chains with no code in common is null
pub null_sum : {G : Type 0} (C : Complex G) (z w b c : Chain) → Apart z w → IsNullBy C z b → IsNullBy C w c
    → IsNullBy C (z ⊕ w) (b ⊕ c)
null_sum C z w b c apart (eb, above_b) (ec, above_c) = (
  complex_border-add C b c ∙ ap₂ ◌⊕◌ eb ec,
  λ s h. elim (xor-true (holds b s) (holds c s) (sym (holds-add b c s) ∙ h)) [
    | inl i ↦ let (t, in_z, up) = above_b s i in (t, in_first z w apart t in_z, up)
    | inr i ↦ let (t, in_w, up) = above_c s i in (t, in_second z w apart t in_w, up)
  ],
)

-- a cycle that is alive by f stays so with a cycle that has no code in common with it nor with f
pub alive_sum : {G : Type 0} (C : Complex G) (z w f : Chain) → Apart z w → Apart w f → border C w ≡ nothing
    → IsAliveBy C z f → IsAliveBy C (z ⊕ w) f
alive_sum C z w f apart apart_f cycle alive =
    let (m, of, (t, in_z, is)) = alive.degree in
    record {
      cycle = complex_border-add C z w ∙ ap₂ ◌⊕◌ alive.cycle cycle ∙ add_self nothing;
      cocycle = alive.cocycle;
      odd = pairs_oddly-add z w f ∙ ap₂ ◌⊻◌ alive.odd (even_apart w f apart_f);
      degree = (m, of, (t, in_first z w apart t in_z, is));
    }
