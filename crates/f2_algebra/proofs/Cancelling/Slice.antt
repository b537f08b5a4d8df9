-- How a slice's own words give the complex without a cancelled arrow.
use Rattle.std.proofs.Common.{◌≡◌, ℕ, not, cond, ◌&&◌, None, refl, sym, ap, ◌∙◌, nat_cmp}
use Rattle.f2_algebra.specs.Chain.{holds, nothing}
use Rattle.f2_algebra.specs.Complex.{Complex, arrow, border}
use Rattle.f2_algebra.specs.Cancel.{is_one_of, cancelled, Entry, IsEntry}
use Rattle.std.proofs.lemmas.Bool.{false≢true}
use Rattle.std.specs.FinMap as fin
use Rattle.f2_algebra.specs.Slice.{Slice, slice_complex, targets_in, IsSlice}
use Rattle.f2_algebra.proofs.Ranks.Bigraded.{int_up_one, int_up_other}
use Rattle.f2_algebra.proofs.Chains.Tables.{◌⊻◌}
use Rattle.f2_algebra.proofs.Chains.Sets.{same_chain, holds-nothing}
use Rattle.f2_algebra.proofs.Cancelling.Cancellation.{arrow-cancelled, border-nothing}

-- two complexes are equal if their degrees and their arrows are
pub same_complex : {G : Type 0} (C D : Complex G) → C.up ≡ D.up → ((s : ℕ) → C.degree s ≡ D.degree s)
    → ((s t : ℕ) → arrow C s t ≡ arrow D s t) → C ≡ D
same_complex C D up degrees arrows =
    λ i. record {
      up = up i;
      degree = λ s. degrees s i;
      targets = λ s. same_chain (C.targets s) (D.targets s) (arrows s) i;
    }

-- a slice in which each arrow is as after the toggle is the one without x and y
pub IsSlice-toggled : (old new : Slice) → IsSlice old → (e : Entry) → IsEntry (slice_complex old) e
    → ((s : ℕ) → (slice_complex new).degree s ≡ cond (is_one_of e.x e.y s) None ((slice_complex old).degree s))
    → ((s t : ℕ)
    → arrow (slice_complex new) s t
    ≡ (not (is_one_of e.x e.y s)
    && ((arrow (slice_complex old) s t ⊻ (arrow (slice_complex old) s e.y && arrow (slice_complex old) e.x t))
    && not (is_one_of e.x e.y t))))
    → slice_complex new ≡ cancelled (slice_complex old) e.x e.y
IsSlice-toggled old new laws e fits degrees arrows =
    same_complex _ _ refl degrees (λ s t. arrows s t ∙ sym (arrow-cancelled (slice_complex old) laws e fits s t))

-- a slice with no live code keeps the rules
pub slice_none : IsSlice fin.empty
slice_none = record {
  up_one = int_up_one;
  up_other = int_up_other;
  lowers = λ s t a. absurd (false≢true (sym (holds-nothing t) ∙ ap (λ z. holds z t) (sym (none s)) ∙ a));
  squares = λ s. ap (border (slice_complex fin.empty)) (none s) ∙ border-nothing (slice_complex fin.empty);
}
  where
    none : (s : ℕ) → (slice_complex fin.empty).targets s ≡ nothing
    none s = ap targets_in (fin.get-empty nat_cmp s)
