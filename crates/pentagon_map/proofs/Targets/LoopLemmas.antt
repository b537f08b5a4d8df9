-- The loop over the members of a chain: the sum of images grows by one at its end.
use Rattle.std.proofs.Common.{List, [], ap, get_or, inl, inr, length, map, sym, take, true, true≢false, ℕ, ◌+◌, ◌<◌, ◌∙◌, ◌∷◌, ◌≡◌}
use Rattle.std.proofs.lemmas.Bool.{cases_lt}
use Rattle.std.proofs.lemmas.List.{map-append, take_more}
use Rattle.f2_algebra.proofs.Chains.Sets.{holds-nothing, weight-some}
use Rattle.f2_algebra.proofs.Chains.Sums.{holds-sum_over, total-push}
use Rattle.f2_algebra.proofs.Chains.Tables.{same}
use Rattle.f2_algebra.specs.Chain.{Chain, codes, holds, sum_over, total, ◌⊕◌}
use Rattle.state_rank.proofs.RankLemmas.{IsBijection-unrank, unrank-past}
use Rattle.state_rank.specs.States.{factorial, unrank}
use Rattle.torus_geom.specs.Marks.{IsGrid, Marks, size}
use Rattle.grid_moves.specs.declared.commutations.Axis.{Axis}
use Rattle.pentagon_map.proofs.Rows.ImageByRows.{image_of_state_IsOfStates}
use Rattle.pentagon_map.specs.Inner.CodeImages.{image, image_of_state}
use Rattle.pentagon_map.specs.declared.Corner.{Corner}

-- the sum of the images of states, by their indices
abbrev pub sum_of_images : Axis → Marks → ℕ → Corner → List ℕ → Chain
sum_of_images axis g c corner cs = total (map (λ k. image_of_state axis g c corner (unrank (size g) k)) cs)

-- one more image is added
pub image_added : (axis : Axis) (g : Marks) (c : ℕ) (corner : Corner) (cs : List ℕ) (i n : ℕ) (x : List ℕ)
    (old new : Chain) → i < length cs → n ≡ size g → x ≡ unrank n (get_or cs i 0)
    → old ≡ sum_of_images axis g c corner (take i cs) → new ≡ old ⊕ image_of_state axis g c corner x
    → new ≡ sum_of_images axis g c corner (take (i + 1) cs)
image_added axis g c corner cs i n x old new l same is before step =
    let f : ℕ → Chain = λ k. image_of_state axis g c corner (unrank (size g) k) in
    step ∙ (λ k. before k ⊕ image_of_state axis g c corner (is k))
    ∙ ap (λ m. sum_of_images axis g c corner (take i cs) ⊕ image_of_state axis g c corner (unrank m (get_or cs i 0)))
    same
    ∙ sym (ap total (ap (map f) (take_more cs i 0 l) ∙ map-append f (take i cs) (get_or cs i 0 ∷ []))
    ∙ total-push (map f (take i cs)) (f (get_or cs i 0)))

-- the images of all members add up to the image
pub all_images_added : (axis : Axis) (g : Marks) (c : ℕ) (corner : Corner) (cs : List ℕ) (z : Chain) → cs ≡ codes z
    → sum_of_images axis g c corner cs ≡ image axis g c corner z
unfolding image sum_over
all_images_added axis g c corner cs z e = ap (sum_of_images axis g c corner) e

-- the image of a chain has indices of states
pub image-below : (axis : Axis) (g : Marks) → IsGrid g → (c : ℕ) (corner : Corner) (z : Chain) (k : ℕ)
    → holds (image axis g c corner z) k ≡ true → k < factorial (size g)
unfolding image
image-below axis g s c corner z k h =
    let n : ℕ = size g in
    let (r, in_z, in_image) =
    weight-some (λ r. holds (image_of_state axis g c corner (unrank n r)) k) z
    (sym (holds-sum_over z (λ code. image_of_state axis g c corner (unrank n code)) k) ∙ h) in
    elim (cases_lt r (factorial n)) [
      | inl l ↦ (image_of_state_IsOfStates axis g s c corner).below (unrank n r) k (IsBijection-unrank n r l) in_image
      | inr l ↦
          absurd (true≢false (sym in_image ∙ ap (λ x. holds (image_of_state axis g c corner x) k) (unrank-past n r l)
          ∙ ap (λ v. holds v k) (image_of_state_IsOfStates axis g s c corner).of_nil ∙ holds-nothing k))
    ]
