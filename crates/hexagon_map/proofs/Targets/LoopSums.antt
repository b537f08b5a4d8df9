-- The loop over the members of a chain: the sum of homotopies grows by one at its end.
use Rattle.std.proofs.Common.{List, [], ap, get_or, length, map, sym, take, ℕ, ◌+◌, ◌<◌, ◌∙◌, ◌∷◌, ◌≡◌}
use Rattle.std.proofs.lemmas.List.{map-append, take_more}
use Rattle.f2_algebra.proofs.Chains.Sums.{total-push}
use Rattle.f2_algebra.specs.Chain.{Chain, codes, sum_over, total, ◌⊕◌}
use Rattle.state_rank.specs.States.{unrank}
use Rattle.torus_geom.specs.Marks.{Marks, size}
use Rattle.grid_moves.specs.declared.commutations.Axis.{Axis}
use Rattle.pentagon_map.specs.declared.Corner.{Corner}
use Rattle.hexagon_map.specs.Inner.CodeHomotopies.{homotopy, homotopy_of_state}

-- the sum of the homotopies of states, by their indices
abbrev pub sum_of_homotopies : Axis → Marks → ℕ → Corner → List ℕ → Chain
sum_of_homotopies axis g c corner cs = total (map (λ k. homotopy_of_state axis g c corner (unrank (size g) k)) cs)

-- one more is added
pub homotopy_added : (axis : Axis) (g : Marks) (c : ℕ) (corner : Corner) (cs : List ℕ) (i n : ℕ) (x : List ℕ)
    (old new : Chain) → i < length cs → n ≡ size g → x ≡ unrank n (get_or cs i 0)
    → old ≡ sum_of_homotopies axis g c corner (take i cs) → new ≡ old ⊕ homotopy_of_state axis g c corner x
    → new ≡ sum_of_homotopies axis g c corner (take (i + 1) cs)
homotopy_added axis g c corner cs i n x old new l same is before step =
    let f : ℕ → Chain = λ k. homotopy_of_state axis g c corner (unrank (size g) k) in
    step ∙ (λ k. before k ⊕ homotopy_of_state axis g c corner (is k))
    ∙ ap (λ m. sum_of_homotopies axis g c corner (take i cs) ⊕ homotopy_of_state axis g c corner
    (unrank m (get_or cs i 0))) same
    ∙ sym (ap total (ap (map f) (take_more cs i 0 l) ∙ map-append f (take i cs) (get_or cs i 0 ∷ []))
    ∙ total-push (map f (take i cs)) (f (get_or cs i 0)))

-- those of all members add up to the homotopy
pub all_homotopies_added : (axis : Axis) (g : Marks) (c : ℕ) (corner : Corner) (cs : List ℕ) (z : Chain) → cs ≡ codes z
    → sum_of_homotopies axis g c corner cs ≡ homotopy axis g c corner z
unfolding homotopy sum_over
all_homotopies_added axis g c corner cs z e = ap (sum_of_homotopies axis g c corner) e
