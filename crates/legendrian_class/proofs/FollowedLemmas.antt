-- The states that those of a chain become, one after another; and a chain of states is carried to a chain of states.
use Rattle.std.proofs.Common.{List, [], ap, get_or, length, map, subst, sym, take, ℕ, ◌+◌, ◌<◌, ◌∙◌, ◌∷◌, ◌≡◌}
use Rattle.std.proofs.lemmas.List.{map-append, take_more}
use Rattle.f2_algebra.proofs.Chains.Sums.{total-push}
use Rattle.f2_algebra.specs.Chain.{Chain, codes, nothing, single, sum_over, total, ◌⊕◌}
use Rattle.state_rank.specs.States.{factorial, rank, unrank}
use Rattle.torus_geom.specs.Marks.{IsGrid, Marks, size}
use Rattle.grid_symmetry.specs.Symmetries.{symmetric, symmetric_state}
use Rattle.grid_symmetry.specs.declared.symmetries.Symmetry.{Symmetry}
use Rattle.grid_symmetry.specs.declared.symmetries.Symmetry.TheVariants.{Mirror}
use Rattle.legendrian_class.specs.Inner.CodeFollowed.{codes_after}
use Rattle.f2_algebra.proofs.Chains.Sets.{holds-nothing}
use Rattle.std.proofs.lemmas.Bool.{false≢true}
use Rattle.grid_symmetry.proofs.StateLaws.{IsBijection-symmetric_state, size-symmetric}
use Rattle.grid_moves.proofs.Turned.CarriedChains.{AreInverse, AreInverse-back, moved-below, moved-undone, renamed-sum}
use Rattle.grid_moves.proofs.Turned.CarriedStates.{AreIndices-carried}
use Rattle.grid_moves.proofs.Turned.TurnLemmas.{length-turned_rows}
use Rattle.grid_moves.proofs.Turned.TurnedStates.{IsBijection-turned_state}
use Rattle.grid_moves.specs.Inner.CodeCarried.{carried, moved, turned_chain}
use Rattle.grid_moves.specs.Carried.{turned_state}
use Rattle.grid_moves.specs.Moves.{turned}
use Rattle.grid_moves.specs.declared.turns.Side.{Side}
use Rattle.torus_geom.specs.Codes.{HasIndices}
use Rattle.torus_geom.proofs.Chains.CodesLemmas.{All_from_indices, indices_from_All}
use Rattle.state_rank.specs.Bijection.{IsBijection}

-- the sum of the states that those of a list of indices become by f, by their indices
abbrev pub sum_of_carried : (List ℕ → List ℕ) → ℕ → List ℕ → Chain
sum_of_carried f n cs = total (map (λ k. single (moved n f k)) cs)

-- one more is added
pub carried_added : (f : List ℕ → List ℕ) (n : ℕ) (cs : List ℕ) (i code k : ℕ) (x y : List ℕ) (old new : Chain)
    → i < length cs → code ≡ get_or cs i 0 → code < factorial n
    → x ≡ unrank n code → y ≡ f x → k ≡ rank y → old ≡ sum_of_carried f n (take i cs)
    → new ≡ old ⊕ single k → new ≡ sum_of_carried f n (take (i + 1) cs)
carried_added f n cs i code k x y old new l at below of_x of_y of_k before step =
    let one : ℕ → Chain = λ c. single (moved n f c) in
    step
    ∙ (λ j. before j ⊕ single (of_k j))
    ∙ ap (λ w. sum_of_carried f n (take i cs) ⊕ single (rank w)) (of_y ∙ ap f of_x)
    ∙ ap (λ r. sum_of_carried f n (take i cs) ⊕ single r) (sym (moved-below n f code below))
    ∙ ap (λ c. sum_of_carried f n (take i cs) ⊕ one c) at
    ∙ sym (ap total (ap (map one) (take_more cs i 0 l) ∙ map-append one (take i cs) (get_or cs i 0 ∷ []))
    ∙ total-push (map one (take i cs)) (one (get_or cs i 0)))

-- all of them are the carried chain
pub all_carried : (f b : List ℕ → List ℕ) (n : ℕ) → AreInverse n f b → (cs : List ℕ) (z : Chain) → cs ≡ codes z
    → sum_of_carried f n cs ≡ carried n f z
unfolding carried sum_over
all_carried f b n there cs z e =
    ap (sum_of_carried f n) e
    ∙ sym (renamed-sum (moved n f) (moved n b) (moved-undone n b f (AreInverse-back n f b there))
    (moved-undone n f b there) z)

-- the carried chain has states
pub HasIndices-carried : (f : List ℕ → List ℕ) (n : ℕ) → ((x : List ℕ) → IsBijection n x → IsBijection n (f x))
    → (z : Chain) → HasIndices n z → HasIndices n (carried n f z)
HasIndices-carried f n keeps z states =
    All_from_indices n (carried n f z) (AreIndices-carried n f keeps z (indices_from_All n z states))

-- the turned chain has states of the turned grid
pub HasIndices-turned : (side : Side) (g : Marks) (z : Chain) → HasIndices (size g) z
    → HasIndices (size (turned side g)) (turned_chain side (size g) z)
HasIndices-turned side g z states =
    subst (λ n. HasIndices n (turned_chain side (size g) z)) (sym (length-turned_rows side (size g) g.o))
    (HasIndices-carried (turned_state side) (size g) (IsBijection-turned_state side (size g)) z states)

-- the same of a grid and a chain that are the turned ones
pub HasIndices-after_turn : (side : Side) (g h : Marks) (n : ℕ) (z y : Chain) → HasIndices (size g) z → n ≡ size g
    → h ≡ turned side g → y ≡ turned_chain side n z → HasIndices (size h) y
HasIndices-after_turn side g h n z y states of_n of_h of_y =
    subst (λ k. HasIndices (size k) y) (sym of_h)
    (subst (HasIndices (size (turned side g))) (sym (of_y ∙ ap (λ m. turned_chain side m z) of_n))
    (HasIndices-turned side g z states))

-- the chain after a symmetry has states of the grid after it
pub HasIndices-after_symmetry : (s : Symmetry) (g h : Marks) (n : ℕ) (z y : Chain) → IsGrid g → HasIndices (size g) z
    → n ≡ size g → h ≡ symmetric s g → y ≡ codes_after s n z → HasIndices (size h) y
HasIndices-after_symmetry s g h n z y grid states of_n of_h of_y =
    subst (λ k. HasIndices k y) (sym (ap size of_h ∙ size-symmetric s g grid))
    (subst (HasIndices (size g)) (sym (of_y ∙ ap (λ m. codes_after s m z) of_n)) (by s))
  where
    by : (s : Symmetry) → HasIndices (size g) (codes_after s (size g) z)
    by Mirror = All_from_indices (size g) nothing (λ c h. absurd (false≢true (sym (holds-nothing c) ∙ h)))
    by s = HasIndices-carried (symmetric_state s) (size g) (IsBijection-symmetric_state s (size g)) z states
