-- The loops of the border: sums of chains that grow by one at their end.
use Rattle.std.proofs.Common.{◌≡◌, ℕ, ◌+◌, ◌<◌, List, [], ◌∷◌, length, map, take, get_or, sym, ap, ◌∙◌}
use Rattle.std.proofs.lemmas.List.{take_more, map-append}
use Rattle.std.proofs.lemmas.Simd.{map-map}
use Rattle.f2_algebra.specs.Chain.{Chain, codes, single, ◌⊕◌, total, sum_over}
use Rattle.f2_algebra.proofs.Chains.Sums.{add_assoc, sum_over-singles, total-push}
use Rattle.state_rank.specs.States.{rank, unrank}
use Rattle.torus_geom.specs.Marks.{Marks, size}
use Rattle.torus_geom.specs.Inner.CodeBorder.{border_of_state, border}

-- the sum of states
abbrev pub sum_of_ranks : List (List ℕ) → Chain
sum_of_ranks ys = total (map (λ y. single (rank y)) ys)

-- the sum of the borders of states, by their indices
abbrev pub sum_of_borders : Marks → List ℕ → Chain
sum_of_borders g cs = total (map (λ c. border_of_state g (unrank (size g) c)) cs)

-- one more element, read at i
total-take : {A : Type 0} (f : A → Chain) (xs : List A) (i : ℕ) (d : A) → i < length xs
    → total (map f (take (i + 1) xs)) ≡ total (map f (take i xs)) ⊕ f (get_or xs i d)
total-take f xs i d l = ap total (ap (map f) (take_more xs i d l) ∙ map-append f (take i xs) (get_or xs i d ∷ []))
    ∙ total-push (map f (take i xs)) (f (get_or xs i d))

-- one more state is toggled
pub one_more_toggled : (ys : List (List ℕ)) (i : ℕ) (y : List ℕ) (first old new : Chain) (c : ℕ) → i < length ys
    → y ≡ get_or ys i y → c ≡ rank y
    → old ≡ first ⊕ sum_of_ranks (take i ys) → new ≡ old ⊕ single c → new ≡ first ⊕ sum_of_ranks (take (i + 1) ys)
one_more_toggled ys i y first old new c l at is before step =
    step ∙ (λ k. before k ⊕ single (is k)) ∙ add_assoc first (sum_of_ranks (take i ys)) (single (rank y))
    ∙ ap (λ u. first ⊕ u) (ap (λ z. sum_of_ranks (take i ys) ⊕ single (rank z)) at
    ∙ sym (total-take (λ z. single (rank z)) ys i y l))

-- when all states of a chain are toggled, the chain is added
pub all_toggled : (ys : List (List ℕ)) (z : Chain) → map rank ys ≡ codes z → sum_of_ranks ys ≡ z
unfolding sum_over
all_toggled ys z e = sym (ap total (map-map single rank ys)) ∙ ap (λ cs. total (map single cs)) e ∙ sum_over-singles z

-- the same of codes
abbrev pub sum_of_codes : List ℕ → Chain
sum_of_codes cs = total (map single cs)

pub one_more_code_toggled : (cs : List ℕ) (i : ℕ) (first old new : Chain) → i < length cs
    → old ≡ first ⊕ sum_of_codes (take i cs) → new ≡ old ⊕ single (get_or cs i 0)
    → new ≡ first ⊕ sum_of_codes (take (i + 1) cs)
one_more_code_toggled cs i first old new l before step =
    step ∙ ap (λ z. z ⊕ single (get_or cs i 0)) before
    ∙ add_assoc first (sum_of_codes (take i cs)) (single (get_or cs i 0))
    ∙ ap (λ u. first ⊕ u) (sym (total-take single cs i 0 l))

pub all_codes_toggled : (cs : List ℕ) (z : Chain) → cs ≡ codes z → sum_of_codes cs ≡ z
unfolding sum_over
all_codes_toggled cs z e = ap sum_of_codes e ∙ sum_over-singles z

-- one more border is added
pub added : (g : Marks) (cs : List ℕ) (i n : ℕ) (x : List ℕ) (old new : Chain) → i < length cs → n ≡ size g
    → x ≡ unrank n (get_or cs i 0)
    → old ≡ sum_of_borders g (take i cs) → new ≡ old ⊕ border_of_state g x → new ≡ sum_of_borders g (take (i + 1) cs)
added g cs i n x old new l same is before step =
    step ∙ (λ k. before k ⊕ border_of_state g (is k))
    ∙ ap (λ m. sum_of_borders g (take i cs) ⊕ border_of_state g (unrank m (get_or cs i 0))) same
    ∙ sym (total-take (λ c. border_of_state g (unrank (size g) c)) cs i 0 l)

-- the borders of all members add up to the border
pub all_added : (g : Marks) (cs : List ℕ) (z : Chain) → cs ≡ codes z → sum_of_borders g cs ≡ border g z
unfolding border sum_over
all_added g cs z e = ap (sum_of_borders g) e
