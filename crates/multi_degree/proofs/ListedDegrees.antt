-- The degrees at the components, listed one by one.
use Rattle.std.proofs.Common.{◌≡◌, ℕ, suc, ◌+◌, ◌<◌, ◌≤◌, ℤ, true, false, cond, List, [], ◌∷◌, ◌++◌, length, take, map, slice_set, All, refl, ap, ◌∙◌, sym, subst, arith}
use Rattle.std.specs.List.{filter}
use Rattle.std.proofs.lemmas.List.{take_more_set, length-map, length-set}
use Rattle.std.proofs.lemmas.List.Elements.{All-push, All-nil}
use Rattle.std.proofs.lemmas.Int.{ints}
use Rattle.std.proofs.Common.{w32, to_z, of_z}
use Rattle.gradings.specs.Degrees.{IsSmallDegree}
use Rattle.state_rank.specs.Bijection.{ascending}
use Rattle.torus_geom.specs.Marks.{Marks, size, IsGrid}
use Rattle.torus_geom.specs.Components.{is_first, components}
use Rattle.torus_geom.proofs.Cycles.WalkLemmas.{firsts_below, firsts_below_more}
use Rattle.hat_division.specs.DegreeLists.{IsDegreeList}
use Rattle.multi_degree.specs.ComponentDegrees.{component_degree, component_degrees}
use Rattle.multi_degree.proofs.FirstColumns.{filter-ascending, map_append}
use Rattle.multi_degree.proofs.WalkLemmas.{passes_one, passes_none}
use Rattle.multi_degree.proofs.ColumnLemmas.{filter-more, few_components, some_component}

-- the first columns left of f were done
pub record IsListed (g : Marks) (x : List ℕ) (f count : ℕ) (degrees : List ℤ) : Type 0 where
  pub long : length degrees ≡ 5
  pub counted : count ≡ firsts_below g f
  pub few : count ≤ 5
  pub listed : take count degrees ≡ map (λ t. component_degree g t x) (filter (is_first g) (ascending f))
  pub small : All IsSmallDegree (take count degrees)

pub IsListed-none : (g : Marks) (x : List ℕ) (degrees : List ℤ) → length degrees ≡ 5 → IsListed g x 0 0 degrees
IsListed-none g x degrees long = record {
  long = long;
  counted = refl;
  few = omega arith;
  listed = refl;
  small = All-nil IsSmallDegree;
}

one_more : (f : ℕ) → f + 1 ≡ suc f
one_more f = omega arith

-- one first column more: there is room for it
pub listed-room : (g : Marks) → IsGrid g → (f count : ℕ) → f < size g → is_first g f ≡ true → count ≡ firsts_below g f
    → count + 1 ≤ 5
unfolding components
listed-room g grid f count l first counted =
    let more = firsts_below_more g f in
    let one = passes_one (is_first g f) first in
    let most = filter-more (is_first g) (f + 1) (size g) (omega arith) in
    let few = few_components g grid in
    let small = grid.is_size.greatest in
    omega arith

pub IsListed-more : (g : Marks) → IsGrid g → (x : List ℕ) (f count : ℕ) (degrees : List ℤ) (d : ℤ) → f < size g
    → is_first g f ≡ true → IsListed g x f count degrees → d ≡ component_degree g f x → IsSmallDegree d
    → IsListed g x (f + 1) (count + 1) (slice_set degrees count d)
IsListed-more g grid x f count degrees d l first h is small =
    let room = listed-room g grid f count l first h.counted in
    let long = h.long in
    let pushed = take_more_set degrees count d (omega arith) in
    record {
      long = length-set degrees count d ∙ h.long;
      counted =
          let more = firsts_below_more g f in
          let one = passes_one (is_first g f) first in let before = h.counted in omega arith;
      few = room;
      listed =
          pushed ∙ (λ i. h.listed i ++ is i ∷ [])
          ∙ sym (ap (λ n. map (λ t. component_degree g t x) (filter (is_first g) (ascending n))) (one_more f)
          ∙ ap (map (λ t. component_degree g t x)) (filter-ascending (is_first g) f)
          ∙ ap (λ b. map (λ t. component_degree g t x) (filter (is_first g) (ascending f) ++ cond b (f ∷ []) [])) first
          ∙ map_append (λ t. component_degree g t x) (filter (is_first g) (ascending f)) (f ∷ []));
      small = subst (All IsSmallDegree) (sym pushed)
          (All-push IsSmallDegree (take count degrees) d h.small small);
    }

-- another column
pub IsListed-other : (g : Marks) (x : List ℕ) (f count : ℕ) (degrees : List ℤ) → is_first g f ≡ false
    → IsListed g x f count degrees → IsListed g x (f + 1) count degrees
IsListed-other g x f count degrees other h = record {
  long = h.long;
  counted =
      let more = firsts_below_more g f in
      let none = passes_none (is_first g f) other in let before = h.counted in omega arith;
  few = h.few;
  listed =
      h.listed
      ∙ sym (ap (λ n. map (λ t. component_degree g t x) (filter (is_first g) (ascending n))) (one_more f)
      ∙ ap (map (λ t. component_degree g t x)) (filter-ascending (is_first g) f)
      ∙ ap (λ b. map (λ t. component_degree g t x) (filter (is_first g) (ascending f) ++ cond b (f ∷ []) [])) other
      ∙ ap (map (λ t. component_degree g t x)) (append_none (filter (is_first g) (ascending f))));
  small = h.small;
}
  where
    append_none : (xs : List ℕ) → xs ++ [] ≡ xs
    append_none [] = refl
    append_none (y ∷ ys) = ap (λ l. y ∷ l) (append_none ys)

-- the same for what a branch leaves
pub IsListed-same : (g : Marks) (x : List ℕ) (f count n : ℕ) (degrees new : List ℤ) → new ≡ degrees → n ≡ count
    → IsListed g x f count degrees → IsListed g x f n new
IsListed-same g x f count n degrees new same more h =
    subst (λ ds. IsListed g x f n ds) (sym same) (subst (λ k. IsListed g x f k degrees) (sym more) h)

-- all columns were done
module _ (g : Marks) (grid : IsGrid g) (x : List ℕ) (f count : ℕ) (degrees : List ℤ) (h : IsListed g x f count degrees)
    (all : f ≡ size g) where
  pub listed-degrees : take count degrees ≡ component_degrees g x
  unfolding component_degrees
  listed-degrees = h.listed ∙ ap (λ n. map (λ t. component_degree g t x) (filter (is_first g) (ascending n))) all

  pub listed-count : count ≡ components g
  unfolding components
  listed-count = h.counted ∙ ap (firsts_below g) all

  pub length-listed : length (take count degrees) ≡ components g
  unfolding components
  length-listed =
      ap length h.listed ∙ length-map (filter (is_first g) (ascending f)) (λ t. component_degree g t x)
      ∙ ap (firsts_below g) all

  pub listed-accepted : IsDegreeList (take count degrees)
  listed-accepted =
      let long = length-listed in
      let some = some_component g grid in
      let few = few_components g grid in
      let small = grid.is_size.greatest in
      (omega arith, omega arith)

-- a small degree is the same as a machine number
pub word_of : (d : ℤ) → IsSmallDegree d → to_z w32 (of_z w32 d) ≡ d
word_of d small = let low = small.low in let high = small.high in omega (arith, ints)
