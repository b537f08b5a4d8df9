-- The two Maslov degrees that were found for a state, and its Alexander degree, which is small.
use Rattle.std.proofs.Common.{◌≡◌, ℕ, ◌<◌, ◌≤◌, List, length, subst, ap, ◌∙◌, arith}
use Rattle.std.proofs.Math.IntN.{ℤ, pos, neg_ℤ, ◌*ℤ◌}
use Rattle.std.proofs.Common.{◌≤ℤ◌}
use Rattle.std.proofs.lemmas.Int.{ints}
use Rattle.state_rank.specs.Bijection.{IsBijection}
use Rattle.state_rank.specs.States.{IsState}
use Rattle.torus_geom.specs.Marks.{Marks, size, IsGrid}
use Rattle.torus_geom.specs.Components.{components}
use Rattle.torus_geom.specs.Degrees.{maslov, maslov_o, maslov_x, doubled_alexander, alexander}
use Rattle.gradings.specs.Degrees.{IsSmallDegree}
use Rattle.gradings.proofs.EvennessLemmas.{two-alexander}

-- the two Maslov degrees of a state of the grid, as they were found, and its small Alexander degree
pub record AreDegrees (g : Marks) (x : List ℕ) (by_o by_x : ℤ) : Type 0 where
  pub is_o : by_o ≡ maslov_o g x
  pub is_x : by_x ≡ maslov_x g x
  pub whole : pos 2 *ℤ alexander g x ≡ doubled_alexander g x
  pub small : IsSmallDegree (alexander g x)

-- from - bound to bound
abbrev pub IsWithin : ℕ → ℤ → Type 0
IsWithin bound z = (neg_ℤ (pos bound) ≤ℤ z) × (z ≤ℤ pos bound)

-- what was found, from what the calls ensure
pub are_degrees : (g : Marks) (x o y z : List ℕ) (by_o by_x : ℤ) (bound l : ℕ) → IsGrid g → IsState x
    → length x ≡ size g → o ≡ g.o → y ≡ g.x → z ≡ x
    → by_o ≡ maslov (length o) o z → by_x ≡ maslov (length y) y z → bound ≤ 400 → IsWithin bound by_o
    → IsWithin bound by_x → l ≡ components g → l < 256 → size g < 256
    → AreDegrees g x by_o by_x
are_degrees g x o y z by_o by_x bound l grid state one_size at_o at_x at_points o_is x_is low_bound within_o within_x
    at_l few_components few_columns =
    let bijection : IsBijection (size g) x = subst (λ n. IsBijection n x) one_size state.bijection in
    let o_degree : by_o ≡ maslov_o g x = o_is ∙ (λ i. maslov (length (at_o i)) (at_o i) (at_points i)) in
    let x_degree : by_x ≡ maslov_x g x =
    x_is ∙ (λ i. maslov (length (at_x i)) (at_x i) (at_points i)) ∙ ap (λ n. maslov n g.x x) grid.x.long in
    let whole = two-alexander g grid x bijection in
    let low_o = within_o.0 in
    let high_o = within_o.1 in
    let low_x = within_x.0 in
    let high_x = within_x.1 in
    record {
      is_o = o_degree;
      is_x = x_degree;
      whole = whole;
      small = record { low = omega (arith, ints); high = omega (arith, ints) };
    }
