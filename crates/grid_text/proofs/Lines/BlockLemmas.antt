-- The tests of a line `destab` and of a line `stab`, if it is known what their words are.
use Rattle.std.proofs.Common.{◌≡◌, ℕ, ◌-◌, ◌<◌, ◌≤◌, false, not, ◌==◌, Some, ap, ◌∙◌, sym, arith, inl, inr, true≢false}
use Rattle.std.specs.Option.{option_map_or}
use Rattle.std.specs.List.{find}
use Rattle.std.proofs.lemmas.Bool.{cases_lt, eq-eqb, ne_eqb}
use Rattle.state_rank.specs.Bijection.{greatest_size}
use Rattle.torus_geom.specs.Marks.{Marks, size}
use Rattle.stabilise.specs.Stabilised.{is_block}
use Rattle.stabilise.specs.declared.squares.Square.{Square}
use Rattle.grid_text.specs.Words.{Word, is_word, numeral}
use Rattle.grid_text.specs.Commands.{square_word, squares}
use Rattle.grid_text.specs.Faults.{has_no_block}

-- the words are two numbers and a square, and the test is that of the block
pub has_no_block-read : (g : Marks) (w t u : Word) (c r : ℕ) (v : Square) → numeral 0 (size g - 2) w ≡ Some c
    → numeral 0 (size g - 2) t ≡ Some r → find (λ e. is_word (square_word e) u) squares ≡ Some v
    → has_no_block g w t u ≡ not (is_block g c r v)
has_no_block-read g w t u c r v first second third =
    ap (λ o. option_map_or (λ d. option_map_or (λ q. option_map_or (λ e. not (is_block g d q e))
    (find (λ e. is_word (square_word e) u) squares) false) (numeral 0 (size g - 2) t) false) o false) first
    ∙ ap (λ o. option_map_or (λ q. option_map_or (λ e. not (is_block g c q e))
    (find (λ e. is_word (square_word e) u) squares) false) o false) second
    ∙ ap (λ o. option_map_or (λ e. not (is_block g c r e)) o false) third

-- a size below the greatest is not the greatest
pub below_greatest : (n : ℕ) → n < greatest_size → (n == greatest_size) ≡ false
below_greatest n room = ne_eqb n greatest_size (λ e. omega (arith, e, room))

-- and the other way round
pub room_below_greatest : (n : ℕ) → n ≤ greatest_size → (n == greatest_size) ≡ false → n < greatest_size
room_below_greatest n most other = elim (cases_lt n greatest_size) [
  | inl room ↦ room
  | inr none ↦
      let same : n ≡ greatest_size = omega (arith, most, none) in
      absurd (true≢false (sym (eq-eqb n greatest_size same) ∙ other))
]
