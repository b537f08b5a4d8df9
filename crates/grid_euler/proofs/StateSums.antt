-- Sums over lists, and the Euler number state by state.
use Rattle.std.proofs.Common.{◌≡◌, ℕ, zero, suc, List, [], ◌∷◌, ◌++◌, refl, ap, ◌∙◌, arith}
use Rattle.std.proofs.Math.IntN.{ℤ, ◌+ℤ◌}
use Rattle.std.proofs.lemmas.Int.{ints}
use Rattle.state_rank.specs.Bijection.{tabulate}
use Rattle.state_rank.specs.States.{factorial, unrank}
use Rattle.torus_geom.specs.Counts.{sum_below}
use Rattle.torus_geom.specs.Marks.{Marks, size}
use Rattle.torus_geom.proofs.Sums.TabulateLemmas.{tabulate-suc}
use Rattle.rectangles.proofs.Square.RectangleSums.{states-unrank}
use Rattle.grid_euler.specs.Euler.{sum_of, euler_part, euler_number}

-- one element more
pub sum_of-append : {A : Type 0} (f : A → ℤ) (xs : List A) (x : A) → sum_of f (xs ++ x ∷ []) ≡ f x +ℤ sum_of f xs
sum_of-append f [] x = refl
sum_of-append f (y ∷ xs) x = ap (λ z. f y +ℤ z) (sum_of-append f xs x) ∙ turned (f y) (f x) (sum_of f xs)
  where
    turned : (x y z : ℤ) → x +ℤ (y +ℤ z) ≡ y +ℤ (x +ℤ z)
    turned x y z = omega (arith, ints)

-- over a list that is given place by place
sum_of-tabulate : {A : Type 0} (f : A → ℤ) (n : ℕ) (h : ℕ → A) → sum_of f (tabulate n h) ≡ sum_below n (λ k. f (h k))
sum_of-tabulate f zero h = refl
sum_of-tabulate f (suc n) h =
    ap (sum_of f) (tabulate-suc n h) ∙ sum_of-append f (tabulate n h) (h n)
    ∙ ap (λ z. f (h n) +ℤ z) (sum_of-tabulate f n h)

-- the sum over the states, state by state
pub euler_number-codes : (g : Marks) (a : ℤ)
    → euler_number g a ≡ sum_below (factorial (size g)) (λ code. euler_part g a (unrank (size g) code))
unfolding euler_number
euler_number-codes g a =
    ap (sum_of (euler_part g a)) (states-unrank (size g))
    ∙ sum_of-tabulate (euler_part g a) (factorial (size g)) (unrank (size g))
