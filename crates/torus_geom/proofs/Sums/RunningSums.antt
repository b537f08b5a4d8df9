-- A running sum of whole numbers that are small.
use Rattle.std.proofs.Common.{◌≡◌, ℕ, ◌+◌, ◌*◌, ap, ◌∙◌, add-one, arith}
use Rattle.std.proofs.Math.IntN.{ℤ, pos, neg_ℤ, ◌+ℤ◌}
use Rattle.std.proofs.Common.{◌≤ℤ◌}
use Rattle.std.proofs.lemmas.Int.{ints}
use Rattle.torus_geom.specs.Counts.{sum_below}

-- the sum of f below i, whose terms are from - bound to bound
pub record IsSum (bound i : ℕ) (f : ℕ → ℤ) (sum : ℤ) : Type 0 where
  pub value : sum ≡ sum_below i f
  pub low : neg_ℤ (pos (bound * i)) ≤ℤ sum
  pub high : sum ≤ℤ pos (bound * i)

-- one term more
pub IsSum-more : (bound i : ℕ) (f : ℕ → ℤ) (sum term next : ℤ) → IsSum bound i f sum → term ≡ f i
    → neg_ℤ (pos bound) ≤ℤ term → term ≤ℤ pos bound → next ≡ sum +ℤ term → IsSum bound (i + 1) f next
IsSum-more bound i f sum term next h at low high e =
    let value = h.value in
    let product : bound * (i + 1) ≡ bound * i + bound = omega arith in
    record {
      value = rw add-one (omega (arith, ints));
      low = let before = h.low in omega (arith, ints);
      high = let before = h.high in omega (arith, ints);
    }

-- the whole sum
pub IsSum-all : (bound i : ℕ) (f : ℕ → ℤ) (sum : ℤ) (n : ℕ) → IsSum bound i f sum → i ≡ n → sum ≡ sum_below n f
IsSum-all bound i f sum n h e = h.value ∙ ap (λ m. sum_below m f) e
