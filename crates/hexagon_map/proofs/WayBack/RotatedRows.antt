-- Ranges of rows that do not pass 0, and ranges that do.
use Rattle.std.proofs.Common.{◌≡◌, ◌⊎◌, ℕ, ◌<◌, ◌≤◌, true, false, arith, inl, inr}
use Rattle.rectangles.proofs.Square.CyclicOrder.{between}

pub in_low : (x y t : ℕ) → x ≤ y → between x y t ≡ true → x ≤ t
in_low x y t l h = grind arith

pub in_high : (x y t : ℕ) → x ≤ y → between x y t ≡ true → t < y
in_high x y t l h = grind arith

pub out_of : (x y t : ℕ) → x ≤ t → between x y t ≡ false → x < y → y ≤ t
out_of x y t k h l = grind arith

pub make_in : (x y t : ℕ) → x ≤ t → t < y → between x y t ≡ true
make_in x y t h k = grind arith

pub make_wrap : (x y t : ℕ) → y < x → (x ≤ t) ⊎ (t < y) → between x y t ≡ true
make_wrap x y t l (inl h) = grind arith
make_wrap x y t l (inr h) = grind arith

pub make_out : (x y t : ℕ) → x ≤ y → (t < x) ⊎ (y ≤ t) → between x y t ≡ false
make_out x y t l (inl h) = grind arith
make_out x y t l (inr h) = grind arith

pub make_gap : (x y t : ℕ) → y ≤ x → y ≤ t → t < x → between x y t ≡ false
make_gap x y t l h k = grind arith
