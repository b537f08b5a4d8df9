-- Half of an even whole number.
use Rattle.std.proofs.Common.{◌≡◌, suc, ◌+◌, ◌/◌, ap, ◌∙◌, arith}
use Rattle.std.specs.Prelude.{int_div}
use Rattle.std.proofs.Math.IntN.{ℤ, pos, negsuc, neg_ℤ, ◌+ℤ◌, ◌*ℤ◌}
use Rattle.std.proofs.lemmas.Int.{ints}

-- half of twice a number
pub int_div-double : (t : ℤ) → int_div (t +ℤ t) (pos 2) ≡ t
int_div-double (pos a) = ap pos (let e : (a + a) / 2 ≡ a = omega arith in e)
int_div-double (negsuc a) = ap (λ k. neg_ℤ (pos k)) (let e : suc (suc (a + a)) / 2 ≡ suc a = omega arith in e)

-- what is twice a whole number is twice its half
pub two-int_div : (z t : ℤ) → z ≡ t +ℤ t → pos 2 *ℤ int_div z (pos 2) ≡ z
two-int_div z t e = let half = ap (λ d. int_div d (pos 2)) e ∙ int_div-double t in omega (arith, ints)
