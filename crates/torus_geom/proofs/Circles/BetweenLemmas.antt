-- Cyclic ranges of numbers without the size. The range from a up to b has the numbers met on the way up
-- from a, before b; past the largest the way goes on at 0.
use Rattle.std.proofs.Common.{◌≡◌, ◌≢◌, ℕ, Bool, true, false, not, ◌&&◌, refl, ap, eqb, ltb, leb, arith}
use Rattle.std.proofs.lemmas.Bool.{eq-eqb, ne_eqb}
use Rattle.f2_algebra.proofs.Chains.Tables.{◌⊻◌}

-- t is in the range from a up to b; if a is b, no t is
abbrev pub between : ℕ → ℕ → ℕ → Bool
between a b t = leb a t ⊻ leb b t ⊻ ltb b a

-- inside a range: in it, and not its start
abbrev pub is_between : ℕ → ℕ → ℕ → Bool
is_between a b t = between a b t && not (eqb t a)

-- the start of a range is in it
pub between_start : (a b : ℕ) → a ≢ b → between a b a ≡ true
between_start a b p = grind arith

-- its end is not
pub between_end : (a b : ℕ) → between a b b ≡ false
between_end a b = grind arith

-- two numbers that differ
pub not_eqb-true : (a b : ℕ) → a ≢ b → not (eqb a b) ≡ true
not_eqb-true a b p = ap not (ne_eqb a b p)

-- and one and the same
pub not_eqb-false : (a : ℕ) → not (eqb a a) ≡ false
not_eqb-false a = ap not (eq-eqb a a refl)
