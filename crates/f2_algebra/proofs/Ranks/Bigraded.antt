-- The part of a complex at a second degree is a part, and so has its ranks.
use Rattle.std.proofs.Common.{◌≡◌, ◌≢◌, ℕ, ℤ, pos, ◌+ℤ◌, Bool, true, false, cond, Option, Some, None, is_some, ◌↔◌, refl, sym, ap, ◌∙◌, arith}
use Rattle.std.proofs.lemmas.Bool.{false≢true}
use Rattle.std.proofs.lemmas.Bool.Decides.{Decides-int_eq}
use Rattle.std.proofs.lemmas.Int.{ints}
use Rattle.std.specs.Ordering.{int_eq}
use Rattle.f2_algebra.specs.Chain.{nothing}
use Rattle.f2_algebra.specs.Complex.{Complex, IsComplex, IsRank}
use Rattle.f2_algebra.specs.Part.{IsPartOf}
use Rattle.f2_algebra.specs.Bigraded.{up_m, maslov_if, at_alexander}
use Rattle.f2_algebra.proofs.Cancelling.Cancellation.{same_some}
use Rattle.f2_algebra.proofs.Ranks.Part.{rank_of_part, rank_to_part, part_IsComplex}

-- ---- the degree above another
-- of two integers with one successor, both are the same
pub int_up_one : (m n : ℤ) → m +ℤ pos 1 ≡ n +ℤ pos 1 → m ≡ n
int_up_one m n e = omega (arith, ints)

-- no integer is its own successor
pub int_up_other : (m : ℤ) → m +ℤ pos 1 ≢ m
int_up_other m e = omega (arith, ints)

-- two bidegrees with one bidegree above them are the same
pub up_m_one : (d e : ℤ × ℤ) → up_m d ≡ up_m e → d ≡ e
up_m_one d e h = λ i. (int_up_one d.0 e.0 (ap (λ p. p.0) h) i, (h i).1)

-- no bidegree is above itself
pub up_m_other : (d : ℤ × ℤ) → up_m d ≢ d
up_m_other d h = int_up_other d.0 (ap (λ p. p.0) h)

-- ---- the part at a
-- the bidegree with the Maslov degree m and the second degree a
abbrev pub with_second : ℤ → ℤ → ℤ × ℤ
with_second a m = (m, a)

pub some_if : (b : Bool) (m n : ℤ) → cond b (Some m) None ≡ Some n → (b ≡ true) × (m ≡ n)
some_if true m n e = (refl, same_some m n e)
some_if false m n e = absurd (false≢true (ap is_some e))

maslov_if-is : (a : ℤ) (d : Option (ℤ × ℤ)) (m : ℤ) → (maslov_if a d ≡ Some m) ↔ (d ≡ Some (m, a))
maslov_if-is a None m = (λ e. absurd (false≢true (ap is_some e)), λ e. absurd (false≢true (ap is_some e)))
maslov_if-is a (Some d) m = (
  λ e. let (at, same) = some_if (int_eq d.1 a) d.0 m e in let last = (Decides-int_eq d.1 a).0 at in
      λ i. Some (same i, last i),
  λ e. let same : d ≡ (m, a) = same_some d (m, a) e in
      ap (λ b. cond b (Some d.0) None) ((Decides-int_eq d.1 a).1 (ap (λ p. p.1) same)) ∙ ap (λ p. Some p.0) same,
)

module _ (a : ℤ) (C : Complex (ℤ × ℤ)) (up : C.up ≡ up_m) where
  no_value : (d : Option ℤ) → ((m : ℤ) → d ≡ Some m → ⊥) → is_some d ≡ false
  no_value None h = refl
  no_value (Some m) h = absurd (h m refl)

  -- the cells at a second degree are a part of the complex
  pub at_alexander_IsPartOf : IsPartOf C (with_second a) (at_alexander a C)
  at_alexander_IsPartOf = record {
    embed_one = λ m n e. ap (λ p. p.0) e;
    embed_up = λ m. sym (ap (λ u. u (m, a)) up);
    embed_down = λ m d e. let h : (m, a) ≡ up_m d = e ∙ ap (λ u. u d) up in (d.0, λ i. (d.0, (h i).1));
    degrees = λ s m. maslov_if-is a (C.degree s) m;
    targets = λ s m e. ap (λ b. cond b (C.targets s) nothing) (ap is_some e);
    no_targets = λ s none. ap (λ b. cond b (C.targets s) nothing) (no_value (maslov_if a (C.degree s)) none);
  }

  -- they are a complex of their own
  pub at_alexander_IsComplex : IsComplex C → IsComplex (at_alexander a C)
  at_alexander_IsComplex laws = part_IsComplex C (with_second a) (at_alexander a C) at_alexander_IsPartOf laws

  -- its ranks are those of the whole at that second degree
  pub rank_at_alexander : (m : ℤ) (d : ℕ) → IsRank (at_alexander a C) m d ↔ IsRank C (m, a) d
  rank_at_alexander m d = (
    rank_of_part C (with_second a) (at_alexander a C) at_alexander_IsPartOf m d,
    rank_to_part C (with_second a) (at_alexander a C) at_alexander_IsPartOf m d,
  )
