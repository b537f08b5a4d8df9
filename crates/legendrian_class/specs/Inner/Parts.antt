-- The parts of a chain by Alexander degree.
--     IsLeast z s             s is the least code of z
--     has_alexander g a s     whether the state of index s has the Alexander degree a
--     IsPartVerdict C z v     v is the verdict of the cycle z of the complex C
--     IsNullBut g z left b    the chain z without its part left is null by b, and left is the whole of z at each
--                             Alexander degree that it has
use Rattle.std.specs.Prelude.{◌≡◌, ℕ, ◌≤◌, ℤ, Bool, true}
use Rattle.std.specs.Ordering.{int_eq}
use Rattle.f2_algebra.specs.Chain.{Chain, holds, ◌⊕◌}
use Rattle.f2_algebra.specs.Complex.{Complex}
use Rattle.f2_algebra.specs.Verdict.{IsNullBy, IsAliveBy}
use Rattle.torus_geom.specs.Marks.{Marks}
use Rattle.torus_geom.specs.Inner.GridComplex.{grid_complex}
use Rattle.legendrian_class.specs.Inner.CodeVerdicts.{alexander_at}
use Rattle.legendrian_class.specs.declared.parts.PartVerdict.{PartVerdict}
use Rattle.legendrian_class.specs.declared.parts.PartVerdict.TheVariants.{Null, Alive}

abbrev pub IsLeast : Chain → ℕ → Type 0
IsLeast z s = (holds z s ≡ true) × ((t : ℕ) → holds z t ≡ true → s ≤ t)

abbrev pub has_alexander : Marks → ℤ → ℕ → Bool
has_alexander g a s = int_eq (alexander_at g s) a

abbrev pub IsPartVerdict : Complex ℤ → Chain → PartVerdict → Type 0
IsPartVerdict C z (Null b) = IsNullBy C z b
IsPartVerdict C z (Alive f) = IsAliveBy C z f

pub record IsNullBut (g : Marks) (z left bound : Chain) : Type 0 where
  pub within : (s : ℕ) → holds left s ≡ true → holds z s ≡ true
  pub closed : (s t : ℕ) → holds left s ≡ true → holds z t ≡ true → alexander_at g s ≡ alexander_at g t
      → holds left t ≡ true
  pub null : IsNullBy (grid_complex g) (z ⊕ left) bound
