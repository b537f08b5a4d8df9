-- The verdict of a set of codes: a state is in it by its index.
--     maslov_at g s          the Maslov degree of the state of index s
--     alexander_at g s       its Alexander degree
--     IsOneAbove g s t       the state of index s is one Maslov degree above that of index t, in one Alexander degree
--     HaveOneDegree g s t    they have one Maslov degree, and one Alexander degree
--     IsBorderOf g b z       z is the border of b, whose codes are indices of states
--     Bounds g z             z is the border of some set of indices
--     plus_chain g           the index of x+ alone
--     minus_chain g          the index of x- alone
--     IsNotCycle g z s       z is no cycle: s is the least code of its border
--     IsNull g z b           z is null, by b
--     IsAlive g z f          z is alive, by f
--     IsVerdict g z v        v is a verdict of z, with its evidence
--     HasVerdict g z         z has a verdict, with some evidence
--     HasOneVerdict g z      z has no two of the three
use Rattle.std.specs.Prelude.{◌≡◌, ℕ, ◌≤◌, ◌<◌, ℤ, pos, ◌+ℤ◌, true, false}
use Rattle.f2_algebra.specs.Chain.{Chain, holds, nothing, pairs_oddly, single}
use Rattle.state_rank.specs.States.{factorial, rank, unrank}
use Rattle.torus_geom.specs.Front.{minus_state, plus_state}
use Rattle.torus_geom.specs.Marks.{Marks, size}
use Rattle.torus_geom.specs.Degrees.{maslov_o, alexander}
use Rattle.torus_geom.specs.Inner.CodeBorder.{border_of_state, border}
use Rattle.torus_geom.specs.Codes.{HasIndices}
use Rattle.legendrian_class.specs.declared.verdicts.ClassVerdict.{ClassVerdict}
use Rattle.legendrian_class.specs.declared.verdicts.ClassVerdict.TheVariants.{NotCycle, Null, Alive}

abbrev pub maslov_at : Marks → ℕ → ℤ
maslov_at g s = maslov_o g (unrank (size g) s)

abbrev pub alexander_at : Marks → ℕ → ℤ
alexander_at g s = alexander g (unrank (size g) s)

pub record IsOneAbove (g : Marks) (s t : ℕ) : Type 0 where
  pub maslov : maslov_at g s ≡ maslov_at g t +ℤ pos 1
  pub alexander : alexander_at g s ≡ alexander_at g t

pub record HaveOneDegree (g : Marks) (s t : ℕ) : Type 0 where
  pub maslov : maslov_at g s ≡ maslov_at g t
  pub alexander : alexander_at g s ≡ alexander_at g t

pub record IsBorderOf (g : Marks) (b z : Chain) : Type 0 where
  pub states : HasIndices (size g) b
  pub is_border : border g b ≡ z

pub record IsNotCycle (g : Marks) (z : Chain) (s : ℕ) : Type 0 where
  pub held : holds (border g z) s ≡ true
  pub least : (t : ℕ) → holds (border g z) t ≡ true → s ≤ t

pub record IsNull (g : Marks) (z b : Chain) : Type 0 where
  pub bounds : IsBorderOf g b z
  pub degrees : (s : ℕ) → holds b s ≡ true → (t : ℕ) × (holds z t ≡ true) × IsOneAbove g s t

pub record IsAlive (g : Marks) (z f : Chain) : Type 0 where
  pub states : HasIndices (size g) f
  pub cycle : border g z ≡ nothing
  pub even : (s : ℕ) → s < factorial (size g) → pairs_oddly (border_of_state g (unrank (size g) s)) f ≡ false
  pub odd : pairs_oddly z f ≡ true
  pub degrees : (t : ℕ) × (holds z t ≡ true) × ((s : ℕ) → holds f s ≡ true → HaveOneDegree g s t)

abbrev pub IsVerdict : Marks → Chain → ClassVerdict → Type 0
IsVerdict g z (NotCycle s) = IsNotCycle g z s
IsVerdict g z (Null b) = IsNull g z b
IsVerdict g z (Alive f) = IsAlive g z f

abbrev pub HasVerdict : Marks → Chain → Type 0
HasVerdict g z = (v : ClassVerdict) × IsVerdict g z v

pub record HasOneVerdict (g : Marks) (z : Chain) : Type 0 where
  pub not_cycle_or_border : (s : ℕ) (b : Chain) → IsNotCycle g z s → IsBorderOf g b z → ⊥
  pub not_cycle_or_alive : (s : ℕ) (f : Chain) → IsNotCycle g z s → IsAlive g z f → ⊥
  pub border_or_alive : (b f : Chain) → IsBorderOf g b z → IsAlive g z f → ⊥

abbrev pub Bounds : Marks → Chain → Type 0
Bounds g z = (b : Chain) × IsBorderOf g b z

abbrev pub plus_chain : Marks → Chain
plus_chain g = single (rank (plus_state g))

abbrev pub minus_chain : Marks → Chain
minus_chain g = single (rank (minus_state g))
