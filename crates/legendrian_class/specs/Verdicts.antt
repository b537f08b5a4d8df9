-- The verdict of a chain of states of a grid: what it is in the homology of the fully blocked grid complex over the
-- field of two elements, with evidence that can be checked by hand. For x+ and x- alone it says whether the Legendrian
-- classes of the link vanish there (Ozsváth, Szabó and Thurston, "Legendrian knots, transverse knots and combinatorial
-- knot Floer homology"; Ng, Ozsváth and Thurston, "Transverse knots distinguished by knot Floer homology"; Ozsváth,
-- Stipsicz and Szabó, "Grid Homology for Knots and Links", chapter 12). A cochain is a chain of states too.
--     IsNotCycle g z x       z is no cycle: x is the least state of its border, in lexicographic order
--     IsNull g z b           z is null: it is the border of b, and each state of b is one Maslov degree above, and in
--                            the Alexander degree of, some state of z
--     IsAlive g z f          z is alive: it is a cycle, and f pairs evenly with the border of each state and oddly
--                            with z; all states of f have one degree, that of a state of z
--     Verdict                one of the three, with its evidence
--     IsVerdict g z v        v is a verdict of z
--     HasVerdict g z         z has a verdict, with some evidence
--     HasOneVerdict g z      z has no two of the three; if it bounds anything, it is neither alive nor no cycle
use Rattle.std.specs.Prelude.{◌≡◌, ℕ, true, false, List}
use Rattle.f2_algebra.specs.Bigraded.{up_m}
use Rattle.state_rank.specs.Bijection.{IsBijection}
use Rattle.state_rank.specs.States.{is_before}
use Rattle.torus_geom.specs.Marks.{Marks, size}
use Rattle.torus_geom.specs.Degrees.{bidegree}
use Rattle.torus_geom.specs.Chains.{Chain, IsChain, nothing, single, pairs_oddly}
use Rattle.torus_geom.specs.Border.{border, IsBorderOf}

pub record IsNotCycle (g : Marks) (z : Chain) (x : List ℕ) : Type 0 where
  pub held : border g z x ≡ true
  pub least : (y : List ℕ) → border g z y ≡ true → is_before y x ≡ false

pub record IsNull (g : Marks) (z b : Chain) : Type 0 where
  pub bounds : IsBorderOf g b z
  pub degrees : (x : List ℕ) → b x ≡ true → (y : List ℕ) × (z y ≡ true) × (bidegree g x ≡ up_m (bidegree g y))

pub record IsAlive (g : Marks) (z f : Chain) : Type 0 where
  pub states : IsChain (size g) f
  pub cycle : border g z ≡ nothing
  pub even : (x : List ℕ) → IsBijection (size g) x → pairs_oddly (size g) (border g (single x)) f ≡ false
  pub odd : pairs_oddly (size g) z f ≡ true
  pub degrees : (y : List ℕ) × (z y ≡ true) × ((x : List ℕ) → f x ≡ true → bidegree g x ≡ bidegree g y)

pub data Verdict : Type 0 where
  NotCycle : List ℕ → Verdict
  Null : Chain → Verdict
  Alive : Chain → Verdict

abbrev pub IsVerdict : Marks → Chain → Verdict → Type 0
IsVerdict g z (NotCycle x) = IsNotCycle g z x
IsVerdict g z (Null b) = IsNull g z b
IsVerdict g z (Alive f) = IsAlive g z f

abbrev pub HasVerdict : Marks → Chain → Type 0
HasVerdict g z = (v : Verdict) × IsVerdict g z v

pub record HasOneVerdict (g : Marks) (z : Chain) : Type 0 where
  pub not_cycle_or_border : (x : List ℕ) (b : Chain) → IsNotCycle g z x → IsBorderOf g b z → ⊥
  pub not_cycle_or_alive : (x : List ℕ) (f : Chain) → IsNotCycle g z x → IsAlive g z f → ⊥
  pub border_or_alive : (b f : Chain) → IsBorderOf g b z → IsAlive g z f → ⊥
