-- The classes of x+ and x- are cycles, so that they are null or alive; each chain of states has a text that tells its
-- verdict.
use Rattle.legendrian_class.specs.declared.verdicts.ClassVerdict.{ClassVerdict}
use Rattle.legendrian_class.specs.VerdictCodes.{verdict_of}
use Rattle.torus_geom.specs.Codes.{HasIndices, states_of}
use Rattle.state_rank.proofs.RankLemmas.{rank-unrank, IsBijection-unrank}
use Rattle.state_rank.specs.States.{factorial, rank, unrank}
use Rattle.f2_algebra.specs.Chain.{Chain as Codes, single as one_code}
use Rattle.std.proofs.Common.{◌≡◌, ℕ, List, refl, sym, ap, ◌∙◌, ◌<◌, subst}
use Rattle.std.proofs.lemmas.Bool.{false≢true}
use Rattle.state_rank.specs.Bijection.{IsBijection}
use Rattle.torus_geom.specs.Border.{border}
use Rattle.torus_geom.specs.Chains.{Chain, IsChain, nothing, single}
use Rattle.torus_geom.specs.Marks.{Marks, size, IsGrid}
use Rattle.torus_geom.proofs.Chains.CodesLemmas.{IsChain-single, All_from_indices, AreIndices-single, states_of-single}
use Rattle.front_data.proofs.FrontLemmas.{plus_state-state, border-plus_state, border-minus_state}
use Rattle.grid_text.specs.declared.commands.Sign.{Sign}
use Rattle.grid_text.specs.declared.commands.Sign.TheVariants.{Plus, Minus}
use Rattle.legendrian_class.specs.Verdicts.{IsNotCycle, IsVerdict, Verdict}
use Rattle.legendrian_class.specs.Verdicts.Verdict.{NotCycle, Null, Alive}
use Rattle.legendrian_class.proofs.StateVerdicts.{HasVerdict-states}
use Rattle.grid_job.specs.VerdictTexts.{class_state, IsClassText, bounds_text, IsBoundsText}

-- ---- x+ and x-
-- the state that a sign stands for alone, as a chain
abbrev pub class_chain : Marks → Sign → Chain
class_chain g sign = single (class_state g sign)

pub class_state-state : (g : Marks) → IsGrid g → (sign : Sign) → IsBijection (size g) (class_state g sign)
class_state-state g grid Plus = plus_state-state g grid
class_state-state g grid Minus = grid.x

border-class_chain : (g : Marks) → IsGrid g → (sign : Sign) → border g (class_chain g sign) ≡ nothing
border-class_chain g grid Plus = border-plus_state g grid
border-class_chain g grid Minus = border-minus_state g grid

-- a class is a cycle
pub class_is_cycle : (g : Marks) → IsGrid g → (sign : Sign) (x : List ℕ) → IsNotCycle g (class_chain g sign) x → ⊥
class_is_cycle g grid sign x not_cycle =
    false≢true (sym (ap (λ z. z x) (border-class_chain g grid sign)) ∙ not_cycle.held)

pub IsChain-class_chain : (g : Marks) → IsGrid g → (sign : Sign) → IsChain (size g) (class_chain g sign)
IsChain-class_chain g grid sign = IsChain-single (size g) (class_state g sign) (class_state-state g grid sign)

-- ---- texts of verdicts
exists_told : (g : Marks) → IsGrid g → (sign : Sign) (v : Verdict) → IsVerdict g (class_chain g sign) v
    → (text : List ℕ) × IsClassText g sign text
exists_told g grid sign (NotCycle x) stands = absurd (class_is_cycle g grid sign x stands)
exists_told g grid sign (Null b) stands = (_, record { verdict = Null b; is_verdict = stands; told = refl })
exists_told g grid sign (Alive f) stands = (_, record { verdict = Alive f; is_verdict = stands; told = refl })

pub exists_class_text : (g : Marks) → IsGrid g → (sign : Sign) → (text : List ℕ) × IsClassText g sign text
exists_class_text g grid sign =
    let found = HasVerdict-states g grid (class_chain g sign) (IsChain-class_chain g grid sign) in
    exists_told g grid sign found.0 found.1

pub exists_bounds_text : (g : Marks) → IsGrid g → (z : Chain) → IsChain (size g) z
    → (text : List ℕ) × IsBoundsText g z text
exists_bounds_text g grid z states =
    let found = HasVerdict-states g grid z states in
    (bounds_text g found.0, record { verdict = found.0; is_verdict = found.1; told = refl })

-- ---- what the code keeps
-- a set of one rank has ranks
pub HasIndices-single : (n s : ℕ) → s < factorial n → HasIndices n (one_code s)
HasIndices-single n s l =
    subst (λ k. HasIndices n (one_code k)) (rank-unrank n s l)
    (All_from_indices n (one_code (rank (unrank n s))) (AreIndices-single n (unrank n s) (IsBijection-unrank n s l)))

-- and stands for the chain of its state
pub states_of-code : (n s : ℕ) → s < factorial n → states_of n (one_code s) ≡ single (unrank n s)
states_of-code n s l =
    ap (λ k. states_of n (one_code k)) (sym (rank-unrank n s l))
    ∙ states_of-single n (unrank n s) (IsBijection-unrank n s l)

module _ (g : Marks) (grid : IsGrid g) (sign : Sign) (z : Codes) (is : z ≡ one_code (rank (class_state g sign))) where
  -- the set of the rank of x+ or x- has ranks
  pub HasIndices-class : HasIndices (size g) z
  HasIndices-class =
      subst (HasIndices (size g)) (sym is)
      (All_from_indices (size g) _ (AreIndices-single (size g) (class_state g sign) (class_state-state g grid sign)))

  -- and stands for the class
  pub states_of-class : states_of (size g) z ≡ class_chain g sign
  states_of-class =
      ap (states_of (size g)) is ∙ states_of-single (size g) (class_state g sign) (class_state-state g grid sign)

  -- so a verdict of it is one of the class
  pub class_verdict : (v w : ClassVerdict) → v ≡ w → IsVerdict g (states_of (size g) z) (verdict_of (size g) v)
      → IsVerdict g (class_chain g sign) (verdict_of (size g) w)
  class_verdict v w same stands =
      subst (λ y. IsVerdict g y (verdict_of (size g) w)) states_of-class
      (subst (λ u. IsVerdict g (states_of (size g) z) (verdict_of (size g) u)) same stands)
