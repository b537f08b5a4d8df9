-- The texts that state what a chain of states is in the homology of a grid, with the evidence. The evidence may be any
-- that the verdict allows.
--     class_state g sign     the state that a sign stands for: x+ or x-
--     verdict_line g sign alive   the line of a class that is alive, or null
--     IsClassText g sign text     the text states that the class is null, with a bound, or alive, with a cocycle
--     bounds_text g v        the lines of a verdict
--     IsBoundsText g z text  the text states a verdict of the chain z
use Rattle.std.specs.Prelude.{◌≡◌, ℕ, Bool, true, false, List, ◌++◌, codes}
use Rattle.torus_geom.specs.Chains.{Chain, single}
use Rattle.torus_geom.specs.Degrees.{maslov_o, alexander}
use Rattle.torus_geom.specs.Front.{plus_state, minus_state}
use Rattle.torus_geom.specs.Marks.{Marks, size}
use Rattle.grid_text.specs.declared.commands.Sign.{Sign}
use Rattle.grid_text.specs.declared.commands.Sign.TheVariants.{Plus, Minus}
use Rattle.legendrian_class.specs.Verdicts.{Verdict, IsVerdict}
use Rattle.legendrian_class.specs.Verdicts.Verdict.{NotCycle, Null, Alive}
use Rattle.report_text.specs.Lines.{class_line}
use Rattle.text_lines.specs.Lines.{line, chain_line}

abbrev pub class_state : Marks → Sign → List ℕ
class_state g Plus = plus_state g
class_state g Minus = minus_state g

abbrev pub verdict_line : Marks → Sign → Bool → List ℕ
verdict_line g sign alive =
    class_line sign (class_state g sign) (maslov_o g (class_state g sign)) (alexander g (class_state g sign)) alive

-- the text states this verdict of a class: it is null or alive, and never "not a cycle"
abbrev pub TellsClass : Marks → Sign → Verdict → List ℕ → Type 0
TellsClass g sign (NotCycle s) text = ⊥
TellsClass g sign (Null bound) text =
    text ≡ verdict_line g sign false ++ line (chain_line (codes "bound") (size g) bound)
TellsClass g sign (Alive cocycle) text =
    text ≡ verdict_line g sign true ++ line (chain_line (codes "cocycle") (size g) cocycle)

pub record IsClassText (g : Marks) (sign : Sign) (text : List ℕ) : Type 0 where
  pub verdict : Verdict
  pub is_verdict : IsVerdict g (single (class_state g sign)) verdict
  pub told : TellsClass g sign verdict text

abbrev pub bounds_text : Marks → Verdict → List ℕ
bounds_text g (NotCycle state) = line (chain_line (codes "bounds notcycle") (size g) (single state))
bounds_text g (Null bound) = line (codes "bounds null") ++ line (chain_line (codes "bound") (size g) bound)
bounds_text g (Alive cocycle) = line (codes "bounds alive") ++ line (chain_line (codes "cocycle") (size g) cocycle)

pub record IsBoundsText (g : Marks) (z : Chain) (text : List ℕ) : Type 0 where
  pub verdict : Verdict
  pub is_verdict : IsVerdict g z verdict
  pub told : text ≡ bounds_text g verdict
