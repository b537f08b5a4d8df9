-- Scripts with one more command, and the grids in force. Each command that may stand where it does makes a grid of a
-- grid, of any size; so the grid in force after commands that may stand there is a grid, and a script with one more
-- command is a script.
use Rattle.std.proofs.Common.{◌≡◌, ℕ, ◌<◌, List, [], ◌∷◌, ◌++◌, length, refl, ap, subst, ◌∙◌, sym, arith, length-append}
use Rattle.torus_geom.specs.Marks.{Marks, IsGrid}
use Rattle.grid_moves.proofs.Turned.TurnLemmas.{IsGrid-turned}
use Rattle.grid_moves.proofs.Exchanged.SwappedTwice.{IsGrid-swapped}
use Rattle.grid_symmetry.proofs.StateLaws.{IsGrid-symmetric}
use Rattle.stabilise.proofs.StabilisedGrids.{IsGrid-stabilised}
use Rattle.stabilise.proofs.BlockLemmas.{IsGrid-destabilised}
use Rattle.grid_text.specs.Commands.{IsAllowed, grid_after}
use Rattle.grid_text.specs.Script.{GridScript, IsVersion, IsScript, AreAllowed, grid_after_all, grid_in_force, with_command}
use Rattle.grid_text.specs.declared.commands.Command.{Command}
use Rattle.grid_text.specs.declared.commands.Command.TheVariants as command
use Rattle.grid_text.specs.Limits.{max_commands}

-- the grid after a command that may stand there is a grid
pub IsGrid-grid_after : (g : Marks) (c : Command) → IsGrid g → IsAllowed g c → IsGrid (grid_after g c)
IsGrid-grid_after g (command.Turn side) h a = IsGrid-turned side g h
IsGrid-grid_after g (command.Commute axis c corner) h a = IsGrid-swapped axis g h c a.0
IsGrid-grid_after g (command.Stab c empty) h a =
    let least = h.is_size.least in
    let room = a.1 in
    IsGrid-stabilised g c empty h a.0 (record { least = omega arith; greatest = omega arith })
IsGrid-grid_after g (command.Destab c r empty) h a = IsGrid-destabilised g c r empty h a.0 a.1 a.2
IsGrid-grid_after g (command.Symm s) h a = IsGrid-symmetric s g h
IsGrid-grid_after g c h a = h

-- the grid in force after one more command
pub grid_after_all-push : (g : Marks) (commands : List Command) (c : Command)
    → grid_after_all g (commands ++ c ∷ []) ≡ grid_after (grid_after_all g commands) c
grid_after_all-push g [] c = refl
grid_after_all-push g (b ∷ commands) c = grid_after_all-push (grid_after g b) commands c

-- one more command that is allowed
pub AreAllowed-push : (g : Marks) (commands : List Command) (c : Command) → AreAllowed g commands
    → IsAllowed (grid_after_all g commands) c → AreAllowed g (commands ++ c ∷ [])
AreAllowed-push g [] c all one = (one, tt)
AreAllowed-push g (b ∷ commands) c all one = (all.0, AreAllowed-push (grid_after g b) commands c all.1 one)

-- the grid in force is a grid
IsGrid-grid_after_all : (g : Marks) (commands : List Command) → IsGrid g → AreAllowed g commands
    → IsGrid (grid_after_all g commands)
IsGrid-grid_after_all g [] h all = h
IsGrid-grid_after_all g (c ∷ commands) h all =
    IsGrid-grid_after_all (grid_after g c) commands (IsGrid-grid_after g c h all.0) all.1

pub IsGrid-grid_in_force : (s : GridScript) → IsScript s → IsGrid (grid_in_force s)
IsGrid-grid_in_force s h = IsGrid-grid_after_all s.grid s.commands h.grid h.allowed

-- a script with one more command
pub IsScript-with_command : (s : GridScript) (c : Command) → IsScript s → length s.commands < max_commands
    → IsAllowed (grid_in_force s) c → IsScript (with_command s c)
IsScript-with_command s c h few allowed = record {
  version = h.version;
  grid = h.grid;
  few = omega (arith, length-append s.commands (c ∷ []));
  allowed = AreAllowed-push s.grid s.commands c h.allowed allowed;
}

-- a script without commands
pub IsScript-no_command : (v : ℕ) (g : Marks) → IsVersion v → IsGrid g
    → IsScript (record { version = v; grid = g; commands = [] })
IsScript-no_command v g is h = record { version = is; grid = h; few = omega arith; allowed = tt }

-- what is kept of a script is kept of it with one more command
pub with_command-stored : (v : ℕ) (g : Marks) (commands more : List Command) (now next : Marks) (c : Command)
    → IsScript (record { version = v; grid = g; commands = commands }) → now ≡ grid_after_all g commands
    → more ≡ commands ++ c ∷ [] → next ≡ grid_after now c
    → length commands < max_commands → IsAllowed (grid_after_all g commands) c
    → IsScript (record { version = v; grid = g; commands = more }) × (next ≡ grid_after_all g more)
with_command-stored v g commands more now next c h in_force appended after few allowed = (
  subst (λ cs. IsScript (record { version = v; grid = g; commands = cs })) (sym appended)
      (IsScript-with_command (record { version = v; grid = g; commands = commands }) c h few allowed),
  after ∙ ap (λ f. grid_after f c) in_force ∙ sym (grid_after_all-push g commands c)
      ∙ ap (grid_after_all g) (sym appended),
)
