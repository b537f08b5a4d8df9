-- A script: a version, a grid and the commands that are carried out on it, in order. The version says how tables are
-- printed: 1 is that of documents that begin with `grid N` or `picture N`, 2 that of those that begin with `grid2 N`.
--     GridScript                   a version, a grid and a list of commands
--     grid_after_all g commands    the grid in force after the commands, if it is g before them
--     AreAllowed g commands        each of the commands may stand where it does
--     IsVersion v                  v is a version
--     IsScript s                   the version is one, the grid is a grid, the commands are not too many, and each of
--                                  them may stand where it does
--     grid_in_force s              the grid in force where the next command stands
--     with_command s c             the script with one more command
use Rattle.std.specs.Prelude.{◌≡◌, ◌⊎◌, ℕ, ◌≤◌, List, [], ◌∷◌, ◌++◌, length}
use Rattle.torus_geom.specs.Marks.{Marks, IsGrid}
use Rattle.grid_text.specs.Limits.{max_commands}
use Rattle.grid_text.specs.Commands.{IsAllowed, grid_after}
use Rattle.grid_text.specs.declared.commands.Command.{Command}

pub record GridScript : Type 0 where
  pub version : ℕ
  pub grid : Marks
  pub commands : List Command

-- the grid in force after the commands
abbrev pub grid_after_all : Marks → List Command → Marks
grid_after_all g [] = g
grid_after_all g (c ∷ commands) = grid_after_all (grid_after g c) commands

-- each command may stand where it does
abbrev pub AreAllowed : Marks → List Command → Type 0
AreAllowed g [] = Unit {0}
AreAllowed g (c ∷ commands) = IsAllowed g c × AreAllowed (grid_after g c) commands

abbrev pub IsVersion : ℕ → Type 0
IsVersion v = (v ≡ 1) ⊎ (v ≡ 2)

pub record IsScript (s : GridScript) : Type 0 where
  pub version : IsVersion s.version
  pub grid : IsGrid s.grid
  pub few : length s.commands ≤ max_commands
  pub allowed : AreAllowed s.grid s.commands

-- the grid in force where the next command stands
abbrev pub grid_in_force : GridScript → Marks
grid_in_force s = grid_after_all s.grid s.commands

-- the script with one more command
abbrev pub with_command : GridScript → Command → GridScript
with_command s c = record { version = s.version; grid = s.grid; commands = s.commands ++ c ∷ [] }
