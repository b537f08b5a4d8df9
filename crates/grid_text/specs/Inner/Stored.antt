-- How a script is stored: beside its version, its grid and its commands, the grid in force after them.
--     script s      the script that is seen
--     IsStored s    the parts are those of a script
use Rattle.std.specs.Prelude.{◌≡◌}
use Rattle.grid_text.specs.Script.{GridScript, IsScript, grid_in_force}
use Rattle.grid_text.specs.declared.scripts.Script.TheInside.{Inside}

abbrev pub script : Inside → GridScript
script s = record { version = s.version; grid = s.grid; commands = s.commands.items }

pub record IsStored (s : Inside) : Type 0 where
  pub is_script : IsScript (script s)
  pub in_force : s.in_force ≡ grid_in_force (script s)
