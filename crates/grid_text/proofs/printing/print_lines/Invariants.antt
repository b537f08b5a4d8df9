-- the lines of the commands so far
use Rattle.std.proofs.Common.{◌≡◌, ◌++◌, take}
use Rattle.std.specs.List.{flat_map}
use Rattle.grid_text.specs.PlainForm.{command_line}
use Rattle.grid_text.proofs.printing.print_lines.Given as goal

abbrev pub invariant-loop-command : goal.invariant-loop-command
invariant-loop-command l =
    l.text.items ≡ l.initial.text.items ++ flat_map command_line (take l.command-index l.command-items)
