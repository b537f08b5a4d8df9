-- the bytes of the lines of the commands so far
use Rattle.std.proofs.Common.{◌≡◌, ◌≤◌, ◌+◌, ◌*◌, ◌^◌, take, length}
use Rattle.std.specs.List.{flat_map}
use Rattle.grid_text.specs.PlainForm.{command_line}
use Rattle.grid_text.proofs.lengths.print_len.Given as goal

abbrev pub invariant-loop-command : goal.invariant-loop-command
invariant-loop-command l =
    (l.count ≡ l.initial.count + length (flat_map command_line (take l.command-index l.command-items)))
    × (l.count ≤ 1000 + 2 ^ 70 * l.command-index)
