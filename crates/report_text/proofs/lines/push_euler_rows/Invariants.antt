use Rattle.std.proofs.Common.{◌≡◌, ◌++◌, take}
use Rattle.std.specs.List.{flat_map}
use Rattle.report_text.specs.Lines.{euler_line}
use Rattle.report_text.proofs.lines.push_euler_rows.Given as goal

-- the lines of the rows so far are appended
abbrev pub invariant-loop-row : goal.invariant-loop-row
invariant-loop-row l = l.lines.items ≡ l.fn.lines.items ++ flat_map euler_line (take l.row-index l.rows)
