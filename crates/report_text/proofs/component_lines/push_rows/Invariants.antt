use Rattle.std.proofs.Common.{◌≡◌, ◌++◌, take}
use Rattle.std.specs.List.{flat_map}
use Rattle.report_text.specs.Lines.{multi_row_line}
use Rattle.report_text.proofs.component_lines.push_rows.Given as goal

-- the lines of the rows so far are appended
abbrev pub invariant-loop-row : goal.invariant-loop-row
invariant-loop-row l = l.lines.items ≡ l.fn.lines.items ++ flat_map multi_row_line (take l.row-index l.rows)
