use Rattle.std.proofs.Common.{◌≡◌, ◌++◌, take}
use Rattle.std.specs.List.{flat_map}
use Rattle.report_text.specs.Lines.{component_degree_text}
use Rattle.report_text.proofs.component_lines.push_degrees.Given as goal

-- the degrees so far are appended
abbrev pub invariant-loop-d : goal.invariant-loop-d
invariant-loop-d l = l.line.items ≡ l.fn.line.items ++ flat_map component_degree_text (take l.d-index l.degrees)
