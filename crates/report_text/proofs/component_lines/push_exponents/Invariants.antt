use Rattle.std.proofs.Common.{◌≡◌, ◌++◌, take}
use Rattle.std.specs.List.{flat_map}
use Rattle.report_text.specs.Lines.{exponent_text}
use Rattle.report_text.proofs.component_lines.push_exponents.Given as goal

-- the exponents so far are appended
abbrev pub invariant-loop-e : goal.invariant-loop-e
invariant-loop-e l = l.line.items ≡ l.fn.line.items ++ flat_map exponent_text (take l.e-index l.exps)
