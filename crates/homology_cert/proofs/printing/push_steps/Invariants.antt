-- the lines so far are appended
use Rattle.std.proofs.Common.{◌≡◌, ◌++◌, take}
use Rattle.std.specs.List.{flat_map}
use Rattle.torus_geom.specs.Marks.{size}
use Rattle.homology_cert.specs.CertificateText.{text_of_lines}
use Rattle.homology_cert.specs.Inner.CodeText.{step_lines}
use Rattle.homology_cert.proofs.printing.push_steps.Given as goal

abbrev pub invariant-loop-pair : goal.invariant-loop-pair
invariant-loop-pair l =
    l.text.items ≡ l.fn.text.items ++ text_of_lines (flat_map (step_lines (size l.g)) (take l.pair-index l.pairs))
