-- the lines so far are appended
use Rattle.std.proofs.Common.{◌≡◌, ◌++◌, take}
use Rattle.std.specs.List.{flat_map}
use Rattle.torus_geom.specs.Marks.{size}
use Rattle.homology_cert.specs.CertificateText.{text_of_lines}
use Rattle.homology_cert.specs.Inner.CodeText.{cell_lines}
use Rattle.homology_cert.proofs.printing.push_cells.Given as goal

abbrev pub invariant-loop-cell : goal.invariant-loop-cell
invariant-loop-cell l =
    l.text.items ≡ l.fn.text.items ++ text_of_lines (flat_map (cell_lines (size l.g)) (take l.cell-index l.cells))
