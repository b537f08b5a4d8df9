use Rattle.homology_cert.proofs.States.StateTexts.{certificate_text-states}
use Rattle.std.proofs.Common.{List, sym, ap, ap₂, subst, ◌∙◌, ◌++◌, All}
use Rattle.std.specs.List.{flat_map}
use Rattle.torus_geom.specs.Marks.{Marks, size}
use Rattle.homology_cert.specs.CertificateCodes.{Cell}
use Rattle.homology_cert.specs.Inner.CodeCertificates.{HasPairStates}
use Rattle.homology_cert.specs.CertificateText.{text_of_lines, certificate_head_lines}
use Rattle.homology_cert.specs.Inner.CodeText.{cell_lines}
use Rattle.homology_cert.proofs.Texts.TextLemmas.{certificate_pieces}
use Rattle.homology_cert.proofs.printing.print_cert.Goals as goal

pub push_cells-requires : goal.push_cells-requires
push_cells-requires c =
    subst (λ (g : Marks). All (HasPairStates g) c.cells.result.now) (sym c.grid-g.ensures.grid)
    (subst (All (HasPairStates c.args.c.now.grid)) (sym c.cells.ensures.cells) c.cells.ensures.certificate.states)

pub returns : goal.returns
returns c =
    let cert = c.args.c.now in
    let head = c.in_ok-push_head.ensures
    ∙ ap (λ (g : Marks). c.new-text.result.items ++ text_of_lines (certificate_head_lines g)) c.grid-g.ensures.grid in
    let cells = c.in_ok-push_cells.ensures
    ∙ ap₂ (λ (g : Marks) (cells : List Cell). c.push_head.new.text.items
    ++ text_of_lines (flat_map (cell_lines (size g)) cells)) c.grid-g.ensures.grid c.cells.ensures.cells in
    record {
      text =
          certificate_pieces cert c.new-text.result.items c.push_head.new.text.items c.push_cells.new.text.items
          c.extend_from_slice.new.self.items c.new-text.ensures.items head cells
          c.in_ok-extend_from_slice.ensures.items
          ∙ certificate_text-states cert c.cells.ensures.certificate;
    }
