use Rattle.std.proofs.Common.{sym, subst}
use Rattle.homology_cert.specs.Inner.CodeCertificates.{HasPairStates}
use Rattle.homology_cert.proofs.printing.push_cells.Goals as goal

pub push_cell-requires : goal.push_cell-requires
push_cell-requires c =
    subst (HasPairStates c.args.g.now) (sym c.cell-item.is)
    (c.requires c.loop-cell.cell-index c.cell-item.result c.loop-cell-test.true)
