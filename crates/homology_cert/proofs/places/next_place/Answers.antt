use Rattle.homology_cert.specs.declared.places.Place.TheVariants.{XLine, NoCell, InCell, InCycle, InStep}
use Rattle.homology_cert.proofs.Texts.NextLemmas.{at_place, at_place-ok, no_cells, next-x, next-no_cell, next-in_cycle, next-in_step}
use Rattle.homology_cert.proofs.places.next_place.Goals as goal

pub returns-in-XLine : goal.returns-in-XLine
returns-in-XLine c =
    let o = c.in-XLine.o in
    at_place c.args.place (XLine o) c.in-XLine.is c.args.cells.now.items c.args.line.now c.x_place.result
    c.args.cells.now.items
    (next-x c.args.cells.now.items c.args.line.now o c.x_place.result c.x_place.ensures)

pub returns-in-NoCell : goal.returns-in-NoCell
returns-in-NoCell c =
    let g = c.in-NoCell.g in
    at_place c.args.place (NoCell g) c.in-NoCell.is c.args.cells.now.items c.args.line.now c.first_cell.result
    c.args.cells.now.items
    (next-no_cell c.args.cells.now.items c.args.line.now g c.first_cell.result
    (no_cells c.args.place g c.args.cells.now.items c.in-NoCell.is c.requires.at) c.first_cell.ensures)

pub returns-in-InCell : goal.returns-in-InCell
returns-in-InCell c =
    at_place-ok c.args.place (InCell c.in-InCell.g c.in-InCell.cell) c.in-InCell.is c.args.cells.now.items
    c.args.line.now c.cell_place.result _ c.cell_place.ensures

pub returns-in-InCycle : goal.returns-in-InCycle
returns-in-InCycle c =
    let p = c.in-InCycle in
    at_place-ok c.args.place (InCycle p.g p.cell p.cycle) p.is c.args.cells.now.items c.args.line.now
    c.cycle_place.result c.args.cells.now.items
    (next-in_cycle c.args.cells.now.items c.args.line.now p.g p.cell p.cycle c.cycle_place.result c.cycle_place.ensures)

pub returns-in-InStep : goal.returns-in-InStep
returns-in-InStep c =
    let p = c.in-InStep in
    at_place-ok c.args.place (InStep p.g p.cell p.step) p.is c.args.cells.now.items c.args.line.now c.step_place.result
    c.args.cells.now.items
    (next-in_step c.args.cells.now.items c.args.line.now p.g p.cell p.step c.step_place.result c.step_place.ensures)
