-- The cells that are left count the ranks, by either grading.
use Rattle.std.proofs.lemmas.Result.{IfOk-weaker}
use Rattle.f2_algebra.specs.Slice.{slice_complex}
use Rattle.homology_cert.specs.Inner.Left.{HasComponentRanks}
use Rattle.homology_cert.specs.Inner.Ranks.{HasRanks}
use Rattle.homology_cert.proofs.Components.LeftCells.{ranks_of_left}
use Rattle.homology_cert.proofs.Homology.CellLemmas.{ranks_of_cells}
use Rattle.homology_cert.proofs.Homology.SliceRanks.{reduction_of}
use Rattle.homology_cert.proofs.left_cells.cells_after.Goals as goal

pub returns-clause-ranks : goal.returns-clause-ranks
returns-clause-ranks c =
    let g = c.args.g.now in
    IfOk-weaker c.live_cells.result _ (λ cells. HasRanks g c.args.a cells.items) (λ cells listed.
    ranks_of_cells g c.size-size.ensures.grid c.args.a (slice_complex c.reduce.new.slice.slice) _ cells.items
    (reduction_of g c.args.a c.args.slice.slice c.reduce.new.slice.slice _ c.requires.built c.in_ok-log.ensures.reduced)
    listed) c.live_cells.ensures

pub returns-clause-components : goal.returns-clause-components
returns-clause-components c =
    let g = c.args.g.now in
    IfOk-weaker c.live_cells.result _ (λ cells. HasComponentRanks g c.args.a cells.items) (λ cells listed.
    ranks_of_left g c.size-size.ensures.grid c.args.a (slice_complex c.reduce.new.slice.slice) _ cells.items
    (reduction_of g c.args.a c.args.slice.slice c.reduce.new.slice.slice _ c.requires.built c.in_ok-log.ensures.reduced)
    listed) c.live_cells.ensures
