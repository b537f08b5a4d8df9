-- Each cell is one more of its degrees.
use Rattle.std.proofs.Common.{◌<◌, ◌^◌, length, take, get_or, w32, sym, subst, ◌∙◌, ap, rules, arith}
use mir.Val.{SFits}
use Rattle.std.proofs.lemmas.Int.{to_z-of_z}
use Rattle.std.proofs.lemmas.List.{take_more, length-take-le}
use Rattle.state_rank.specs.States.{unrank}
use Rattle.sparse_complex.specs.Inner.Graph.{no_cell}
use Rattle.homology_cert.specs.Inner.Left.{AreCounted}
use Rattle.homology_cert.proofs.Components.CountedCells.{counted-cell, counted-small}
use Rattle.homology_cert.proofs.component_tables.count_states.Goals as goal

pub count_cell-requires-clause-small : goal.count_cell-requires-clause-small
count_cell-requires-clause-small c =
    let cells = c.args.cells.now in
    let i = c.loop-cell.cell-index in
    let end = c.loop-cell-test.true in
    let few = c.requires.few in
    let long = length-take-le i cells (omega arith) in
    let less : length (take i cells) < 2 ^ 32 = omega arith in
    counted-small c.args.g.now (take i cells) c.args.rows.now.items c.loop-cell.rows.items c.loop-cell.invariant
    c.requires.small less

pub loop-cell-preserved : goal.loop-cell-preserved
loop-cell-preserved c =
    let g = c.args.g.now in
    let cells = c.args.cells.now in
    let i = c.loop-cell.cell-index in
    let cell = get_or cells i no_cell in
    let fits : SFits w32 cell.maslov = search rules in
    subst (λ xs. AreCounted g xs c.args.rows.now.items c.count_cell.new.rows.items)
    (sym (take_more cells i no_cell c.loop-cell-test.true))
    (counted-cell g (take i cells) cell c.args.rows.now.items c.loop-cell.rows.items c.count_cell.new.rows.items _ _
    c.unrank-x.result (c.requires.states i no_cell c.loop-cell-test.true)
    (c.unrank-x.ensures.state ∙ ap (λ n. unrank n cell.code) c.size.ensures.size) (to_z-of_z w32 cell.maslov fits)
    c.component_degrees.ensures.degrees c.component_degrees.ensures.small c.component_degrees.ensures.count
    c.in_ok-count_cell.ensures.counted c.loop-cell.invariant)
