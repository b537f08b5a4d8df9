-- The exchanges in order are the homotopy, across columns or across rows.
use Rattle.std.proofs.Common.{arith}
use Rattle.pentagon_map.proofs.Targets.OddSums.{states_listed}
use Rattle.hexagon_map.proofs.Targets.OddHexagons.{column_hexagons_listed, row_hexagons_listed}
use Rattle.hexagon_map.proofs.sums.targets_across.Goals as goal

pub returns-in-Cols-clause-homotopy : goal.returns-in-Cols-clause-homotopy
returns-in-Cols-clause-homotopy c g corner sg is there back =
    column_hexagons_listed c.args.t.now g c.odd_circles.ensures.grid c.args.axis c.args.c c.args.w c.args.v
    corner c.args.x.now
    c.exchanges.ensures.state c.requires.size c.requires.below
    c.in-Cols.is is there back c.odd_circles.result c.odd_circles.ensures.odd c.exchanges.result.items
    c.exchanges.ensures.items

pub returns-in-Cols-clause-states : goal.returns-in-Cols-clause-states
returns-in-Cols-clause-states c =
    states_listed c.args.t.now c.odd_circles.ensures.grid c.args.x.now c.exchanges.ensures.state c.requires.size
    c.args.c c.odd_circles.result (omega arith) c.exchanges.result.items c.exchanges.ensures.items

pub returns-in-Rows-clause-homotopy : goal.returns-in-Rows-clause-homotopy
returns-in-Rows-clause-homotopy c g corner sg is there back =
    row_hexagons_listed c.args.t.now g c.odd_circles-odd.ensures.grid c.args.axis c.args.c c.args.w c.args.v corner
    c.args.x.now c.exchanges-in-Rows.ensures.state c.requires.size c.requires.below
    sg c.in-Rows.is is there back c.transpose-columns.result c.transpose-columns.ensures.state c.odd_circles-odd.result
    c.carried_bits.result c.row.result
    c.odd_circles-odd.ensures.odd c.carried_bits.ensures c.row.ensures.row c.exchanges-in-Rows.result.items
    c.exchanges-in-Rows.ensures.items

pub returns-in-Rows-clause-states : goal.returns-in-Rows-clause-states
returns-in-Rows-clause-states c =
    states_listed c.args.t.now c.odd_circles-odd.ensures.grid c.args.x.now c.exchanges-in-Rows.ensures.state
    c.requires.size
    c.row.result c.carried_bits.result
    (let l = c.row.ensures.below in let e = c.transpose-columns.ensures.size in omega arith)
    c.exchanges-in-Rows.result.items c.exchanges-in-Rows.ensures.items
