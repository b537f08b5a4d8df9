-- The array begins with the turned state.
use Rattle.std.proofs.Common.{◌≡◌, length, take, slice_index, ap, sym, ◌∙◌, arith, rules, subst}
use Rattle.state_rank.specs.States.{IsState}
use Rattle.grid_moves.specs.Moves.{moved_row}
use Rattle.grid_moves.proofs.Turned.TurnLemmas.{HasTurned-more}
use Rattle.grid_moves.proofs.Turned.TurnedStates.{take-turned_state, IsState-turned_state, length-turned_state}
use Rattle.grid_moves.proofs.turns.turn_state.Goals as goal

pub loop-c-preserved : goal.loop-c-preserved
loop-c-preserved c =
    let n = c.size-n.ensures.state.size.greatest in
    let e = c.size-n.ensures.size in
    let l = c.loop-c-test.true in
    HasTurned-more _ _ _ _ _ _ c.loop-c.invariant (omega arith)
    (c.moved_row.ensures.value
    ∙ ap (moved_row c.args.side c.size-n.result)
    (c.row.ensures.row ∙ ap (slice_index c.args.x.now) c.source_column.ensures.value))

pub unwrap-requires : goal.unwrap-requires
unwrap-requires c =
    let e = take-turned_state c.args.side c.args.x.now c.loop-c.rows c.size-n.result c.loop-c.c c.size-n.ensures.state
    c.size-n.ensures.size c.loop-c-test.false c.loop-c.invariant in
    let state : IsState (take c.size-n.result c.loop-c.rows) =
    subst IsState (sym e) (IsState-turned_state c.args.side c.args.x.now c.size-n.ensures.state) in
    search rules

pub returns-clause-state : goal.returns-clause-state
returns-clause-state c =
    let e = take-turned_state c.args.side c.args.x.now c.loop-c.rows c.size-n.result c.loop-c.c c.size-n.ensures.state
    c.size-n.ensures.size c.loop-c-test.false c.loop-c.invariant in
    let rows : c.unwrap.result ≡ take c.size-n.result c.loop-c.rows = search rules in
    rows ∙ e

pub returns-clause-size : goal.returns-clause-size
returns-clause-size c =
    let e = take-turned_state c.args.side c.args.x.now c.loop-c.rows c.size-n.result c.loop-c.c c.size-n.ensures.state
    c.size-n.ensures.size c.loop-c-test.false c.loop-c.invariant in
    let rows : c.unwrap.result ≡ take c.size-n.result c.loop-c.rows = search rules in
    ap length (rows ∙ e) ∙ length-turned_state c.args.side c.args.x.now
