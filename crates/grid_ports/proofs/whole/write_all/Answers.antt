use Rattle.std.proofs.Common.{◌≤◌, length, arith}
use Rattle.grid_ports.proofs.BytesLemmas.{AppendsPrefix-keep, Appends-take-add}
use Rattle.grid_ports.proofs.whole.write_all.Goals as goal

pub returns-in_err-done-clause-prefix : goal.returns-in_err-done-clause-prefix
returns-in_err-done-clause-prefix g c =
    AppendsPrefix-keep _ _ _ c.loop-done.done c.args.piece.now c.loop-done.invariant.1
    c.in_err-done.ensures.nothing_written

pub loop-done-preserved : goal.loop-done-preserved
loop-done-preserved g c =
    let within : c.loop-done.done ≤ length c.args.piece.now = omega arith in
    let moved = c.in_ok-done.ensures.moved in (
      omega (arith, c.in_ok-done.ensures.bound),
      Appends-take-add _ _ _ c.loop-done.done _ c.args.piece.now within c.loop-done.invariant.1 moved,
      cc (c.in_ok-done.ensures.no_fault),
    )
