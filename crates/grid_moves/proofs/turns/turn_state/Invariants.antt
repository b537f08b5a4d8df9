-- The circles so far have the turned points.
use Rattle.grid_moves.proofs.Turned.TurnLemmas.{HasTurned}
use Rattle.grid_moves.proofs.turns.turn_state.Given as goal

abbrev pub invariant-loop-c : goal.invariant-loop-c
invariant-loop-c l = HasTurned l.side l.n l.x l.rows l.c
