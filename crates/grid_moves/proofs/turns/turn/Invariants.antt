-- The columns so far have the turned marks.
use Rattle.grid_moves.proofs.Turned.TurnLemmas.{HasTurned}
use Rattle.grid_moves.proofs.turns.turn.Given as goal

abbrev pub invariant-loop-c : goal.invariant-loop-c
invariant-loop-c l = record { o : HasTurned l.side l.n l.g.o l.o l.c; x : HasTurned l.side l.n l.g.x l.x l.c }
