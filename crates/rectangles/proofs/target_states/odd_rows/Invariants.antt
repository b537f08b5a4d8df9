use Rattle.rectangles.proofs.Sweep.PushLemmas.{IsOddRows}
use Rattle.rectangles.proofs.target_states.odd_rows.Given as goal

abbrev pub invariant-loop-b : goal.invariant-loop-b
invariant-loop-b l = IsOddRows l.x l.opens l.a l.b l.rows
