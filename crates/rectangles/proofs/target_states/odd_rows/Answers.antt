-- A row is taken in if the two bits of its circle and `a` differ.
use Rattle.std.proofs.Common.{◌+◌, subst, sym, arith}
use Rattle.rectangles.proofs.Sweep.PushLemmas.{IsOddRows, odd_rows_none, odd_rows_yes, odd_rows_no}
use Rattle.rectangles.proofs.target_states.odd_rows.Goals.{then-there-back, else-there-back}
use Rattle.rectangles.proofs.target_states.odd_rows.Goals as goal

pub loop-b-init : goal.loop-b-init
loop-b-init c = odd_rows_none c.args.x.now c.args.opens.now c.args.a

pub loop-b-preserved : goal.loop-b-preserved
loop-b-preserved c = elim c.if-there-back.branch [
  | then-there-back w ↦ subst (IsOddRows c.args.x.now c.args.opens.now c.args.a (c.loop-b.b + 1)) (sym w.rows-is)
      (odd_rows_yes c.args.x.now c.args.opens.now c.size-n.ensures.state.bijection c.size-n.ensures.state.size.greatest
      c.args.a c.loop-b.b c.loop-b.rows c.loop-b.invariant (omega arith)
      (omega arith) w.if-there-back.true w.row.result w.row.ensures.row)
  | else-there-back w ↦ subst (IsOddRows c.args.x.now c.args.opens.now c.args.a (c.loop-b.b + 1)) (sym w.rows-is)
      (odd_rows_no c.args.x.now c.args.opens.now c.size-n.ensures.state.bijection c.size-n.ensures.state.size.greatest
      c.args.a c.loop-b.b c.loop-b.rows c.loop-b.invariant (omega arith) (omega arith) w.if-there-back.false)
]

pub returns : goal.returns
returns c = λ b l. c.loop-b.invariant.near b l (omega arith)
