-- A circle is taken in if it is odd.
use Rattle.std.proofs.Common.{◌+◌, subst, sym, ◌∙◌, arith}
use Rattle.pentagon_map.proofs.Targets.PushLemmas.{IsOddBefore, odd_before_yes, odd_before_no}
use Rattle.pentagon_map.proofs.pentagons.odd_circles.Goals.{then-is_odd, else-is_odd}
use Rattle.pentagon_map.proofs.pentagons.odd_circles.Goals as goal

pub loop-b-preserved : goal.loop-b-preserved
loop-b-preserved c =
    let short = c.size-b-end.ensures.grid.is_size.greatest in
    elim c.if-is_odd.branch [
      | then-is_odd w ↦ subst (IsOddBefore c.args.g.now c.args.c c.args.w c.args.x.now (c.loop-b.b + 1)) (sym w.odd-is)
          (odd_before_yes c.args.g.now c.args.c c.args.w c.args.x.now c.loop-b.b c.loop-b.odd
          (omega arith) c.loop-b.invariant (sym c.is_odd.ensures ∙ w.if-is_odd.true))
      | else-is_odd w ↦ subst (IsOddBefore c.args.g.now c.args.c c.args.w c.args.x.now (c.loop-b.b + 1)) (sym w.odd-is)
          (odd_before_no c.args.g.now c.args.c c.args.w c.args.x.now c.loop-b.b c.loop-b.odd c.loop-b.invariant
          (sym c.is_odd.ensures ∙ w.if-is_odd.false))
    ]
