-- A bit is carried if it is set.
use Rattle.std.proofs.Common.{◌+◌, subst, sym, ◌∙◌, arith}
use Rattle.std.proofs.lemmas.Nat.Bits.{shr_and_one}
use Rattle.pentagon_map.proofs.Targets.OddSums.{AreCarried, carried_yes, carried_no}
use Rattle.pentagon_map.proofs.images.carried_bits.Goals.{then-odd-d-eq1, else-odd-d-eq1}
use Rattle.pentagon_map.proofs.images.carried_bits.Goals as goal

pub loop-d-preserved : goal.loop-d-preserved
loop-d-preserved c =
    let columns = c.args.columns.now in
    let s = c.size-d-end.ensures.state in
    elim c.if-odd-d-eq1.branch [
      | then-odd-d-eq1 w ↦ subst (AreCarried columns c.args.odd (c.loop-d.d + 1)) (sym w.bits-is)
          (carried_yes columns s.bijection c.args.odd c.loop-d.d c.loop-d.bits
          (omega arith) s.size.greatest c.loop-d.invariant w.row.result w.row.ensures.row
          (sym (shr_and_one c.args.odd c.loop-d.d) ∙ w.if-odd-d-eq1.true))
      | else-odd-d-eq1 w ↦ subst (AreCarried columns c.args.odd (c.loop-d.d + 1)) (sym w.bits-is)
          (carried_no columns s.bijection c.args.odd c.loop-d.d c.loop-d.bits
          (omega arith) s.size.greatest c.loop-d.invariant
          (λ e. w.if-odd-d-eq1.false (shr_and_one c.args.odd c.loop-d.d ∙ e)))
    ]
