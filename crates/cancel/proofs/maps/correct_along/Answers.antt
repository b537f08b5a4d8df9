-- From the last entry to the first.
use Rattle.std.proofs.Common.{◌-◌, true, false, sym, arith}
use Rattle.f2_algebra.proofs.Chains.Sums.{add-nothing}
use Rattle.cancel.proofs.MapLemmas.{correction-back}
use Rattle.cancel.proofs.maps.correct_along.Goals as goal

pub lift_over-requires : goal.lift_over-requires
lift_over-requires c = c.requires.once (c.loop-k.k - 1) _ (omega arith)

pub loop-k-preserved-in-Continue-branch-2 : goal.loop-k-preserved-in-Continue-branch-2
loop-k-preserved-in-Continue-branch-2 c =
    correction-back c.args.entries.now c.args.marks.now c.loop-k.k _ c.loop-k.chain c.lift_over.new.chain
    c.toggle.new.self true c.loop-k-test.true (omega arith) c.requires.long
    c.loop-k.invariant c.in_ok-lift_over.ensures c.if-marks-k.true c.in_ok-toggle.ensures.toggled

pub loop-k-preserved : goal.loop-k-preserved
loop-k-preserved c =
    correction-back c.args.entries.now c.args.marks.now c.loop-k.k _ c.loop-k.chain c.lift_over.new.chain
    c.lift_over.new.chain false c.loop-k-test.true (omega arith) c.requires.long
    c.loop-k.invariant c.in_ok-lift_over.ensures c.if-marks-k.false (sym (add-nothing c.lift_over.new.chain))
