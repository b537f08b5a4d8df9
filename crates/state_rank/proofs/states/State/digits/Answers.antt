use Rattle.std.proofs.Common.{◌∙◌, ap, arith, length, length-set}
use Rattle.state_rank.proofs.WordLemmas.{digits-more, digits-all}
use Rattle.state_rank.proofs.states.State.digits.Goals as goal

pub loop-c-preserved : goal.loop-c-preserved
loop-c-preserved c =
    let room = c.loop-c.invariant.0 in
    let small = c.rows-row-items.ensures.state.size.greatest in (
      length-set c.loop-c.digits c.loop-c.c _ ∙ room,
      digits-more c.loop-c.digits c.rows-row-items.result.now c.loop-c.c 0
          (omega (arith, c.loop-c-test.true, ap length c.rows-row-items.ensures.rows))
          (omega (arith, c.loop-c-test.true)) c.loop-c.invariant.1,
    )

pub returns : goal.returns
returns c =
    digits-all c.loop-c.digits c.rows-row-items.result.now c.args.self.now c.loop-c.c c.rows-row-items.ensures.rows
    (omega (arith, c.loop-c-test.false)) c.loop-c.invariant.1
