-- If none is ahead, all were toggled.
use Rattle.std.proofs.Common.{arith}
use Rattle.cancel.proofs.MapLemmas.{toggled-all}
use Rattle.cancel.proofs.steps.toggle_all.Goals as goal

pub returns : goal.returns
returns c =
    toggled-all c.args.chain.now c.loop-code.chain c.args.codes.now c.loop-code.code-index
    (omega arith) c.requires c.loop-code.invariant
