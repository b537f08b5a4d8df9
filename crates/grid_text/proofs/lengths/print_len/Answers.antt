use Rattle.grid_text.proofs.PlainForm.LengthLemmas.{length-plain_form}
use Rattle.grid_text.proofs.lengths.print_len.Goals as goal

pub returns : goal.returns
returns c =
    length-plain_form c.args.s.now c.version.result c.grid.result.now c.commands-command-items.result.now
    c.loop-command.command-index
    c.head_len-count.result c.loop-command.count
    c.version.ensures.version c.grid.ensures.grid c.commands-command-items.ensures.commands c.loop-command-test.false
    c.head_len-count.ensures.exact c.loop-command.invariant.0
