use Rattle.grid_text.proofs.PlainForm.PrintLemmas.{plain_form-printed}
use Rattle.grid_text.proofs.printing.print_lines.Goals as goal

pub returns : goal.returns
returns c =
    plain_form-printed c.args.s.now c.version.result c.grid.result.now c.commands-command-items.result.now
    c.loop-command.command-index
    c.new-text.result.items c.push_head.new.text.items c.loop-command.text.items c.push.new.text.items
    c.version.ensures.version c.grid.ensures.grid c.commands-command-items.ensures.commands c.loop-command-test.false
    c.new-text.ensures.items
    c.in_ok-push_head.ensures c.loop-command.invariant c.in_ok-push.ensures
