use Rattle.std.proofs.Common.{sym, ◌∙◌, get_or}
use Rattle.grid_text.proofs.Lines.SeenLemmas.{seen, seen-one, length-seen}
use Rattle.grid_text.proofs.Paths.HeadLemmas.{head-count, head-number, size-numeral}
use Rattle.grid_text.proofs.places.read_size.Goals as goal

pub returns-then-arguments-ne1-clause-err : goal.returns-then-arguments-ne1-clause-err
returns-then-arguments-ne1-clause-err c word known =
    head-count word known (seen c.args.arguments.now)
    (λ e. c.if-arguments-ne1.true (sym (length-seen c.args.arguments.now) ∙ e))

pub returns-in_default-clause-err : goal.returns-in_default-clause-err
returns-in_default-clause-err c word known =
    head-number word known (seen c.args.arguments.now) (get_or c.args.arguments.now 0 _).now
    (seen-one c.args.arguments.now _ c.if-arguments-ne1.false)
    (size-numeral c.from.result _ c.numeral.result _ c.from.ensures c.numeral.ensures.value c.in_default.is)
