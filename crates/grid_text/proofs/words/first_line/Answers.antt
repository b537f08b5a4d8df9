use Rattle.std.proofs.Common.{sym, subst}
use Rattle.grid_text.specs.Inner.Cuts.{HasFirstLine}
use Rattle.grid_text.proofs.Lines.CutLemmas.{HasFirstLine-taken}
use Rattle.grid_text.proofs.words.first_line.Goals as goal

pub returns-clause-cut : goal.returns-clause-cut
returns-clause-cut c =
    subst (λ l. HasFirstLine c.args.text.now l c.in-Some.after.now) (sym c.without_return.ensures)
    (HasFirstLine-taken c.args.text.now c.in-Some.line.now c.in-Some.after.now c.in-Some.ensures.taken)
