use Rattle.std.proofs.Common.{◌∙◌, sym, arith}
use Rattle.std.specs.Prelude.{◌==◌}
use Rattle.grid_text.proofs.Paths.MarkLemmas.{once-other, IsOnly-position, count-position_none}
use Rattle.grid_text.proofs.pictures.only_column.Goals as goal

pub returns-then-mark_count-ne1-clause-none : goal.returns-then-mark_count-ne1-clause-none
returns-then-mark_count-ne1-clause-none c =
    once-other c.args.mark c.args.row.now (λ e. c.if-mark_count-ne1.true (c.mark_count.ensures ∙ e))

pub returns-in_default-clause-none : goal.returns-in_default-clause-none
returns-in_default-clause-none c =
    once-other c.args.mark c.args.row.now (λ e.
    let none = count-position_none (λ b. b == c.args.mark) c.args.row.now
    (sym c.first_column.ensures ∙ c.in_default.is) in
    omega (arith, e, none))

pub returns-clause-some : goal.returns-clause-some
returns-clause-some c =
    IsOnly-position c.args.mark c.args.row.now c.in-Some.c (sym c.mark_count.ensures ∙ c.if-mark_count-ne1.false)
    (sym c.first_column.ensures ∙ c.in-Some.is)
