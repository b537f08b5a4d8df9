use Rattle.std.proofs.Common.{pos, sym, ◌∙◌, arith}
use Rattle.hat_division.specs.declared.tables.TableRow.{TableRow}
use Rattle.report_text.proofs.ComparedLemmas.{same_before_more, same_rows-longer, same_rows-other, same_rows-all}
use Rattle.report_text.proofs.comparisons.same_rows.Goals as goal

abbrev none : TableRow
none = record { m = pos 0; a = pos 0; rank = 0 }

pub returns-then-rows-others : goal.returns-then-rows-others
returns-then-rows-others c = same_rows-longer c.args.rows.now c.args.others.now c.if-rows-others.true

pub returns-then-not-same_row : goal.returns-then-not-same_row
returns-then-not-same_row c =
    same_rows-other c.args.rows.now c.args.others.now c.loop-k.k none (sym c.same_row.ensures ∙ c.if-not-same_row.true)

pub loop-k-preserved : goal.loop-k-preserved
loop-k-preserved c =
    same_before_more c.args.rows.now c.args.others.now c.loop-k.k none c.loop-k-test.true c.if-rows-others.false
    (sym c.same_row.ensures ∙ c.if-not-same_row.false) c.loop-k.invariant

pub returns : goal.returns
returns c =
    let past = c.loop-k-test.false in
    same_rows-all c.args.rows.now c.args.others.now c.loop-k.k c.if-rows-others.false (omega arith) c.loop-k.invariant
