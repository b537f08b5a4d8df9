use Rattle.std.proofs.Common.{sym, ◌∙◌}
use Rattle.grid_text.proofs.Lines.CutLemmas.{IsCut-more, front-taken, AreParts-cut, second_part-cut}
use Rattle.grid_text.proofs.pairs.parts_at_next.Goals as goal

pub returns-then-branch-clause-some : goal.returns-then-branch-clause-some
returns-then-branch-clause-some c =
    let cut = c.loop-bytes.invariant in
    AreParts-cut c.args.text.now c.loop-bytes.rest.now c.in-Some.bytes.now c.in-Some.after.now _ c.loop-bytes.line cut
    (front-taken c.args.text.now cut.front c.loop-bytes.rest.now cut.split) c.in-Some.ensures.some
    c.in-Some.ensures.shorter (sym c.in_ok-is_next.ensures ∙ c.if-branch.true)

pub loop-bytes-preserved : goal.loop-bytes-preserved
loop-bytes-preserved c =
    IsCut-more c.args.text.now c.loop-bytes.rest.now c.loop-bytes.line c.loop-bytes.invariant c.in-Some.bytes.now
    c.in-Some.after.now c.in-Some.ensures.some c.in-Some.ensures.shorter c.in-Some.ensures.cut
    (sym c.in_ok-is_next.ensures ∙ c.if-branch.false)

pub returns-clause-none : goal.returns-clause-none
returns-clause-none c =
    second_part-cut c.args.text.now c.loop-bytes.rest.now c.loop-bytes.line c.loop-bytes.invariant
    c.in_default.ensures.none
