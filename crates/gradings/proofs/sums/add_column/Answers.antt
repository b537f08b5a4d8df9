-- One set more.
use Rattle.std.proofs.Common.{◌≡◌, ◌<◌, ◌^◌, get_or, ap, subst, ◌∙◌, arith}
use Rattle.torus_geom.specs.Marks.{size}
use Rattle.gradings.proofs.SetLemmas.{IsColumnDone-more, HoldsSums-column}
use Rattle.gradings.proofs.sums.add_column.Goals as goal

pub loop-used-preserved : goal.loop-used-preserved
loop-used-preserved c =
    let s = c.requires.size in
    let long = c.requires.long in
    let all : c.len-used-end.result ≡ 2 ^ size c.args.tables.now =
    c.len-used-end.ensures ∙ c.args.sets.now.ok.0 ∙ c.requires.long ∙ ap (λ n. 2 ^ n) s.0 in
    IsColumnDone-more c.args.tables.now (omega arith) c.args.c (omega arith) c.loop-used.used c.column_set.result
    c.loop-used.sets.items c.loop-used.invariant (subst (λ n. c.loop-used.used < n) all c.loop-used-test.true)
    (λ h. c.column_set.ensures.other h ∙ ap (λ xs. get_or xs c.loop-used.used 0) c.deref.ensures.value)
    c.column_set.ensures.sums

pub returns-clause-sums : goal.returns-clause-sums
returns-clause-sums c =
    let s = c.requires.size in
    let all : c.len-used-end.result ≡ 2 ^ size c.args.tables.now =
    c.len-used-end.ensures ∙ c.args.sets.now.ok.0 ∙ c.requires.long ∙ ap (λ n. 2 ^ n) s.0 in
    HoldsSums-column c.args.tables.now (omega arith) c.args.c (omega arith) c.loop-used.used c.loop-used.sets.items
    c.loop-used.invariant (omega arith)
