use Rattle.std.proofs.Common.{slice_index, ap, sym, arith}
use Rattle.torus_geom.specs.Marks.{Marks}
use Rattle.torus_geom.proofs.Cycles.WalkLemmas.{IsOn-more, is_first-false}
use Rattle.torus_geom.proofs.grids.is_first.Goals as goal

pub returns-then-on-c : goal.returns-then-on-c
returns-then-on-c c =
    let k = c.loop-test.true in
    sym (is_first-false (record { o = c.args.o.now; x = c.args.x.now }) c.args.c c.loop.counter c.loop.on
    (omega arith) c.loop.invariant c.if-on-c.true)

pub loop-preserved : goal.loop-preserved
loop-preserved c =
    let g : Marks = record { o = c.args.o.now; x = c.args.x.now } in
    IsOn-more g c.args.c c.loop.counter c.loop.on
    (slice_index g.x c.from.result) c.column_of-on.result c.requires.grid c.loop.invariant c.if-on-c.false
    (ap (slice_index g.x) c.from.ensures) c.column_of-on.ensures.column
