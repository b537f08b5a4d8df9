-- The two arrays begin with the marks.
use Rattle.std.proofs.Common.{◌≡◌, ◌<◌, slice_index, ap, sym, subst, ◌∙◌, arith}
use Rattle.torus_geom.specs.Range.{one_down}
use Rattle.front_data.proofs.FilledRows.{IsFilled-more}
use Rattle.grid_job.specs.Generator.{IsGridThrough}
use Rattle.grid_job.proofs.Generated.GeneratorLemmas.{put_marks}
use Rattle.grid_job.proofs.generator.grid_through.Goals as goal

pub loop-c-preserved : goal.loop-c-preserved
loop-c-preserved c =
    let few = c.size-n.ensures.state.size.greatest in
    let long = c.size-n.ensures.size in
    let inside = c.loop-c-test.true in
    let room : c.loop-c.c < 10 = omega (arith, few, long, inside) in
    record {
      o = IsFilled-more 10 _ c.loop-c.c c.from.result c.row.result c.loop-c.o c.loop-c.invariant.o room c.from.ensures
          (c.row.ensures.row
          ∙ ap (slice_index c.args.rows.now)
          (c.one_down.ensures.value ∙ ap (one_down c.size-n.result) c.row-place.ensures.row));
      x = IsFilled-more 10 _ c.loop-c.c c.from-in-loop-c.result c.row-in-loop-c.result c.loop-c.x c.loop-c.invariant.x
          room c.from-in-loop-c.ensures
          (c.row-in-loop-c.ensures.row ∙ ap (slice_index c.args.rows.now) c.row-place.ensures.row);
    }

pub from_marks-requires : goal.from_marks-requires
from_marks-requires c =
    let at_end : c.loop-c.c ≡ c.size-n.result = omega (arith, c.loop-c-test.false, c.loop-c.auto.c-end) in
    (put_marks c.args.columns.now c.args.rows.now c.transpose-places.result c.loop-c.o c.loop-c.x c.size-n.result
    c.loop-c.c c.from-2.result c.from-3.result
    c.size-n.ensures.state c.size.ensures.state c.size-n.ensures.size c.requires c.transpose-places.ensures.state
    c.transpose-places.ensures.inverse
    c.loop-c.invariant.o c.loop-c.invariant.x at_end c.from-2.ensures c.from-3.ensures).0

pub returns : goal.returns
returns c =
    let at_end : c.loop-c.c ≡ c.size-n.result = omega (arith, c.loop-c-test.false, c.loop-c.auto.c-end) in
    let through =
    put_marks c.args.columns.now c.args.rows.now c.transpose-places.result c.loop-c.o c.loop-c.x c.size-n.result
    c.loop-c.c c.from-2.result c.from-3.result
    c.size-n.ensures.state c.size.ensures.state c.size-n.ensures.size c.requires c.transpose-places.ensures.state
    c.transpose-places.ensures.inverse
    c.loop-c.invariant.o c.loop-c.invariant.x at_end c.from-2.ensures c.from-3.ensures in
    subst (IsGridThrough c.args.columns.now c.args.rows.now) (sym c.from_marks.ensures) through.1
