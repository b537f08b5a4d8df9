-- A mark makes the test of its column fail.
use Rattle.std.proofs.Common.{not, ◌&&◌, ◌||◌, slice_index, ap, ◌∙◌, sym, arith}
use Rattle.torus_geom.specs.Marks.{size}
use Rattle.torus_geom.specs.Range.{in_range}
use Rattle.torus_geom.proofs.Sums.AllBelowLemmas.{all_below-false}
use Rattle.torus_geom.proofs.rects.is_unmarked.Goals as goal

pub returns-then-is_marked_column : goal.returns-then-is_marked_column
returns-then-is_marked_column c =
    sym (all_below-false (size c.args.g.now)
    (λ k. not (in_range (size c.args.g.now) c.args.r.now.left c.args.r.now.right k
    && (in_range (size c.args.g.now) c.args.r.now.low c.args.r.now.high (slice_index c.args.g.now.o k)
    || in_range (size c.args.g.now) c.args.r.now.low c.args.r.now.high (slice_index c.args.g.now.x k))))
    c.loop-c.c (omega arith) (ap not (sym c.is_marked_column.ensures ∙ c.if-is_marked_column.true)))
