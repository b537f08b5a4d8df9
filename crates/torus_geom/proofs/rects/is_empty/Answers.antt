-- A point inside makes the test of its circle fail.
use Rattle.std.proofs.Common.{not, ◌&&◌, length, slice_index, ap, ◌∙◌, sym, arith}
use Rattle.torus_geom.specs.Range.{is_inside}
use Rattle.torus_geom.proofs.Sums.AllBelowLemmas.{all_below-false}
use Rattle.torus_geom.proofs.rects.is_empty.Goals as goal

pub returns-then-is_point_inside : goal.returns-then-is_point_inside
returns-then-is_point_inside c =
    sym (all_below-false (length c.args.x.now)
    (λ k. not (is_inside (length c.args.x.now) c.args.r.now.left c.args.r.now.right k
    && is_inside (length c.args.x.now) c.args.r.now.low c.args.r.now.high (slice_index c.args.x.now k)))
    c.loop-c.c (omega arith) (ap not (sym c.is_point_inside.ensures ∙ c.if-is_point_inside.true)))
