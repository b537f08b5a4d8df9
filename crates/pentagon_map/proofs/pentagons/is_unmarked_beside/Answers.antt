-- A mark beside the two columns makes the test of its column fail.
use Rattle.std.proofs.Common.{◌≡◌, Bool, not, ◌&&◌, ◌||◌, eqb, refl, ap, ◌∙◌, sym, arith}
use Rattle.f2_algebra.proofs.Chains.Tables.{same}
use Rattle.torus_geom.specs.Range.{one_down}
use Rattle.torus_geom.specs.Marks.{size}
use Rattle.torus_geom.specs.Range.{in_range}
use Rattle.torus_geom.proofs.Sums.AllBelowLemmas.{all_below-false, all_below-more}
use Rattle.pentagon_map.specs.Pentagon.{has_mark_in_rows}
use Rattle.pentagon_map.proofs.pentagons.is_unmarked_beside.Goals as goal

-- a test and its opposite
turned : (t b : Bool) → b ≡ not t → not b ≡ t
turned t b e = ap not e ∙ same 1 (λ z. not (not z)) (λ z. z) refl t

pub returns-then-is_in_the_way : goal.returns-then-is_in_the_way
returns-then-is_in_the_way c =
    sym (all_below-false (size c.args.g.now)
    (λ d. (eqb d (one_down (size c.args.g.now) c.args.c) || eqb d c.args.c)
    || not (in_range (size c.args.g.now) c.args.r.now.left c.args.r.now.right d
    && has_mark_in_rows c.args.g.now d c.args.r.now.low c.args.r.now.high))
    c.loop-d.d (omega arith) (sym (turned _ c.is_in_the_way.result c.is_in_the_way.ensures)
    ∙ ap not c.if-is_in_the_way.true))

pub loop-d-preserved : goal.loop-d-preserved
loop-d-preserved c =
    all_below-more c.loop-d.d
    (λ d. (eqb d (one_down (size c.args.g.now) c.args.c) || eqb d c.args.c)
    || not (in_range (size c.args.g.now) c.args.r.now.left c.args.r.now.right d
    && has_mark_in_rows c.args.g.now d c.args.r.now.low c.args.r.now.high))
    c.loop-d.invariant (sym (turned _ c.is_in_the_way.result c.is_in_the_way.ensures) ∙ ap not c.if-is_in_the_way.false)
