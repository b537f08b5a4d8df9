-- The two comparisons are the range, on either side of the seam.
use Rattle.std.proofs.Common.{◌&&◌, ◌||◌, ap, ◌∙◌, sym, ltb, arith}
use Rattle.std.proofs.lemmas.Bool.{le-leb, lt-leb}
use Rattle.torus_geom.proofs.Circles.RangeLemmas.{in_range-plain, in_range-across}
use Rattle.torus_geom.proofs.ranges.in_range.Goals as goal

pub returns-then-a-i : goal.returns-then-a-i
returns-then-a-i c =
    ap (λ t. t && ltb c.args.i c.args.b) (sym (le-leb c.args.a c.args.i c.if-a-i.true))
    ∙ sym (in_range-plain c.args.n c.args.a c.args.b c.args.i c.if-a-b.true c.requires.b_below c.requires.i_below)

pub returns-else-a-i-2 : goal.returns-else-a-i-2
returns-else-a-i-2 c =
    ap (λ t. t || ltb c.args.i c.args.b) (sym (lt-leb c.args.a c.args.i c.if-a-i-2.false))
    ∙ sym (in_range-across c.args.n c.args.a c.args.b c.args.i (omega arith) c.requires.a_below c.requires.i_below)
