-- The heights are written one by one.
use Rattle.std.proofs.Common.{◌≡◌, refl, min, ap₂, ◌∙◌, arith, slice_index}
use Rattle.std.proofs.lemmas.List.{length-set}
use Rattle.torus_geom.specs.Marks.{size}
use Rattle.torus_geom.specs.Range.{offset}
use Rattle.rectangles.specs.FirstMarks.{first_mark_height}
use Rattle.rectangles.proofs.Sweep.PushLemmas.{filled_more}
use Rattle.rectangles.proofs.first_marks.heights_from.Goals as goal

pub loop-c-init : goal.loop-c-init
loop-c-init c = (refl, λ k l. absurd (omega arith))

pub loop-c-preserved : goal.loop-c-preserved
loop-c-preserved c =
    let few = c.size-n.ensures.grid.is_size.greatest in
    let n = c.size-n.ensures.size in
    let full = c.loop-c.invariant.0 in
    let o : c.offset.result ≡ offset (size c.args.g.now) c.args.row (slice_index c.args.g.now.o c.loop-c.c) =
    c.offset.ensures ∙ (λ i. offset (n i) c.args.row (c.o.ensures.row i)) in
    let x : c.offset-in-loop-c.result ≡ offset (size c.args.g.now) c.args.row (slice_index c.args.g.now.x c.loop-c.c) =
    c.offset-in-loop-c.ensures ∙ (λ i. offset (n i) c.args.row (c.x.ensures.row i)) in (
      length-set c.loop-c.heights c.loop-c.c c.min.result ∙ full,
      filled_more c.loop-c.heights c.loop-c.c c.min.result 0
          (λ k v. v ≡ first_mark_height c.args.g.now c.args.row k)
          (omega arith) c.loop-c.invariant.1 (c.min.ensures ∙ ap₂ min o x),
    )

pub returns : goal.returns
returns c = λ k l. c.loop-c.invariant.1 k (omega arith)
