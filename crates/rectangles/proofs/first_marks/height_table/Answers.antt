-- The rows of the table are written one by one.
use Rattle.std.proofs.Common.{◌≡◌, ℕ, ◌<◌, [], refl, ◌∙◌, arith, slice_index}
use Rattle.std.proofs.lemmas.List.{length-set}
use Rattle.torus_geom.specs.Marks.{size}
use Rattle.rectangles.specs.FirstMarks.{first_mark_height}
use Rattle.rectangles.proofs.Sweep.PushLemmas.{filled_more}
use Rattle.rectangles.proofs.first_marks.height_table.Goals as goal

pub loop-row-init : goal.loop-row-init
loop-row-init c = (refl, λ r l. absurd (omega arith))

pub loop-row-preserved : goal.loop-row-preserved
loop-row-preserved c =
    let few = c.size-row-end.ensures.grid.is_size.greatest in
    let full = c.loop-row.invariant.0 in (
      length-set c.loop-row.table c.loop-row.row c.heights_from.result ∙ full,
      filled_more c.loop-row.table c.loop-row.row c.heights_from.result []
          (λ r v. (k : ℕ) → k < size c.args.g.now → slice_index v k ≡ first_mark_height c.args.g.now r k)
          (omega arith) c.loop-row.invariant.1 c.heights_from.ensures,
    )

pub returns-clause-heights : goal.returns-clause-heights
returns-clause-heights c = λ r k lr lk. c.loop-row.invariant.1 r (omega arith) k lk
