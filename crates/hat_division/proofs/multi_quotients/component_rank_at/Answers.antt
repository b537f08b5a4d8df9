-- The first row in these degrees is the only one.
use Rattle.std.proofs.Common.{◌∙◌, ◌&&◌, get_or, sym, arith}
use Rattle.std.proofs.lemmas.Int.{to_z-of_z}
use mir.Syntax.{w32}
use Rattle.std.specs.Ordering.{int_eq}
use Rattle.hat_division.specs.DegreeLists.{same_degrees}
use Rattle.hat_division.proofs.Multi.DividedRows.{component_rank_at-stands, component_rank_at-nowhere}
use Rattle.hat_division.proofs.multi_quotients.component_rank_at.Goals as goal

pub returns-then-stands_at : goal.returns-then-stands_at
returns-then-stands_at c =
    let row = c.row-item.result in
    component_rank_at-stands c.args.rows.now row c.args.m c.args.d.now c.requires
    (c.loop-row.row-index, c.loop-row-test.true, sym c.row-item.is)
    (sym (λ j. int_eq row.m (to_z-of_z w32 c.args.m c.ranges.m j) && same_degrees row.d c.args.d.now)
    ∙ sym c.stands_at.ensures ∙ c.if-stands_at.true)

pub returns : goal.returns
returns c =
    component_rank_at-nowhere c.args.rows.now c.args.m c.args.d.now (λ k d l.
    (λ j. int_eq (get_or c.args.rows.now k d).m (sym (to_z-of_z w32 c.args.m c.ranges.m) j)
    && same_degrees (get_or c.args.rows.now k d).d c.args.d.now)
    ∙ c.loop-row.invariant k d (omega arith))
