-- The tests of the definition, those without a loop first.
use Rattle.std.proofs.Common.{true≢false, ◌&&◌, ap, ◌∙◌, sym}
use Rattle.torus_geom.specs.Rectangle.{is_empty}
use Rattle.pentagon_map.specs.Pentagon.{is_unmarked_beside}
use Rattle.pentagon_map.proofs.Targets.PushLemmas.{leaving_is, pentagon_by_parts}
use Rattle.pentagon_map.proofs.pentagons.is_pentagon_at.Goals.{then-crosses, else-crosses}
use Rattle.pentagon_map.proofs.pentagons.is_pentagon_at.Goals as goal

pub returns-then-is_unmarked_beside : goal.returns-then-is_unmarked_beside
returns-then-is_unmarked_beside c =
    let r = c.leaving-r.result in
    let is = leaving_is c.args.x.now c.args.left c.args.right r c.leaving-r.ensures.columns.0
    c.leaving-r.ensures.columns.1 c.leaving-r.ensures.low c.leaving-r.ensures.high in
    elim c.if-crosses.branch [
      | then-crosses w ↦
          c.is_empty.ensures
          ∙ sym (λ i. ((sym c.crosses.ensures ∙ w.if-crosses.true) i
          && (sym w.is_unmarked_beside.ensures ∙ sym w.value-is ∙ c.if-is_unmarked_beside.true) i)
          && is_empty c.args.x.now r)
          ∙ pentagon_by_parts c.args.g.now c.args.c c.args.w c.args.x.now c.args.left c.args.right r is
      | else-crosses w ↦ absurd (true≢false (sym c.if-is_unmarked_beside.true ∙ w.value-is ∙ w.if-crosses.false))
    ]

pub returns-else-is_unmarked_beside : goal.returns-else-is_unmarked_beside
returns-else-is_unmarked_beside c =
    let r = c.leaving-r.result in
    let is = leaving_is c.args.x.now c.args.left c.args.right r c.leaving-r.ensures.columns.0
    c.leaving-r.ensures.columns.1 c.leaving-r.ensures.low c.leaving-r.ensures.high in
    elim c.if-crosses.branch [
      | then-crosses w ↦
          c.if-is_unmarked_beside.false
          ∙ sym (λ i. ((sym c.crosses.ensures ∙ w.if-crosses.true) i
          && (sym w.is_unmarked_beside.ensures ∙ sym w.value-is ∙ c.if-is_unmarked_beside.false) i)
          && is_empty c.args.x.now r)
          ∙ pentagon_by_parts c.args.g.now c.args.c c.args.w c.args.x.now c.args.left c.args.right r is
      | else-crosses w ↦
          c.if-is_unmarked_beside.false
          ∙ sym (ap (λ t. (t && is_unmarked_beside c.args.g.now c.args.c r) && is_empty c.args.x.now r)
          (sym c.crosses.ensures ∙ w.if-crosses.false))
          ∙ pentagon_by_parts c.args.g.now c.args.c c.args.w c.args.x.now c.args.left c.args.right r is
    ]
