use Rattle.std.proofs.Common.{◌≡◌, ◌≤◌, ◌∙◌, get_or, ap, sym, subst, inl, inr, arith}
use Rattle.std.proofs.lemmas.Bool.{cases_eq}
use Rattle.std.proofs.lemmas.List.{get_or_default}
use Rattle.hat_division.specs.MultiTable.{degrees_of, component_rank_at, step_down}
use Rattle.hat_division.proofs.multi_quotients.have_lower.Goals as goal

pub loop-row-preserved : goal.loop-row-preserved
loop-row-preserved c k d l =
    let rows = c.args.rows.now in
    let quotient = c.args.quotient.now in
    let row = c.row-item.result in
    elim (cases_eq k c.loop-row.row-index) [
      | inl e ↦
          let same : row ≡ get_or quotient k d =
          c.row-item.is ∙ get_or_default quotient c.loop-row.row-index row d c.loop-row-test.true
          ∙ ap (λ n. get_or quotient n d) (sym e) in
          let is = c.rank_down.ensures in
          let some = c.if-rank_down-eq0.false in
          subst (λ r. 1 ≤ component_rank_at rows (step_down c.args.i (degrees_of r))) same (omega arith)
      | inr other ↦ c.loop-row.invariant k d (omega arith)
    ]
