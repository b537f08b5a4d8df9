use Rattle.std.proofs.Common.{◌≡◌, ◌≤◌, ◌∙◌, pos, get_or, ap, sym, subst, inl, inr, arith}
use Rattle.std.specs.Prelude.{◌-ℤ◌}
use Rattle.std.proofs.lemmas.Bool.{cases_eq}
use Rattle.std.proofs.lemmas.List.{get_or_default}
use Rattle.hat_division.specs.Product.{rank_at}
use Rattle.hat_division.specs.declared.tables.TableRow.{TableRow}
use Rattle.hat_division.proofs.quotients.have_lower.Goals as goal

pub loop-row-preserved : goal.loop-row-preserved
loop-row-preserved c k d l =
    let rows = c.args.rows.now in
    let quotient = c.args.quotient.now in
    let none : TableRow = record { m = pos 0; a = pos 0; rank = 0 } in
    let row = get_or quotient c.loop-row.row-index none in
    elim (cases_eq k c.loop-row.row-index) [
      | inl e ↦
          let same : row ≡ get_or quotient k d =
          get_or_default quotient c.loop-row.row-index none d c.loop-row-test.true
          ∙ ap (λ n. get_or quotient n d) (sym e) in
          let is = c.rank_down.ensures in
          let some = c.if-rank_down-eq0.false in
          subst (λ r. 1 ≤ rank_at rows (r.m -ℤ pos 1) (r.a -ℤ pos 1)) same (omega arith)
      | inr other ↦ c.loop-row.invariant k d (omega arith)
    ]
