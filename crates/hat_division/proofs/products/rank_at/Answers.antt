-- The first row in the bidegree is the only one.
use Rattle.std.proofs.Common.{false, pos, get_or, refl, sym, arith}
use Rattle.hat_division.specs.declared.tables.TableRow.{TableRow}
use Rattle.hat_division.proofs.RankLemmas.{rank_at-row, rank_at-none}
use Rattle.hat_division.proofs.WordLemmas.{stands_from}
use Rattle.hat_division.proofs.products.rank_at.Goals as goal

pub returns-then-stands_at : goal.returns-then-stands_at
returns-then-stands_at c =
    let d : TableRow = record { m = pos 0; a = pos 0; rank = 0 } in
    let row = get_or c.args.rows.now c.loop-row.row-index d in
    let stands = stands_from row c.args.m c.args.a _ _ c.ranges.m c.ranges.a c.stands_at.ensures c.if-stands_at.true in
    sym (rank_at-row c.args.rows.now c.loop-row.row-index d c.args.m c.args.a c.requires (omega arith) stands)

pub returns : goal.returns
returns c = sym (rank_at-none c.args.rows.now c.args.m c.args.a (λ k d l.
    stands_from (get_or c.args.rows.now k d) c.args.m c.args.a _ false c.ranges.m c.ranges.a refl
    (c.loop-row.invariant k d (omega arith))))
