use Rattle.std.proofs.Common.{arith, rules}
use Rattle.std.proofs.lemmas.Int.{ints}
use mir.Syntax.{w32}
use mir.Val.{SFits}
use Rattle.hat_division.proofs.Multi.DividedRows.{rank-moved}
use Rattle.hat_division.proofs.multi_quotients.rank_down.Goals as goal

pub returns : goal.returns
returns c =
    let low = c.requires.small.maslov.low in
    let high = c.requires.small.maslov.high in
    let fits : SFits w32 c.args.row.now.m = search rules in
    rank-moved c.args.rows.now _ _ _ _ _ c.component_rank_at.ensures (omega (arith, ints)) c.lowered_at.ensures
