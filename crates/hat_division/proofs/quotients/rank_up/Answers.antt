use Rattle.std.proofs.Common.{arith, rules}
use Rattle.std.proofs.lemmas.Int.{ints}
use mir.Syntax.{w32}
use mir.Val.{SFits}
use Rattle.hat_division.proofs.Factors.BigradedRows.{rank_near}
use Rattle.hat_division.proofs.quotients.rank_up.Goals as goal

pub returns : goal.returns
returns c =
    let m_low = c.requires.small.maslov_low in
    let m_high = c.requires.small.maslov_high in
    let a_low = c.requires.small.alexander_low in
    let a_high = c.requires.small.alexander_high in
    let fits_m : SFits w32 c.args.row.now.m = search rules in
    let fits_a : SFits w32 c.args.row.now.a = search rules in
    rank_near c.args.rows.now _ _ _ _ _ c.rank_at.ensures (omega (arith, ints)) (omega (arith, ints))
