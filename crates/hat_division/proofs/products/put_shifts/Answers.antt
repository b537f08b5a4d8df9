-- Step by step down from the row.
use Rattle.std.proofs.Common.{◌≤◌, pos, sym, subst, arith, rules}
use Rattle.std.specs.Prelude.{◌≤ℤ◌}
use Rattle.std.proofs.lemmas.List.Elements.{All-contains}
use mir.Syntax.{w32}
use mir.Val.{SFits}
use Rattle.hat_division.specs.Product.{IsSmall}
use Rattle.hat_division.proofs.WordLemmas.{step_down, step_down-high, member-positive}
use Rattle.hat_division.proofs.ProductMapLemmas.{shifts-none, shifts-more}
use Rattle.hat_division.proofs.products.put_shifts.Goals as goal

pub loop-i-init : goal.loop-i-init
loop-i-init c = shifts-none c.args.k c.args.rows.now c.args.row.now c.args.product.now c.requires.part

pub product_rank-rank-requires-clause-maslov : goal.product_rank-rank-requires-clause-maslov
product_rank-rank-requires-clause-maslov c =
    let small : IsSmall c.args.row.now =
    All-contains IsSmall c.args.rows.now c.args.row.now c.requires.small c.requires.member in
    let fits : SFits w32 c.args.row.now.m = search rules in
    let low : c.loop-i.i ≤ 16 = omega (arith, c.requires.exponent) in
    subst (λ z. z ≤ℤ pos 1000)
    (sym (step_down c.args.row.now.m c.from.result c.loop-i.i fits small.maslov_low low c.from.ensures))
    (step_down-high c.args.row.now.m c.loop-i.i small.maslov_high)

pub product_rank-rank-requires-clause-alexander : goal.product_rank-rank-requires-clause-alexander
product_rank-rank-requires-clause-alexander c =
    let small : IsSmall c.args.row.now =
    All-contains IsSmall c.args.rows.now c.args.row.now c.requires.small c.requires.member in
    let fits : SFits w32 c.args.row.now.a = search rules in
    let low : c.loop-i.i ≤ 16 = omega (arith, c.requires.exponent) in
    subst (λ z. z ≤ℤ pos 1000)
    (sym (step_down c.args.row.now.a c.from-in-loop-i.result c.loop-i.i fits small.alexander_low low
    c.from-in-loop-i.ensures))
    (step_down-high c.args.row.now.a c.loop-i.i small.alexander_high)

pub loop-i-preserved : goal.loop-i-preserved
loop-i-preserved c =
    let row = c.args.row.now in
    let i = c.loop-i.i in
    let small : IsSmall c.args.row.now =
    All-contains IsSmall c.args.rows.now c.args.row.now c.requires.small c.requires.member in
    let fits_m : SFits w32 c.args.row.now.m = search rules in
    let fits_a : SFits w32 c.args.row.now.a = search rules in
    let low : i ≤ 16 = omega (arith, c.requires.exponent) in
    let at_m = step_down row.m c.from.result i fits_m small.maslov_low low c.from.ensures in
    let at_a = step_down row.a c.from-in-loop-i.result i fits_a small.alexander_low low c.from-in-loop-i.ensures in
    let positive =
    member-positive c.args.k c.args.rows.now row i _ _ c.product_rank-rank.result c.requires.positive c.requires.member
    (omega arith) c.product_rank-rank.ensures at_m at_a in
    shifts-more c.args.k c.args.rows.now row i c.args.product.now c.loop-i.product c.insert.new.self _ _
    c.product_rank-rank.result at_m at_a c.product_rank-rank.ensures positive c.in_ok-insert.ensures.updates.0
    c.loop-i.invariant
