-- Each circle whose test holds gives one exchange more.
use Rattle.std.proofs.Common.{◌∷◌, ◌++◌, [], length, ap, ◌∙◌, arith}
use Rattle.std.proofs.lemmas.List.{length-append}
use Rattle.state_rank.specs.Bijection.{ascending}
use Rattle.rectangles.proofs.Sweep.PushLemmas.{slice_index-ascending}
use Rattle.pentagon_map.specs.Inner.Exchanges.{lowers}
use Rattle.pentagon_map.proofs.Targets.PushLemmas.{picked_yes, picked_no, picked_all, lowers_is}
use Rattle.pentagon_map.proofs.exchanges.push_lowering.Goals.{then-is_set_where, else-is_set_where}
use Rattle.pentagon_map.proofs.exchanges.push_lowering.Goals as goal
use Rattle.state_rank.proofs.OrderLemmas.{length-ascending}

pub loop-b-preserved : goal.loop-b-preserved
loop-b-preserved c =
    let x = c.args.x.now in
    let a = c.args.a in
    let odd = c.args.odd in
    let b = c.loop-b.b in
    let n = length-ascending a in
    let is = lowers_is x a odd b c.row-row.result c.row.result c.is_set_where.result c.row-row.ensures.row
    c.row.ensures.row c.is_set_where.ensures in
    elim c.if-is_set_where.branch [
      | then-is_set_where w ↦ (
        ap (λ v. v.items) w.states-is ∙ w.push_reserved.ensures.items
            ∙ ap (λ y. c.loop-b.states.items ++ (y ∷ [])) w.exchange.ensures.state
            ∙ picked_yes x a (lowers x a odd) (ascending a) b b (omega arith)
            (slice_index-ascending a b c.loop-b-test.true) c.args.states.now.items c.loop-b.states.items
            c.loop-b.invariant.0 (is ∙ w.if-is_set_where.true),
        ap (λ v. v.capacity) w.states-is ∙ w.push_reserved.ensures.capacity ∙ c.loop-b.invariant.1,
        (let e = ap (λ v. length v.items) w.states-is ∙ ap length w.push_reserved.ensures.items
            ∙ length-append c.loop-b.states.items (w.exchange.result ∷ []) in let k = c.loop-b.invariant.2 in
            omega arith),
      )
      | else-is_set_where w ↦ (
        ap (λ v. v.items) w.states-is
            ∙ picked_no x a (lowers x a odd) (ascending a) b b (omega arith)
            (slice_index-ascending a b c.loop-b-test.true) c.args.states.now.items c.loop-b.states.items
            c.loop-b.invariant.0 (is ∙ w.if-is_set_where.false),
        ap (λ v. v.capacity) w.states-is ∙ c.loop-b.invariant.1,
        (let e = ap (λ v. length v.items) w.states-is in let k = c.loop-b.invariant.2 in omega arith),
      )
    ]

pub returns-clause-items : goal.returns-clause-items
returns-clause-items c =
    let n = length-ascending c.args.a in
    picked_all c.args.x.now c.args.a (lowers c.args.x.now c.args.a c.args.odd) (ascending c.args.a) c.loop-b.b
    (omega arith) c.args.states.now.items c.loop-b.states.items c.loop-b.invariant.0
