-- Each circle whose test holds gives one exchange more.
use Rattle.std.proofs.Common.{◌-◌, ◌∷◌, ◌++◌, [], length, reverse, ap, ◌∙◌, arith}
use Rattle.std.proofs.lemmas.List.{length-append}
use Rattle.state_rank.specs.Bijection.{ascending}
use Rattle.rectangles.proofs.Sweep.PushLemmas.{slice_index-descending, length-descending}
use Rattle.pentagon_map.specs.Inner.Exchanges.{raises}
use Rattle.pentagon_map.proofs.Targets.PushLemmas.{picked_yes, picked_no, picked_all, raises_is, at_next}
use Rattle.pentagon_map.proofs.exchanges.push_raising.Goals as goal

pub loop-b-preserved-then-is_set_where : goal.loop-b-preserved-then-is_set_where
loop-b-preserved-then-is_set_where c =
    let x = c.args.x.now in
    let a = c.args.a in
    let odd = c.args.odd in
    let b = c.loop-b.b in
    let n = length-descending a in
    let some = c.loop-b-test.true in
    let within = c.loop-b.auto.b in
    let is = raises_is x a odd
    (b - 1) c.row-row.result c.row.result c.is_set_where.result c.row-row.ensures.row c.row.ensures.row
    c.is_set_where.ensures in
    let e = ap length c.push_reserved.ensures.items ∙ length-append c.loop-b.states.items (c.exchange.result ∷ []) in
    let k = c.loop-b.invariant.2 in (
      c.push_reserved.ensures.items
          ∙ ap (λ y. c.loop-b.states.items ++ (y ∷ [])) c.exchange.ensures.state
          ∙ picked_yes x a (raises x a odd) (reverse (ascending a)) (a - b) (b - 1) (omega arith)
          (slice_index-descending a b some within) c.args.states.now.items c.loop-b.states.items c.loop-b.invariant.0
          (is ∙ c.if-is_set_where.true)
          ∙ at_next x a (raises x a odd) (reverse (ascending a)) c.args.states.now.items (a - b) (a - (b - 1))
          (omega arith),
      c.push_reserved.ensures.capacity ∙ c.loop-b.invariant.1,
      omega arith,
    )

pub loop-b-preserved : goal.loop-b-preserved
loop-b-preserved c =
    let x = c.args.x.now in
    let a = c.args.a in
    let odd = c.args.odd in
    let b = c.loop-b.b in
    let n = length-descending a in
    let some = c.loop-b-test.true in
    let within = c.loop-b.auto.b in
    let is = raises_is x a odd
    (b - 1) c.row-row.result c.row.result c.is_set_where.result c.row-row.ensures.row c.row.ensures.row
    c.is_set_where.ensures in
    let k = c.loop-b.invariant.2 in (
      picked_no x a (raises x a odd) (reverse (ascending a)) (a - b) (b - 1) (omega arith)
          (slice_index-descending a b some within) c.args.states.now.items c.loop-b.states.items c.loop-b.invariant.0
          (is ∙ c.if-is_set_where.false)
          ∙ at_next x a (raises x a odd) (reverse (ascending a)) c.args.states.now.items (a - b) (a - (b - 1))
          (omega arith),
      c.loop-b.invariant.1,
      omega arith,
    )

pub returns-clause-items : goal.returns-clause-items
returns-clause-items c =
    let n = length-descending c.args.a in
    picked_all c.args.x.now c.args.a (raises c.args.x.now c.args.a c.args.odd) (reverse (ascending c.args.a))
    (c.args.a - c.loop-b.b) (omega arith) c.args.states.now.items c.loop-b.states.items c.loop-b.invariant.0
