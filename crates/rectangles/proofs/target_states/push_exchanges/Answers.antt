-- Each row that is left gives one exchange more, the lowest first.
use Rattle.std.proofs.Common.{length, slice_index, swap, refl, ap, ◌∙◌, arith, rules, w16}
use Rattle.std.specs.Int.{trailing_zeros}
use Rattle.state_rank.specs.Bijection.{column_of}
use Rattle.state_rank.specs.States.{rank}
use Rattle.state_rank.proofs.OrderLemmas.{length-tabulate}
use Rattle.rectangles.proofs.Sweep.RowBitLemmas.{pushing_none, pushing_row, pushing_room, pushing_more, pushing_fewer, pushing_all}
use Rattle.rectangles.proofs.target_states.push_exchanges.Goals as goal

pub loop-left-init : goal.loop-left-init
loop-left-init c = (pushing_none c.args.x.now c.args.columns.now c.args.a c.args.rows c.args.indices.now.items, refl)

pub row-requires : goal.row-requires
row-requires c =
    let e = ap length c.requires.columns
    ∙ length-tabulate (length c.args.x.now) (column_of (length c.args.x.now) (slice_index c.args.x.now)) in
    let l = c.requires.within (trailing_zeros w16 c.loop-left.left)
    (pushing_row c.args.x.now c.args.columns.now c.args.a c.args.rows c.args.indices.now.items c.loop-left.indices.items
    c.loop-left.left c.loop-left.invariant.0 c.loop-left-test.true (search rules) c.requires.within) in
    omega (arith, e, l)

pub exchanged_index-requires-clause-order : goal.exchanged_index-requires-clause-order
exchanged_index-requires-clause-order c =
    let l = c.requires.right (trailing_zeros w16 c.loop-left.left)
    (pushing_row c.args.x.now c.args.columns.now c.args.a c.args.rows c.args.indices.now.items c.loop-left.indices.items
    c.loop-left.left c.loop-left.invariant.0 c.loop-left-test.true (search rules) c.requires.within) in
    let e = c.row.ensures.row in
    omega (arith, e, l)

pub exchanged_index-requires-clause-below : goal.exchanged_index-requires-clause-below
exchanged_index-requires-clause-below c =
    let e = ap length c.requires.columns
    ∙ length-tabulate (length c.args.x.now) (column_of (length c.args.x.now) (slice_index c.args.x.now)) in
    let l = c.row.ensures.below in
    omega arith

pub push_reserved-requires : goal.push_reserved-requires
push_reserved-requires c =
    let h = pushing_room c.args.x.now c.args.columns.now c.args.a c.args.rows c.args.indices.now.items
    c.loop-left.indices.items c.loop-left.left c.loop-left.invariant.0 c.loop-left-test.true
    (search rules) c.requires.within in
    let k = c.loop-left.invariant.1 in
    let r = c.requires.room in
    (omega arith, omega arith)

pub loop-left-smaller : goal.loop-left-smaller
loop-left-smaller c =
    pushing_fewer c.args.x.now c.args.columns.now c.args.a c.args.rows c.args.indices.now.items
    c.loop-left.indices.items c.loop-left.left c.loop-left.invariant.0 c.loop-left-test.true
    (search rules) c.requires.within

pub loop-left-preserved : goal.loop-left-preserved
loop-left-preserved c =
    let x = c.args.x.now in
    let columns = c.args.columns.now in (
      pushing_more x columns c.args.a c.args.rows c.args.indices.now.items c.loop-left.indices.items c.loop-left.left
          c.loop-left.invariant.0 c.loop-left-test.true (search rules) c.requires.within
          c.push_reserved.new.self.items c.exchanged_index.result c.push_reserved.ensures.items
          (c.exchanged_index.ensures ∙ ap (λ b. rank (swap x c.args.a b)) c.row.ensures.row),
      c.push_reserved.ensures.capacity ∙ c.loop-left.invariant.1,
    )

pub returns-clause-items : goal.returns-clause-items
returns-clause-items c =
    pushing_all c.args.x.now c.args.columns.now c.args.a c.args.rows c.args.indices.now.items c.loop-left.indices.items
    c.loop-left.left c.loop-left.invariant.0 c.loop-left-test.false
