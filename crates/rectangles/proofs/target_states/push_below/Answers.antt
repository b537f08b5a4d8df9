-- The exchanges of each circle follow those of the circles before it.
use Rattle.std.proofs.Common.{◌≡◌, ℕ, List, ◌+◌, ◌<◌, ◌≤◌, ◌++◌, length, map, take, slice_index, bit_and, ap, ◌∙◌, sym, arith}
use Rattle.std.proofs.lemmas.List.{take_all}
use Rattle.std.specs.List.{flat_map}
use Rattle.state_rank.specs.Bijection.{ascending, numbers}
use Rattle.state_rank.specs.States.{rank}
use Rattle.state_rank.proofs.OrderLemmas.{length-ascending}
use Rattle.rectangles.specs.Inner.Open.{AreRowsBetween, exchanges, exchanges_below}
use Rattle.rectangles.proofs.Sweep.PushLemmas.{circle_more, circle_room, slice_index-ascending}
use Rattle.rectangles.proofs.Sweep.RowBitLemmas.{masked_row, exchanges-masked}
use Rattle.rectangles.proofs.target_states.push_below.Goals as goal

module _ (x columns odds : List ℕ) (a row mask : ℕ) (below : a < length x) (row_is : row ≡ slice_index x a)
    (low : row < length x) (m : AreRowsBetween 0 row mask) (old items : List ℕ)
    (h : items ≡ old ++ map rank (flat_map (exchanges_below x columns odds) (take a (ascending (length x))))) where
  near : a < length (ascending (length x))
  near = let n = length-ascending (length x) in omega arith

  piece : exchanges x columns a (bit_and (slice_index odds a) mask) (ascending (length x))
      ≡ exchanges_below x columns odds (slice_index (ascending (length x)) a)
  piece =
      exchanges-masked (slice_index odds a) mask 0 row m x columns a (length x) (omega arith) (omega arith)
      ∙ ap (λ r. exchanges x columns a (slice_index odds a) (numbers 0 r)) row_is
      ∙ ap (exchanges_below x columns odds) (sym (slice_index-ascending (length x) a below))

  room : length items + length (exchanges x columns a (bit_and (slice_index odds a) mask) (ascending (length x)))
      ≤ length old + length (flat_map (exchanges_below x columns odds) (ascending (length x)))
  room = circle_room (exchanges_below x columns odds) (ascending (length x)) a near old items _ h piece

  more : items ++ map rank (exchanges x columns a (bit_and (slice_index odds a) mask) (ascending (length x)))
      ≡ old ++ map rank (flat_map (exchanges_below x columns odds) (take (a + 1) (ascending (length x))))
  more = circle_more (exchanges_below x columns odds) (ascending (length x)) a near old items _ h piece

pub rows_between-requires-clause-short : goal.rows_between-requires-clause-short
rows_between-requires-clause-short c =
    let below = c.row.ensures.below in
    let short = c.row.ensures.state.size.greatest in
    omega arith

pub push_exchanges-requires-clause-within : goal.push_exchanges-requires-clause-within
push_exchanges-requires-clause-within c r e =
    let low = c.row.ensures.below in
    let h = (masked_row (slice_index c.args.odds.now c.loop-a.a) c.rows_between.result 0 c.row.result
    c.rows_between.ensures r e).1 in
    omega arith

pub push_exchanges-requires-clause-right : goal.push_exchanges-requires-clause-right
push_exchanges-requires-clause-right c r e =
    let low = c.row.ensures.below in
    let n = c.size-a-end.ensures.size in
    let h = masked_row (slice_index c.args.odds.now c.loop-a.a) c.rows_between.result 0 c.row.result
    c.rows_between.ensures r e in
    let k = h.1 in
    c.requires.right c.loop-a.a r (let l = c.loop-a-test.true in omega arith) (omega arith) h.2

pub push_exchanges-requires-clause-room : goal.push_exchanges-requires-clause-room
push_exchanges-requires-clause-room c =
    let n = c.size-a-end.ensures.size in
    let left = c.loop-a-test.true in
    let h = room c.args.x.now c.args.columns.now c.args.odds.now c.loop-a.a c.row.result c.rows_between.result
    (omega arith) c.row.ensures.row c.row.ensures.below c.rows_between.ensures c.args.indices.now.items
    c.loop-a.indices.items c.loop-a.invariant.0 in
    let k = c.loop-a.invariant.1 in
    let r = c.requires.room in
    omega arith

pub loop-a-preserved : goal.loop-a-preserved
loop-a-preserved c =
    let n = c.size-a-end.ensures.size in
    let left = c.loop-a-test.true in (
      c.push_exchanges.ensures.items
          ∙ more c.args.x.now c.args.columns.now c.args.odds.now c.loop-a.a c.row.result c.rows_between.result
          (omega arith) c.row.ensures.row c.row.ensures.below c.rows_between.ensures c.args.indices.now.items
          c.loop-a.indices.items c.loop-a.invariant.0,
      c.push_exchanges.ensures.capacity ∙ c.loop-a.invariant.1,
    )

pub returns-clause-items : goal.returns-clause-items
returns-clause-items c =
    let n = length-ascending (length c.args.x.now) in
    c.loop-a.invariant.0
    ∙ ap (λ ys. c.args.indices.now.items
    ++ map rank (flat_map (exchanges_below c.args.x.now c.args.columns.now c.args.odds.now) ys))
    (take_all c.loop-a.a (ascending (length c.args.x.now)) (omega arith))
