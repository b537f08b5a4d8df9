-- The exchanges of each circle follow those of the circles after it.
use Rattle.std.proofs.Common.{◌≡◌, ℕ, List, ◌+◌, ◌-◌, ◌<◌, ◌≤◌, ◌++◌, length, map, take, slice_index, reverse, bit_and, refl, ap, ◌∙◌, sym, arith}
use Rattle.std.proofs.lemmas.List.{append-nil, take_all}
use Rattle.std.specs.List.{flat_map}
use Rattle.state_rank.specs.Bijection.{ascending, numbers}
use Rattle.state_rank.specs.States.{rank}
use Rattle.rectangles.specs.Inner.Open.{AreRowsBetween, exchanges, exchanges_above}
use Rattle.rectangles.proofs.Sweep.PushLemmas.{circle_more, circle_room, slice_index-descending, length-descending}
use Rattle.rectangles.proofs.Sweep.RowBitLemmas.{masked_row, exchanges-masked}
use Rattle.rectangles.proofs.target_states.push_above.Goals as goal

module _ (x columns odds : List ℕ) (n a row mask : ℕ) (n_is : n ≡ length x) (some : 0 < a) (within : a ≤ n)
    (row_is : row ≡ slice_index x (a - 1)) (low : row < length x) (m : AreRowsBetween (row + 1) n mask)
    (old items : List ℕ) (h : items
    ≡ old ++ map rank (flat_map (exchanges_above x columns odds) (take (n - a) (reverse (ascending (length x)))))) where
  near : n - a < length (reverse (ascending (length x)))
  near = let e = length-descending (length x) in omega arith

  piece : exchanges x columns (a - 1) (bit_and (slice_index odds (a - 1)) mask) (ascending (length x))
      ≡ exchanges_above x columns odds (slice_index (reverse (ascending (length x))) (n - a))
  piece =
      exchanges-masked (slice_index odds (a - 1)) mask (row + 1) n m x columns (a - 1) (length x) (omega arith)
      (omega arith)
      ∙ (λ i. exchanges x columns (a - 1) (slice_index odds (a - 1)) (numbers (row_is i + 1) (n_is i)))
      ∙ ap (exchanges_above x columns odds)
      (sym (ap (λ m. slice_index (reverse (ascending (length x))) (m - a)) n_is
      ∙ slice_index-descending (length x) a some (omega arith)))

  room : length items
      + length (exchanges x columns (a - 1) (bit_and (slice_index odds (a - 1)) mask) (ascending (length x)))
      ≤ length old + length (flat_map (exchanges_above x columns odds) (reverse (ascending (length x))))
  room = circle_room (exchanges_above x columns odds) (reverse (ascending (length x))) (n - a) near old items _ h piece

  more : items
      ++ map rank (exchanges x columns (a - 1) (bit_and (slice_index odds (a - 1)) mask) (ascending (length x)))
      ≡ old
      ++ map rank (flat_map (exchanges_above x columns odds) (take (n - (a - 1)) (reverse (ascending (length x)))))
  more =
      let next : n - a + 1 ≡ n - (a - 1) = omega arith in
      circle_more (exchanges_above x columns odds) (reverse (ascending (length x))) (n - a) near old items _ h piece
      ∙ ap (λ i. old ++ map rank (flat_map (exchanges_above x columns odds) (take i (reverse (ascending (length x))))))
      next

pub loop-a-init : goal.loop-a-init
loop-a-init c =
    let none : 0 ≡ c.size-n.result - c.size-n.result = omega arith in (
      sym (append-nil c.args.indices.now.items)
          ∙ ap (λ i. c.args.indices.now.items
          ++ map rank (flat_map (exchanges_above c.args.x.now c.args.columns.now c.args.odds.now)
          (take i (reverse (ascending (length c.args.x.now)))))) none,
      refl,
    )

pub rows_between-requires-clause-order : goal.rows_between-requires-clause-order
rows_between-requires-clause-order c =
    let low = c.row.ensures.below in let n = c.size-n.ensures.size in omega arith

pub rows_between-requires-clause-short : goal.rows_between-requires-clause-short
rows_between-requires-clause-short c =
    let n = c.size-n.ensures.size in
    let short = c.row.ensures.state.size.greatest in
    omega arith

pub push_exchanges-requires-clause-within : goal.push_exchanges-requires-clause-within
push_exchanges-requires-clause-within c r e =
    let n = c.size-n.ensures.size in
    let h = (masked_row (slice_index c.args.odds.now (c.loop-a.a - 1)) c.rows_between.result (c.row.result + 1)
    c.size-n.result c.rows_between.ensures r e).1 in
    omega arith

pub push_exchanges-requires-clause-right : goal.push_exchanges-requires-clause-right
push_exchanges-requires-clause-right c r e =
    let n = c.size-n.ensures.size in
    let h = masked_row (slice_index c.args.odds.now (c.loop-a.a - 1)) c.rows_between.result (c.row.result + 1)
    c.size-n.result c.rows_between.ensures r e in
    let k = h.1 in
    c.requires.right (c.loop-a.a - 1) r (let l = c.loop-a-test.true in omega arith) (omega arith) h.2

pub push_exchanges-requires-clause-room : goal.push_exchanges-requires-clause-room
push_exchanges-requires-clause-room c =
    let h = room c.args.x.now c.args.columns.now c.args.odds.now c.size-n.result c.loop-a.a c.row.result
    c.rows_between.result c.size-n.ensures.size c.loop-a-test.true
    (omega arith) c.row.ensures.row c.row.ensures.below c.rows_between.ensures c.args.indices.now.items
    c.loop-a.indices.items c.loop-a.invariant.0 in
    let k = c.loop-a.invariant.1 in
    let r = c.requires.room in
    omega arith

pub loop-a-preserved : goal.loop-a-preserved
loop-a-preserved c = (
  c.push_exchanges.ensures.items
      ∙ more c.args.x.now c.args.columns.now c.args.odds.now c.size-n.result c.loop-a.a c.row.result
      c.rows_between.result c.size-n.ensures.size c.loop-a-test.true
      (omega arith) c.row.ensures.row c.row.ensures.below c.rows_between.ensures c.args.indices.now.items
      c.loop-a.indices.items c.loop-a.invariant.0,
  c.push_exchanges.ensures.capacity ∙ c.loop-a.invariant.1,
)

pub returns-clause-items : goal.returns-clause-items
returns-clause-items c =
    let n = length-descending (length c.args.x.now) in
    c.loop-a.invariant.0
    ∙ ap (λ ys. c.args.indices.now.items
    ++ map rank (flat_map (exchanges_above c.args.x.now c.args.columns.now c.args.odds.now) ys))
    (take_all (c.size-n.result - c.loop-a.a) (reverse (ascending (length c.args.x.now))) (omega arith))
