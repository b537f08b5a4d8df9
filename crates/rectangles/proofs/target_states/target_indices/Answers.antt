-- The sets of the open rectangles give those of the odd pairs, whose exchanges are the border.
use Rattle.std.proofs.Common.{◌≡◌, ℕ, ◌+◌, ◌<◌, ◌≤◌, ◌++◌, List, length, map, reverse, slice_index, All, ap, subst, sym, ◌∙◌, arith, cond, ltb, ◌&&◌}
use Rattle.std.proofs.lemmas.List.{length-append, length-map, map-append}
use Rattle.std.proofs.lemmas.List.Elements.{All-contains}
use Rattle.std.specs.Int.{bit_at}
use Rattle.std.specs.List.{flat_map}
use Rattle.state_rank.specs.Bijection.{IsBijection, ascending}
use Rattle.state_rank.specs.States.{IsState, rank, transpose}
use Rattle.torus_geom.specs.Marks.{Marks, size, IsGrid}
use Rattle.torus_geom.specs.Border.{border as border_of}
use Rattle.torus_geom.specs.Chains.{members, single}
use Rattle.rectangles.specs.Inner.Open.{is_open, is_odd_pair, odd_bit, exchanges_below, exchanges_above}
use Rattle.rectangles.proofs.Homology.BorderLaws.{targets_states as targets_in_order}
use Rattle.rectangles.proofs.Sweep.PushLemmas.{odd_bit-open}
use Rattle.rectangles.proofs.Sweep.TargetLemmas.{targets_border, targets_few, targets_states, targets_right}
use Rattle.rectangles.proofs.target_states.target_indices.Goals as goal

module _ (g : Marks) (s : IsGrid g) (x : List ℕ) (sx : IsState x) (same : length x ≡ size g)
    (opens odds columns : List ℕ) (turned : columns ≡ transpose x)
    (has_open : (a b : ℕ) → a < length x → b < length x → bit_at (slice_index opens a) b ≡ cond (is_open g x a b) 1 0)
    (has_odd : (a b : ℕ) → a < length x → b < length x
    → bit_at (slice_index odds a) (slice_index x b) ≡ odd_bit opens a b) where
  lowered : List (List ℕ)
  lowered = flat_map (exchanges_below x columns odds) (ascending (length x))

  raised : List (List ℕ)
  raised = flat_map (exchanges_above x columns odds) (reverse (ascending (length x)))

  state : IsBijection (size g) x
  state = subst (λ n. IsBijection n x) same sx.bijection

  has : (a b : ℕ) → a < size g → b < size g
      → bit_at (slice_index odds a) (slice_index x b) ≡ cond (ltb a b && is_odd_pair g x a b) 1 0
  has a b la lb =
      has_odd a b (omega arith) (omega arith)
      ∙ odd_bit-open g x opens (length x) a b (omega arith) (omega arith) has_open

  listed : lowered ++ raised
      ≡ flat_map (exchanges_below x (transpose x) odds) (ascending (size g))
      ++ flat_map (exchanges_above x (transpose x) odds) (reverse (ascending (size g)))
  unfolding lowered raised
  listed i = flat_map (exchanges_below x (turned i) odds) (ascending (same i))
      ++ flat_map (exchanges_above x (turned i) odds) (reverse (ascending (same i)))

  few : length lowered + length raised ≤ 45
  few =
      let h = targets_few g s x state odds has in
      let e = ap length listed in
      let k = length-append lowered raised in
      omega arith

  each : All (λ y. IsState y × (length y ≡ size g)) (lowered ++ raised)
  each = subst (All (λ y. IsState y × (length y ≡ size g))) (sym listed) (targets_states g s x state odds has)

  in_order : lowered ++ raised ≡ members (size g) (border_of g (single x))
  in_order =
      targets_in_order g x state (lowered ++ raised)
      (λ y m. let (sy, ey) = All-contains (λ y. IsState y × (length y ≡ size g)) (lowered ++ raised) y each m in
      subst (λ n. IsBijection n y) ey sy.bijection)
      (ap (map rank) listed ∙ targets_border g s x state odds has)

  -- the bit of a row is set only for a circle on the right
  right : (a r : ℕ) → a < length x → r < length x → bit_at (slice_index odds a) r ≡ 1 → a < slice_index columns r
  right a r la lr e =
      let h = targets_right g s x state odds has a r (omega arith) (omega arith) e in
      subst (λ c. a < slice_index c r) (sym turned) h

  room_below : (items capacity : ℕ) → items ≡ 0 → capacity ≡ 45
      → items + length (flat_map (exchanges_below x columns odds) (ascending (length x))) ≤ capacity
  unfolding lowered raised
  room_below items capacity none all = let h = few in omega arith

  room_above : (items : List ℕ) (capacity : ℕ)
      → items ≡ map rank (flat_map (exchanges_below x columns odds) (ascending (length x))) → capacity ≡ 45
      → length items + length (flat_map (exchanges_above x columns odds) (reverse (ascending (length x)))) ≤ capacity
  unfolding lowered raised
  room_above items capacity is all =
      let h = few in
      let e = ap length is ∙ length-map lowered rank in
      omega arith

  indices : (items : List ℕ)
      → items ≡ map rank (flat_map (exchanges_below x columns odds) (ascending (length x)))
      ++ map rank (flat_map (exchanges_above x columns odds) (reverse (ascending (length x))))
      → items ≡ map rank (members (size g) (border_of g (single x)))
  unfolding lowered raised
  indices items is = is ∙ sym (map-append rank lowered raised) ∙ ap (map rank) in_order

  few_listed : (items : List ℕ)
      → items ≡ map rank (flat_map (exchanges_below x columns odds) (ascending (length x)))
      ++ map rank (flat_map (exchanges_above x columns odds) (reverse (ascending (length x))))
      → length items ≤ 45
  unfolding lowered raised
  few_listed items is =
      let h = few in
      let e = ap length is ∙ length-append (map rank lowered) (map rank raised) in
      let i = length-map lowered rank in
      let j = length-map raised rank in
      omega arith

pub push_below-requires-clause-right : goal.push_below-requires-clause-right
push_below-requires-clause-right c =
    right c.args.marks.now c.open_rectangles-opens.ensures.grid c.args.x.now c.odd_pairs-odds.ensures.state
    c.requires.size
    c.open_rectangles-opens.result c.odd_pairs-odds.result c.transpose-columns.result c.transpose-columns.ensures.state
    c.open_rectangles-opens.ensures.rectangles c.odd_pairs-odds.ensures.odd

pub push_below-requires-clause-room : goal.push_below-requires-clause-room
push_below-requires-clause-room c =
    room_below c.args.marks.now c.open_rectangles-opens.ensures.grid c.args.x.now c.odd_pairs-odds.ensures.state
    c.requires.size
    c.open_rectangles-opens.result c.odd_pairs-odds.result c.transpose-columns.result c.transpose-columns.ensures.state
    c.open_rectangles-opens.ensures.rectangles c.odd_pairs-odds.ensures.odd
    (length c.new-indices.result.items) c.new-indices.result.capacity
    (ap length c.new-indices.ensures.items) c.new-indices.ensures.capacity

pub push_above-requires-clause-right : goal.push_above-requires-clause-right
push_above-requires-clause-right c =
    right c.args.marks.now c.open_rectangles-opens.ensures.grid c.args.x.now c.odd_pairs-odds.ensures.state
    c.requires.size
    c.open_rectangles-opens.result c.odd_pairs-odds.result c.transpose-columns.result c.transpose-columns.ensures.state
    c.open_rectangles-opens.ensures.rectangles c.odd_pairs-odds.ensures.odd

pub push_above-requires-clause-room : goal.push_above-requires-clause-room
push_above-requires-clause-room c =
    room_above c.args.marks.now c.open_rectangles-opens.ensures.grid c.args.x.now c.odd_pairs-odds.ensures.state
    c.requires.size
    c.open_rectangles-opens.result c.odd_pairs-odds.result c.transpose-columns.result c.transpose-columns.ensures.state
    c.open_rectangles-opens.ensures.rectangles c.odd_pairs-odds.ensures.odd
    c.push_below.new.indices.items c.push_below.new.indices.capacity
    (c.push_below.ensures.items
    ∙ ap (λ ys. ys
    ++ map rank (flat_map (exchanges_below c.args.x.now c.transpose-columns.result c.odd_pairs-odds.result)
    (ascending (length c.args.x.now)))) c.new-indices.ensures.items)
    (c.push_below.ensures.capacity ∙ c.new-indices.ensures.capacity)

pub returns-clause-indices : goal.returns-clause-indices
returns-clause-indices c =
    indices c.args.marks.now c.open_rectangles-opens.ensures.grid c.args.x.now c.odd_pairs-odds.ensures.state
    c.requires.size
    c.open_rectangles-opens.result c.odd_pairs-odds.result c.transpose-columns.result c.transpose-columns.ensures.state
    c.open_rectangles-opens.ensures.rectangles c.odd_pairs-odds.ensures.odd
    c.push_above.new.indices.items
    (c.push_above.ensures.items
    ∙ ap (λ ys. ys
    ++ map rank (flat_map (exchanges_above c.args.x.now c.transpose-columns.result c.odd_pairs-odds.result)
    (reverse (ascending (length c.args.x.now)))))
    (c.push_below.ensures.items
    ∙ ap (λ ys. ys
    ++ map rank (flat_map (exchanges_below c.args.x.now c.transpose-columns.result c.odd_pairs-odds.result)
    (ascending (length c.args.x.now)))) c.new-indices.ensures.items))

pub returns-clause-few : goal.returns-clause-few
returns-clause-few c =
    few_listed c.args.marks.now c.open_rectangles-opens.ensures.grid c.args.x.now c.odd_pairs-odds.ensures.state
    c.requires.size
    c.open_rectangles-opens.result c.odd_pairs-odds.result c.transpose-columns.result c.transpose-columns.ensures.state
    c.open_rectangles-opens.ensures.rectangles c.odd_pairs-odds.ensures.odd
    c.push_above.new.indices.items
    (c.push_above.ensures.items
    ∙ ap (λ ys. ys
    ++ map rank (flat_map (exchanges_above c.args.x.now c.transpose-columns.result c.odd_pairs-odds.result)
    (reverse (ascending (length c.args.x.now)))))
    (c.push_below.ensures.items
    ∙ ap (λ ys. ys
    ++ map rank (flat_map (exchanges_below c.args.x.now c.transpose-columns.result c.odd_pairs-odds.result)
    (ascending (length c.args.x.now)))) c.new-indices.ensures.items))
