-- The states of the border of a state, in order: the exchanges at odd pairs that lower the row of their
-- first circle, from circle 0 up, and then those that raise it, from the last circle down; those of one
-- circle by the row that comes to it.
-- Route: two exchanges first differ at the lower of their first circles, which gives their order. So the
-- list rises, has the states of the border, and is their list in order. It is no longer than the list of
-- all pairs of circles.
use Rattle.std.proofs.Common.{◌≡◌, ◌≢◌, ℕ, ◌+◌, ◌<◌, ◌≤◌, Bool, true, false, ◌&&◌, List, ◌++◌, length, map, get_or, slice_index, swap, reverse, All, Contains, refl, ap, subst, ◌∙◌, sym, eqb, ltb, arith, inl, inr, cond, true≢false}
use Rattle.std.proofs.lemmas.Bool.{cases_order, eq-eqb, eqb-true, lt-ltb, ltb-true, and_parts, and_from}
use Rattle.std.proofs.lemmas.List.Elements.{Contains-get_or, Contains-append_left, Contains-append_right, Contains-append_cases}
use Rattle.std.proofs.lemmas.List.Sorted.{IsPermutation-reverse, IsPermutation-sym, Contains-permutation}
use Rattle.std.specs.Int.{bit_at}
use Rattle.std.specs.List.{filter, flat_map}
use Rattle.f2_algebra.specs.Chain.{codes}
use Rattle.std.proofs.lemmas.List.Kept.{AllPairs-filter}
use Rattle.state_rank.specs.Bijection.{IsSize, IsBijection, ascending, column_of, numbers}
use Rattle.state_rank.specs.States.{IsState, is_before, rank, states, transpose}
use Rattle.state_rank.specs.declared.TheConstants.{MAX_SIZE}
use Rattle.state_rank.proofs.BijectionLemmas.{one_to_one, column_of-is, column_of-below, row-column_of}
use Rattle.state_rank.proofs.MemberLemmas.{Contains-map, member_of_map, Contains-filter, member_of_filter, Contains-flat_map, member_of_flat_map, pairs_append, pairs_map, pairs_weaker, pairs_flat_map}
use Rattle.state_rank.proofs.OrderLemmas.{is_before-same, get_or-tabulate, Contains-ascending, member_of_ascending, ascending_rises, states_rise}
use Rattle.state_rank.proofs.SwapLemmas.{IsBijection-swap}
use Rattle.torus_geom.specs.Marks.{Marks, size, IsGrid}
use Rattle.torus_geom.specs.Inner.CodeBorder.{border_of_state}
use Rattle.rectangles.specs.Inner.Open.{is_odd_pair, exchanges, exchanges_below, exchanges_above}
use Rattle.rectangles.proofs.Sweep.OddPairLemmas.{IsOddExchange, steps_to, reached, odd_exchange, Contains-reached}
use Rattle.rectangles.proofs.Square.RectangleSums.{codes-states_where}
use Rattle.rectangles.proofs.Sweep.OrderedLists.{Rises, same_rising, pairs_members, Contains-numbers, member_of_numbers, numbers_rise, descending_falls, no_longer}
use Rattle.rectangles.proofs.Sweep.ExchangeOrder.{order_same, order_lowered, order_raised, order_across}

-- ---- the exchanges of a state
module _ (g : Marks) (s : IsGrid g) (x : List ℕ) (sx : IsBijection (size g) x) where
  -- ---- the list, if `odds` has for each circle the rows of the higher circles with which it is an odd pair
  module _ (odds : List ℕ) (has : (a b : ℕ) → a < size g → b < size g
      → bit_at (slice_index odds a) (slice_index x b) ≡ cond (ltb a b && is_odd_pair g x a b) 1 0) where
    columns : List ℕ
    columns = transpose x

    column : ℕ → ℕ
    column r = slice_index columns r

    column_below : (r : ℕ) → r < size g → column r < size g
    unfolding columns column
    column_below r l =
        let e = sx.long in
        let at : slice_index (transpose x) r ≡ column_of (length x) (slice_index x) r =
        get_or-tabulate (length x) (column_of (length x) (slice_index x)) r 0 (omega arith) in
        let b = column_of-below (size g) (slice_index x) (one_to_one (size g) x sx) r l in
        let f : column_of (length x) (slice_index x) r ≡ column_of (size g) (slice_index x) r =
        ap (λ n. column_of n (slice_index x) r) e in
        omega arith

    row-column : (r : ℕ) → r < size g → slice_index x (column r) ≡ r
    unfolding columns column
    row-column r l =
        let e = sx.long in
        ap (slice_index x) (get_or-tabulate (length x) (column_of (length x) (slice_index x)) r 0 (omega arith)
        ∙ ap (λ n. column_of n (slice_index x) r) e)
        ∙ row-column_of (size g) (slice_index x) (one_to_one (size g) x sx) r l

    column-row : (b : ℕ) → b < size g → column (slice_index x b) ≡ b
    unfolding columns column
    column-row b l =
        let e = sx.long in
        let r = sx.small b l in
        get_or-tabulate (length x) (column_of (length x) (slice_index x)) (slice_index x b) 0 (omega arith)
        ∙ ap (λ n. column_of n (slice_index x) (slice_index x b)) e
        ∙ column_of-is (size g) (slice_index x) (one_to_one (size g) x sx) b (slice_index x b) l refl

    -- the circle of a row whose bit is set is an odd pair with a
    record IsPartner (a r : ℕ) : Type 0 where
      order : a < column r
      below : column r < size g
      odd : is_odd_pair g x a (column r) ≡ true

    odd_bit : (b : Bool) → ◌≡◌ {A = ℕ} (cond b 1 0) 1 → b ≡ true
    odd_bit true e = refl
    odd_bit false e = absurd (omega arith)

    partner : (a r : ℕ) → a < size g → r < size g → eqb (bit_at (slice_index odds a) r) 1 ≡ true → IsPartner a r
    partner a r la lr h =
        let c = column_below r lr in
        let set : cond (ltb a (column r) && is_odd_pair g x a (column r)) 1 0 ≡ 1 =
        sym (has a (column r) la c) ∙ ap (bit_at (slice_index odds a)) (row-column r lr) ∙ eqb-true _ _ h in
        let parts = and_parts (ltb a (column r)) (is_odd_pair g x a (column r)) (odd_bit _ set) in
        record { order = ltb-true _ _ parts.0; below = c; odd = parts.1 }

    -- the rows between two, with their bits set
    picked : ℕ → ℕ → ℕ → List ℕ
    picked a from to = filter (λ r. eqb (bit_at (slice_index odds a) r) 1) (numbers from to)

    pick_facts : (a from to r : ℕ) → a < size g → to ≤ size g → Contains (picked a from to) r
        → (from ≤ r) × (r < to) × IsPartner a r
    unfolding picked
    pick_facts a from to r la lt m =
        let f = member_of_filter (λ r. eqb (bit_at (slice_index odds a) r) 1) (numbers from to) r m in
        let n = member_of_numbers from to r f.0 in
        let l = n.1 in
        (n.0, n.1, partner a r la (omega arith) f.1)

    -- the exchanges of one circle rise
    exchanges_rise : (a from to : ℕ) → a < size g → to ≤ size g
        → Rises (exchanges x columns a (slice_index odds a) (numbers from to))
    unfolding picked column
    exchanges_rise a from to la lt =
        pairs_map (λ r q. (r < q) × (Contains (picked a from to) r × Contains (picked a from to) q))
        (λ y z. is_before y z ≡ true) (λ r. swap x a (column r)) (picked a from to)
        (λ r q h.
        let f = pick_facts a from to r la lt h.1.0 in
        let k = pick_facts a from to q la lt h.1.1 in
        let l = h.0 in let fr = f.1 in let kq = k.1 in
        let e = row-column r (omega arith) in
        let i = row-column q (omega arith) in
        order_same (size g) x sx a (column r) (column q) f.2.order f.2.below k.2.order k.2.below (omega arith))
        (pairs_members (λ r q. r < q) (picked a from to)
        (AllPairs-filter (λ r q. r < q) (λ r. eqb (bit_at (slice_index odds a) r) 1) (numbers from to)
        (numbers_rise from to)))

    -- what is known of an exchange of a
    record IsExchange (a : ℕ) (y : List ℕ) : Type 0 where
      to : ℕ
      order : a < to
      below : to < size g
      odd : is_odd_pair g x a to ≡ true
      is : swap x a to ≡ y

    member_of_exchanges : (a from to : ℕ) (y : List ℕ) → a < size g → to ≤ size g
        → Contains (exchanges x columns a (slice_index odds a) (numbers from to)) y
        → (h : IsExchange a y) × (from ≤ slice_index x h.to) × (slice_index x h.to < to)
    unfolding picked column
    member_of_exchanges a from to y la lt m =
        let r = member_of_map (λ r. swap x a (column r)) (picked a from to) y m in
        let f = pick_facts a from to r.0 la lt r.1 in
        let low = f.0 in let high = f.1 in
        let e = row-column r.0 (omega arith) in (
          record { to = column r.0; order = f.2.order; below = f.2.below; odd = f.2.odd; is = r.2 },
          omega arith,
          omega arith,
        )

    Contains-exchanges : (a b from to : ℕ) → a < b → b < size g → is_odd_pair g x a b ≡ true → from ≤ slice_index x b
        → slice_index x b < to
        → Contains (exchanges x columns a (slice_index odds a) (numbers from to)) (swap x a b)
    unfolding picked column
    Contains-exchanges a b from to ab lb odd low high =
        let set : bit_at (slice_index odds a) (slice_index x b) ≡ 1 =
        has a b (omega arith) lb ∙ ap (λ t. cond t 1 0) (and_from _ _ (lt-ltb a b ab) odd) in
        subst (λ c. Contains (exchanges x columns a (slice_index odds a) (numbers from to)) (swap x a c))
        (column-row b lb)
        (Contains-map (λ r. swap x a (column r)) (picked a from to) (slice_index x b)
        (Contains-filter (λ r. eqb (bit_at (slice_index odds a) r) 1) (numbers from to) (slice_index x b)
        (Contains-numbers from to (slice_index x b) low high) (eq-eqb _ _ set)))

    lowered : List (List ℕ)
    lowered = flat_map (exchanges_below x columns odds) (ascending (size g))

    raised : List (List ℕ)
    raised = flat_map (exchanges_above x columns odds) (reverse (ascending (size g)))

    descending_below : (a : ℕ) → Contains (reverse (ascending (size g))) a → a < size g
    descending_below a m =
        member_of_ascending (size g) a
        (Contains-permutation (reverse (ascending (size g))) (ascending (size g)) a
        (IsPermutation-sym (ascending (size g)) (reverse (ascending (size g)))
        (IsPermutation-reverse (ascending (size g)))) m)

    row_fits : (a : ℕ) → a < size g → slice_index x a ≤ size g
    row_fits a l = let k = sx.small a l in omega arith

    size_fits : length x ≤ size g
    size_fits = let e = sx.long in omega arith

    member_of_below : (a : ℕ) (y : List ℕ) → a < size g → Contains (exchanges_below x columns odds a) y
        → (h : IsExchange a y) × (slice_index x h.to < slice_index x a)
    member_of_below a y la m = let e = member_of_exchanges a 0 (slice_index x a) y la (row_fits a la) m in (e.0, e.2)

    member_of_above : (a : ℕ) (y : List ℕ) → a < size g → Contains (exchanges_above x columns odds a) y
        → (h : IsExchange a y) × (slice_index x a < slice_index x h.to)
    member_of_above a y la m = let e = member_of_exchanges a (slice_index x a + 1) (length x) y la size_fits m in
        let l = e.1 in (e.0, omega arith)

    before_from : (y z : List ℕ) (u v : List ℕ) → u ≡ y → v ≡ z → is_before u v ≡ true → is_before y z ≡ true
    before_from y z u v i j h = sym (λ k. is_before (i k) (j k)) ∙ h

    lowered_rise : Rises lowered
    unfolding lowered
    lowered_rise =
        pairs_flat_map (λ a c. (a < c) × (Contains (ascending (size g)) a × Contains (ascending (size g)) c))
        (λ y z. is_before y z ≡ true) (exchanges_below x columns odds) (ascending (size g))
        (pairs_members (λ a c. a < c) (ascending (size g)) (ascending_rises (size g)))
        (λ a m. let l = member_of_ascending (size g) a m in exchanges_rise a 0 (slice_index x a) l (row_fits a l))
        (λ a c l y z m n.
        let e = member_of_below a y (member_of_ascending (size g) a l.1.0) m in
        let f = member_of_below c z (member_of_ascending (size g) c l.1.1) n in
        before_from y z _ _ e.0.is f.0.is
        (order_lowered (size g) x sx a e.0.to c f.0.to e.0.order e.0.below f.0.order f.0.below l.0 e.1))

    raised_rise : Rises raised
    unfolding raised
    raised_rise =
        pairs_flat_map (λ a c. (c < a) × (Contains (reverse (ascending (size g))) a
        × Contains (reverse (ascending (size g))) c)) (λ y z. is_before y z ≡ true)
        (exchanges_above x columns odds) (reverse (ascending (size g)))
        (pairs_members (λ a c. c < a) (reverse (ascending (size g))) (descending_falls (size g)))
        (λ a m. let l = descending_below a m in exchanges_rise a (slice_index x a + 1) (length x) l size_fits)
        (λ a c l y z m n.
        let e = member_of_above a y (descending_below a l.1.0) m in
        let f = member_of_above c z (descending_below c l.1.1) n in
        before_from y z _ _ e.0.is f.0.is
        (order_raised (size g) x sx a e.0.to c f.0.to e.0.order e.0.below f.0.order f.0.below l.0 f.1))

    -- an exchange in the list
    member_of_lowered : (y : List ℕ) → Contains lowered y
        → (a : ℕ) × (h : IsExchange a y) × (slice_index x h.to < slice_index x a)
    unfolding lowered
    member_of_lowered y m =
        let a = member_of_flat_map (exchanges_below x columns odds) (ascending (size g)) y m in
        let h = member_of_below a.0 y (member_of_ascending (size g) a.0 a.1) a.2 in (a.0, h.0, h.1)

    member_of_raised : (y : List ℕ) → Contains raised y
        → (a : ℕ) × (h : IsExchange a y) × (slice_index x a < slice_index x h.to)
    unfolding raised
    member_of_raised y m =
        let a = member_of_flat_map (exchanges_above x columns odds) (reverse (ascending (size g))) y m in
        let h = member_of_above a.0 y (descending_below a.0 a.1) a.2 in (a.0, h.0, h.1)

    all_rise : Rises (lowered ++ raised)
    all_rise =
        pairs_append (λ y z. is_before y z ≡ true) lowered raised lowered_rise raised_rise (λ y z m n.
        let e = member_of_lowered y m in
        let f = member_of_raised z n in
        before_from y z _ _ e.1.is f.1.is
        (order_across (size g) x sx e.0 e.1.to f.0 f.1.to e.1.order e.1.below f.1.order f.1.below e.2 f.2))

    odd_from : (a : ℕ) (y : List ℕ) (h : IsExchange a y) → IsOddExchange g s x sx y a h.to
    odd_from a y h = record { order = h.order; below = h.below; odd = h.odd; is = h.is }

    to_reached : (y : List ℕ) → Contains (lowered ++ raised) y → Contains (reached g s x sx) y
    to_reached y m = elim (Contains-append_cases lowered raised y m) [
      | inl l ↦ let e = member_of_lowered y l in Contains-reached g s x sx y e.0 e.1.to (odd_from e.0 y e.1)
      | inr r ↦ let e = member_of_raised y r in Contains-reached g s x sx y e.0 e.1.to (odd_from e.0 y e.1)
    ]

    from_reached : (y : List ℕ) → Contains (reached g s x sx) y → Contains (lowered ++ raised) y
    unfolding lowered raised
    from_reached y m =
        let e = odd_exchange g s x sx y m in
        let a : ℕ = e.0 in
        let b : ℕ = e.1 in
        let h = e.2 in
        let ab = h.order in
        let lb = h.below in
        let la : a < size g = omega arith in
        subst (Contains (lowered ++ raised)) h.is (elim (cases_order (slice_index x b) (slice_index x a)) [
          | inl i ↦ absurd (sx.apart b a lb la (omega arith) i)
          | inr o ↦ elim o [
            | inl l ↦ Contains-append_left lowered raised (swap x a b)
                (Contains-flat_map (exchanges_below x columns odds) (ascending (size g)) a (swap x a b)
                (Contains-ascending (size g) a la)
                (Contains-exchanges a b 0 (slice_index x a) ab lb h.odd (omega arith) l))
            | inr l ↦ Contains-append_right lowered raised (swap x a b)
                (Contains-flat_map (exchanges_above x columns odds) (reverse (ascending (size g))) a (swap x a b)
                (Contains-permutation (ascending (size g)) (reverse (ascending (size g))) a
                (IsPermutation-reverse (ascending (size g))) (Contains-ascending (size g) a la))
                (Contains-exchanges a b (slice_index x a + 1) (length x) ab lb h.odd (omega arith)
                (let k = sx.small b lb in let w = sx.long in omega arith)))
          ]
        ])

    -- the list is that of the states of the border
    listed : lowered ++ raised ≡ reached g s x sx
    unfolding reached
    listed = same_rising (lowered ++ raised) (reached g s x sx) all_rise
        (AllPairs-filter (λ y z. is_before y z ≡ true) _ (states (size g)) (states_rise (size g))) to_reached
        from_reached

    -- each is a state of the size of the grid
    exchange_state : (a : ℕ) (y : List ℕ) → IsExchange a y → IsBijection (size g) y
    exchange_state a y h =
        let order = h.order in
        let below = h.below in
        subst (IsBijection (size g)) h.is (IsBijection-swap (size g) x a h.to (omega arith) below sx)

    member_state : (y : List ℕ) → Contains (lowered ++ raised) y → IsBijection (size g) y
    member_state y m = elim (Contains-append_cases lowered raised y m) [
      | inl l ↦ let e = member_of_lowered y l in exchange_state e.0 y e.1
      | inr r ↦ let e = member_of_raised y r in exchange_state e.0 y e.1
    ]

    all_states : All (λ y. IsState y × (length y ≡ size g)) (lowered ++ raised)
    all_states k d within =
        let y : List ℕ = get_or (lowered ++ raised) k d in
        let bijection = member_state y (Contains-get_or (lowered ++ raised) k d within) in
        let long = bijection.long in (
          record {
            size = subst IsSize (sym long) s.is_size;
            bijection = subst (λ n. IsBijection n y) (sym long) bijection;
          },
          long,
        )

    -- all pairs of circles
    candidates : List (List ℕ)
    candidates = flat_map (λ b. map (λ a. swap x a b) (ascending b)) (ascending MAX_SIZE)

    candidates_few : length candidates ≤ 45
    unfolding candidates
    candidates_few = omega arith

    few : length (lowered ++ raised) ≤ 45
    unfolding candidates
    few =
        let most : length (lowered ++ raised) ≤ length candidates =
        no_longer (lowered ++ raised) candidates
        (pairs_weaker (λ y z. is_before y z ≡ true) (λ y z. y ≢ z) (lowered ++ raised)
        (λ y z h e. true≢false (sym h ∙ ap (is_before y) (sym e) ∙ is_before-same y)) all_rise)
        (λ y m.
        let e = odd_exchange g s x sx y (to_reached y m) in
        let h = e.2 in let l = h.below in let n = s.is_size.greatest in
        subst (Contains candidates) h.is
        (Contains-flat_map (λ b. map (λ a. swap x a b) (ascending b)) (ascending MAX_SIZE) e.1 (swap x e.0 e.1)
        (Contains-ascending MAX_SIZE e.1 (omega arith))
        (Contains-map (λ a. swap x a e.1) (ascending e.1) e.0 (Contains-ascending e.1 e.0 h.order))))
        in
        let f = candidates_few in omega arith

  -- the exchanges at the odd pairs, in this order, are the border
  pub targets_border : (odds : List ℕ)
      → ((a b : ℕ) → a < size g → b < size g
      → bit_at (slice_index odds a) (slice_index x b) ≡ cond (ltb a b && is_odd_pair g x a b) 1 0)
      → map rank (flat_map (exchanges_below x (transpose x) odds) (ascending (size g))
      ++ flat_map (exchanges_above x (transpose x) odds) (reverse (ascending (size g)))) ≡ codes (border_of_state g x)
  unfolding border_of_state lowered raised reached steps_to columns
  targets_border odds has = ap (map rank) (listed odds has) ∙ sym (codes-states_where (size g) _)

  -- and at most 45
  pub targets_few : (odds : List ℕ)
      → ((a b : ℕ) → a < size g → b < size g
      → bit_at (slice_index odds a) (slice_index x b) ≡ cond (ltb a b && is_odd_pair g x a b) 1 0)
      → length (flat_map (exchanges_below x (transpose x) odds) (ascending (size g))
      ++ flat_map (exchanges_above x (transpose x) odds) (reverse (ascending (size g)))) ≤ 45
  unfolding lowered raised columns
  targets_few odds has = few odds has

  -- and each is a state of the size of the grid
  pub targets_states : (odds : List ℕ)
      → ((a b : ℕ) → a < size g → b < size g
      → bit_at (slice_index odds a) (slice_index x b) ≡ cond (ltb a b && is_odd_pair g x a b) 1 0)
      → All (λ y. IsState y × (length y ≡ size g))
      (flat_map (exchanges_below x (transpose x) odds) (ascending (size g))
      ++ flat_map (exchanges_above x (transpose x) odds) (reverse (ascending (size g))))
  unfolding lowered raised columns
  targets_states odds has = all_states odds has

  -- and a row whose bit is set is that of a circle on the right
  pub targets_right : (odds : List ℕ)
      → ((a b : ℕ) → a < size g → b < size g
      → bit_at (slice_index odds a) (slice_index x b) ≡ cond (ltb a b && is_odd_pair g x a b) 1 0)
      → (a r : ℕ) → a < size g → r < size g → bit_at (slice_index odds a) r ≡ 1 → a < slice_index (transpose x) r
  unfolding columns column
  targets_right odds has a r la lr e = (partner odds has a r la lr (eq-eqb _ _ e)).order
