-- The calls of a pool.
use Rattle.std.proofs.Common.{◌≡◌, ℕ, zero, suc, ◌+◌, ◌-◌, ◌<◌, ◌≤◌, ◌^◌, true, false, not, ◌&&◌, ◌||◌, ltb, List, ◌∷◌, length, set, take, ◌⊎◌, inl, inr, None, is_some, ◌≢◌, refl, sym, ap, ◌∙◌, subst, arith, length-set}
use Rattle.std.proofs.lemmas.Bool.{eq-eqb, ne_eqb, cases_eq, cases_order, lt-ltb, le-ltb, false≢true}
use Rattle.std.proofs.lemmas.List.{get_or-set_same}
use Rattle.std.specs.Ordering.{nat_cmp}
use Rattle.std.specs.FinMap.{insert, remove, get, len, contains_key, get-empty, empty_of_len}
use Rattle.node_pool.specs.declared.Node.{Node}
use Rattle.node_pool.specs.Inner.Chunks.{blank, node_at}
use Rattle.node_pool.specs.Inner.FreeList.{free_ids, has, live_map, AreApart, IsPool}
use Rattle.node_pool.proofs.FreeListLemmas.{AreApart-more, Map, free_ids-longer, free_ids-set, get-live_map_dead, has_above, is_live, is_live_above, is_live_gone, is_live_if, len-insert_live, len-insert_new, len-remove_live, live_map-longer, live_map-set_dead, live_map-set_live, live_place}

module _ (ns : List Node) (head fresh limit : ℕ) (x : Node) where
  abbrev pub next_free : ℕ
  next_free = (node_at ns head).next_out

  abbrev pub ms : List Node
  ms = set ns head x

  takes_next : (f : ℕ) → IsPool ns head (suc f) fresh limit
      → IsPool ms next_free f fresh limit
      × (live_map ms (free_ids ms f next_free) fresh ≡ insert (live_map ns (free_ids ns (suc f) head) fresh) head x)
      × (get (live_map ns (free_ids ns (suc f) head) fresh) head ≡ None)
  takes_next f ok =
      let rest = free_ids ns f next_free in let gone = free_ids ns (suc f) head in
      let a = ok.apart in
      let kept : free_ids ms f next_free ≡ rest = free_ids-set ns f next_free head x a.1 in
      let inside : head < length ns = omega (arith, a.0, ok.begun, ok.room) in
      let absent : get (live_map ns gone fresh) head ≡ None =
      get-live_map_dead ns gone fresh head
      (is_live_gone gone fresh head (ap (λ b. b || has rest head) (eq-eqb head head refl))) in
      let others : (q : ℕ) → q ≢ head → is_live rest fresh q ≡ is_live gone fresh q =
      λ q d. ap (λ b. ltb q fresh && not (b || has rest q)) (sym (ne_eqb q head d)) in
      let now : live_map ms (free_ids ms f next_free) fresh ≡ insert (live_map ns gone fresh) head x =
      ap (λ is. live_map ms is fresh) kept
      ∙ live_map-set_live ns gone rest fresh fresh head x inside (is_live_if rest fresh head a.0 a.1) others in (
        record {
          apart = subst (λ is. AreApart is fresh) (sym kept) a.2;
          begun = ok.begun;
          room = subst (λ n. limit ≤ n) (sym (length-set ns head x)) ok.room;
          small = subst (λ n. n ≤ 2 ^ 48 + 4096) (sym (length-set ns head x)) ok.small;
          count = omega (arith, ok.count, len-insert_new (live_map ns gone fresh) head x absent, ap (λ m. len m) now);
        },
        now,
        absent,
      )

-- a node is put at the place that was given back last
pub takes_given_back : (ns : List Node) (head free fresh limit : ℕ) (x : Node) → 0 < free
    → IsPool ns head free fresh limit
    → IsPool (set ns head x) (node_at ns head).next_out (free - 1) fresh limit
    × (live_map (set ns head x) (free_ids (set ns head x) (free - 1) (node_at ns head).next_out) fresh
    ≡ insert (live_map ns (free_ids ns free head) fresh) head x)
    × (get (live_map ns (free_ids ns free head) fresh) head ≡ None)
takes_given_back ns head zero fresh limit x p ok = absurd (omega (arith, p))
takes_given_back ns head (suc f) fresh limit x p ok =
    let one_less : f ≡ suc f - 1 = omega arith in
    subst (λ k. IsPool (set ns head x) (node_at ns head).next_out k fresh limit
    × (live_map (set ns head x) (free_ids (set ns head x) k (node_at ns head).next_out) fresh
    ≡ insert (live_map ns (free_ids ns (suc f) head) fresh) head x)
    × (get (live_map ns (free_ids ns (suc f) head) fresh) head ≡ None)) one_less (takes_next ns head fresh limit x f ok)

-- a node is put at a place that was never taken
pub takes_fresh : (ns : List Node) (head free fresh limit : ℕ) (x : Node) → fresh < limit
    → IsPool ns head free fresh limit
    → IsPool (set ns fresh x) head free (fresh + 1) limit
    × (live_map (set ns fresh x) (free_ids (set ns fresh x) free head) (fresh + 1)
    ≡ insert (live_map ns (free_ids ns free head) fresh) fresh x)
    × (get (live_map ns (free_ids ns free head) fresh) fresh ≡ None)
takes_fresh ns head free fresh limit x p ok =
    let gone = free_ids ns free head in let ms = set ns fresh x in
    let none : has gone fresh ≡ false = has_above gone fresh fresh ok.apart (omega arith) in
    let kept : free_ids ms free head ≡ gone = free_ids-set ns free head fresh x none in
    let absent : get (live_map ns gone fresh) fresh ≡ None =
    get-live_map_dead ns gone fresh fresh (is_live_above gone fresh fresh (omega arith)) in
    let others : (q : ℕ) → q ≢ fresh → is_live gone (fresh + 1) q ≡ is_live gone fresh q =
    λ q d. ap (λ b. b && not (has gone q)) (one_more q d) in
    let now : live_map ms (free_ids ms free head) (fresh + 1) ≡ insert (live_map ns gone fresh) fresh x =
    ap (λ is. live_map ms is (fresh + 1)) kept
    ∙ live_map-set_live ns gone gone fresh (fresh + 1) fresh x (omega (arith, p, ok.room))
    (is_live_if gone (fresh + 1) fresh (omega arith) none) others in (
      record {
        apart = subst (λ is. AreApart is (fresh + 1)) (sym kept)
            (AreApart-more gone fresh (fresh + 1) (omega arith) ok.apart);
        begun = omega (arith, p);
        room = subst (λ n. limit ≤ n) (sym (length-set ns fresh x)) ok.room;
        small = subst (λ n. n ≤ 2 ^ 48 + 4096) (sym (length-set ns fresh x)) ok.small;
        count = omega (arith, ok.count, len-insert_new (live_map ns gone fresh) fresh x absent, ap (λ m. len m) now);
      },
      now,
      absent,
    )
  where
    one_more : (q : ℕ) → q ≢ fresh → ltb q (fresh + 1) ≡ ltb q fresh
    one_more q d = go (cases_order q fresh)
      where
        go : (q ≡ fresh) ⊎ ((q < fresh) ⊎ (fresh < q)) → ltb q (fresh + 1) ≡ ltb q fresh
        go (inl e) = absurd (d e)
        go (inr (inl l)) = lt-ltb q (fresh + 1) (omega (arith, l)) ∙ sym (lt-ltb q fresh l)
        go (inr (inr g)) = le-ltb q (fresh + 1) (omega (arith, g)) ∙ sym (le-ltb q fresh (omega (arith, g)))

-- a node is put at a live place
pub sets_node : (ns : List Node) (head free fresh limit id : ℕ) (x : Node)
    → contains_key (live_map ns (free_ids ns free head) fresh) id ≡ true → IsPool ns head free fresh limit
    → IsPool (set ns id x) head free fresh limit
    × (live_map (set ns id x) (free_ids (set ns id x) free head) fresh
    ≡ insert (live_map ns (free_ids ns free head) fresh) id x)
sets_node ns head free fresh limit id x c ok =
    let gone = free_ids ns free head in let ms = set ns id x in
    let a = live_place ns gone fresh id c in
    let kept : free_ids ms free head ≡ gone = free_ids-set ns free head id x a.1 in
    let now : live_map ms (free_ids ms free head) fresh ≡ insert (live_map ns gone fresh) id x =
    ap (λ is. live_map ms is fresh) kept
    ∙ live_map-set_live ns gone gone fresh fresh id x (omega (arith, a.0, ok.begun, ok.room))
    (is_live_if gone fresh id a.0 a.1) (λ q d. refl) in (
      record {
        apart = subst (λ is. AreApart is fresh) (sym kept) ok.apart;
        begun = ok.begun;
        room = subst (λ n. limit ≤ n) (sym (length-set ns id x)) ok.room;
        small = subst (λ n. n ≤ 2 ^ 48 + 4096) (sym (length-set ns id x)) ok.small;
        count = omega (arith, ok.count, len-insert_live (live_map ns gone fresh) id x c, ap (λ m. len m) now);
      },
      now,
    )

-- a live place is given back
pub gives_back : (ns : List Node) (head free fresh limit id : ℕ) (x : Node) → x.next_out ≡ head
    → contains_key (live_map ns (free_ids ns free head) fresh) id ≡ true → IsPool ns head free fresh limit
    → IsPool (set ns id x) id (free + 1) fresh limit
    × (live_map (set ns id x) (free_ids (set ns id x) (free + 1) id) fresh
    ≡ remove (live_map ns (free_ids ns free head) fresh) id)
gives_back ns head free fresh limit id x e c ok =
    let gone = free_ids ns free head in let ms = set ns id x in
    let a = live_place ns gone fresh id c in
    let inside : id < length ns = omega (arith, a.0, ok.begun, ok.room) in
    let one_more : free + 1 ≡ suc free = omega arith in
    let link : (node_at ms id).next_out ≡ head = ap (λ y. y.next_out) (get_or-set_same ns id x blank inside) ∙ e in
    let kept : free_ids ms (free + 1) id ≡ id ∷ gone =
    ap (λ n. free_ids ms n id) one_more
    ∙ ap (λ is. id ∷ is) (ap (λ h. free_ids ms free h) link ∙ free_ids-set ns free head id x a.1) in
    let others : (q : ℕ) → q ≢ id → is_live (id ∷ gone) fresh q ≡ is_live gone fresh q =
    λ q d. ap (λ b. ltb q fresh && not (b || has gone q)) (ne_eqb q id d) in
    let dead : is_live (id ∷ gone) fresh id ≡ false =
    is_live_gone (id ∷ gone) fresh id (ap (λ b. b || has gone id) (eq-eqb id id refl)) in
    let now : live_map ms (free_ids ms (free + 1) id) fresh ≡ remove (live_map ns gone fresh) id =
    ap (λ is. live_map ms is fresh) kept ∙ live_map-set_dead ns gone (id ∷ gone) fresh fresh id x dead others in (
      record {
        apart = subst (λ is. AreApart is fresh) (sym kept) (a.0, a.1, ok.apart);
        begun = ok.begun;
        room = subst (λ n. limit ≤ n) (sym (length-set ns id x)) ok.room;
        small = subst (λ n. n ≤ 2 ^ 48 + 4096) (sym (length-set ns id x)) ok.small;
        count = omega (
          arith,
          ok.count,
          len-remove_live (live_map ns gone fresh) id c,
          ap (λ m. len m) now,
          len_live (live_map ns gone fresh) id c,
        );
      },
      now,
    )
  where
    -- a map with a key is not empty
    len_live : (m : Map) (k : ℕ) → contains_key m k ≡ true → 0 < len m
    len_live m k c = go (cases_eq (len m) 0)
      where
        go : (len m ≡ 0) ⊎ (len m ≢ 0) → 0 < len m
        go (inl e) =
            absurd (false≢true (sym (ap (λ o. is_some o) (ap (λ (w : Map). get w k) (empty_of_len m e)
            ∙ get-empty nat_cmp k)) ∙ c))
        go (inr n) = omega (arith, n)

-- nodes are added after the old ones, and more is promised
pub grows : (ns ms : List Node) (head free fresh limit limit' : ℕ) → take (length ns) ms ≡ ns → limit' ≤ length ms
    → fresh ≤ limit' → length ms ≤ 2 ^ 48 + 4096 → IsPool ns head free fresh limit
    → IsPool ms head free fresh limit'
    × (live_map ms (free_ids ms free head) fresh ≡ live_map ns (free_ids ns free head) fresh)
grows ns ms head free fresh limit limit' e fits more small ok =
    let gone = free_ids ns free head in
    let inside : fresh ≤ length ns = omega (arith, ok.begun, ok.room) in
    let kept : free_ids ms free head ≡ gone = free_ids-longer ns ms fresh free head e ok.apart inside in
    let now : live_map ms (free_ids ms free head) fresh ≡ live_map ns gone fresh =
    ap (λ is. live_map ms is fresh) kept ∙ live_map-longer ns ms gone fresh e inside in (
      record {
        apart = subst (λ is. AreApart is fresh) (sym kept) ok.apart;
        begun = more;
        room = fits;
        small = small;
        count = ap (λ m. free + len m) now ∙ ok.count;
      },
      now,
    )
