-- The map of a pool, and what each step makes of it.
--
-- The map is read key by key: a place below `fresh` that was not given back has the node that lies there
-- (`get-live_map`). So if a step writes one node and changes what is given back or fresh, the map changes at that
-- place alone (`live_map-set_live`, `live_map-set_dead`); the list of what was given back reads none but its own nodes
-- (`free_ids-set`), and neither sees what a growth adds (`free_ids-longer`, `live_map-longer`). The lemmas of the last
-- part give for each call of the pool its new invariant and its new map together.
use Rattle.std.proofs.Common.{◌≡◌, ℕ, zero, suc, ◌+◌, ◌-◌, ◌<◌, ◌≤◌, Bool, true, false, cond, not, ◌&&◌, ◌||◌, eqb, ltb, List, [], ◌∷◌, length, set, take, ◌⊎◌, inl, inr, Some, None, is_some, ◌≢◌, refl, sym, ap, ◌∙◌, arith}
use Rattle.std.proofs.lemmas.Bool.{eqb-false, eq-eqb, ne_eqb, cases_eq, cases_order, cases_Bool, lt-ltb, le-ltb, ltb-true, false≢true, or_parts}
use Rattle.std.proofs.lemmas.List.{get_or-set_same, get_or-set_other, get_or-take, length-take}
use Rattle.std.specs.Ordering.{nat_cmp, eq_by_cmp}
use Rattle.std.specs.Cmp.{unsigned_tied, nat_cmp_total}
use Rattle.std.specs.FinMap.{FinMap, insert, remove, get, len, contains_key, get-empty, get-insert, get-remove, len-insert, len-remove, same_map, nat_cmp-IsAntisymmetric}
use Rattle.node_pool.specs.declared.Node.{Node}
use Rattle.node_pool.specs.Inner.Chunks.{blank, node_at}
use Rattle.node_pool.specs.Inner.FreeList.{free_ids, has, live_map, AreApart}

abbrev pub Map : Type 0
Map = FinMap nat_cmp Node

-- ---- one entry of a map
eq_by_cmp_same : (q k : ℕ) → q ≡ k → eq_by_cmp nat_cmp q k ≡ true
eq_by_cmp_same q k e = unsigned_tied q k ∙ eq-eqb q k e

eq_by_cmp_other : (q k : ℕ) → q ≢ k → eq_by_cmp nat_cmp q k ≡ false
eq_by_cmp_other q k n = unsigned_tied q k ∙ ne_eqb q k n

get-insert_same : (m : Map) (k : ℕ) (x : Node) (q : ℕ) → q ≡ k → get (insert m k x) q ≡ Some x
get-insert_same m k x q e =
    get-insert nat_cmp_total m k x q ∙ ap (λ b. cond b (Some x) (get m q)) (eq_by_cmp_same q k e)

get-insert_other : (m : Map) (k : ℕ) (x : Node) (q : ℕ) → q ≢ k → get (insert m k x) q ≡ get m q
get-insert_other m k x q n =
    get-insert nat_cmp_total m k x q ∙ ap (λ b. cond b (Some x) (get m q)) (eq_by_cmp_other q k n)

get-remove_same : (m : Map) (k q : ℕ) → q ≡ k → get (remove m k) q ≡ None
get-remove_same m k q e = get-remove nat_cmp_total m k q ∙ ap (λ b. cond b None (get m q)) (eq_by_cmp_same q k e)

get-remove_other : (m : Map) (k q : ℕ) → q ≢ k → get (remove m k) q ≡ get m q
get-remove_other m k q n = get-remove nat_cmp_total m k q ∙ ap (λ b. cond b None (get m q)) (eq_by_cmp_other q k n)

-- maps with the same entries are equal
same_nodes : (m n : Map) → ((q : ℕ) → get m q ≡ get n q) → m ≡ n
same_nodes m n h = same_map nat_cmp_total nat_cmp-IsAntisymmetric m n h

-- ---- the map, place by place
-- whether the place q has a node: it is below n, and not given back
abbrev pub is_live : List ℕ → ℕ → ℕ → Bool
is_live gone n q = ltb q n && not (has gone q)

is_live_only : (gone : List ℕ) (n q : ℕ) → is_live gone n q ≡ true → (q < n) × (has gone q ≡ false)
is_live_only gone n q e = go (ltb q n) (has gone q) refl refl e
  where
    go : (b c : Bool) → ltb q n ≡ b → has gone q ≡ c → (b && not c) ≡ true → (q < n) × (has gone q ≡ false)
    go true false p r e = (ltb-true q n p, r)
    go true true p r e = absurd (false≢true e)
    go false c p r e = absurd (false≢true e)

pub is_live_if : (gone : List ℕ) (n q : ℕ) → q < n → has gone q ≡ false → is_live gone n q ≡ true
is_live_if gone n q p r = λ i. lt-ltb q n p i && not (r i)

pub is_live_above : (gone : List ℕ) (n q : ℕ) → n ≤ q → is_live gone n q ≡ false
is_live_above gone n q p = ap (λ b. b && not (has gone q)) (le-ltb q n p)

pub is_live_gone : (gone : List ℕ) (n q : ℕ) → has gone q ≡ true → is_live gone n q ≡ false
is_live_gone gone n q r = ap (λ c. ltb q n && not c) r ∙ and_false (ltb q n)
  where
    and_false : (b : Bool) → (b && false) ≡ false
    and_false true = refl
    and_false false = refl

-- one step of the map's definition, at another place
get-cond_other : (b : Bool) (m : Map) (k : ℕ) (x : Node) (q : ℕ) → q ≢ k → get (cond b m (insert m k x)) q ≡ get m q
get-cond_other true m k x q n = refl
get-cond_other false m k x q n = get-insert_other m k x q n

-- a place that is live has the node that lies there, another none
get-live_map : (ns : List Node) (gone : List ℕ) (n q : ℕ)
    → get (live_map ns gone n) q ≡ cond (is_live gone n q) (Some (node_at ns q)) None
get-live_map ns gone zero q =
    get-empty nat_cmp q ∙ sym (ap (λ b. cond b (Some (node_at ns q)) None) (is_live_above gone zero q (omega arith)))
get-live_map ns gone (suc k) q = at (get-live_map ns gone k q) (cases_eq q k)
  where
    here : get (live_map ns gone k) q ≡ cond (is_live gone k q) (Some (node_at ns q)) None → q ≡ k → (b : Bool)
        → has gone k ≡ b
        → get (cond b (live_map ns gone k) (insert (live_map ns gone k) k (node_at ns k))) q
        ≡ cond (is_live gone (suc k) q) (Some (node_at ns q)) None
    here rest e true r =
        rest ∙ ap (λ b. cond b (Some (node_at ns q)) None)
        (is_live_gone gone k q (ap (λ j. has gone j) e ∙ r)
        ∙ sym (is_live_gone gone (suc k) q (ap (λ j. has gone j) e ∙ r)))
    here rest e false r =
        get-insert_same (live_map ns gone k) k (node_at ns k) q e ∙ ap (λ j. Some (node_at ns j)) (sym e)
        ∙ sym (ap (λ b. cond b (Some (node_at ns q)) None)
        (is_live_if gone (suc k) q (omega (arith, e)) (ap (λ j. has gone j) e ∙ r)))

    less : (q ≡ k) ⊎ ((q < k) ⊎ (k < q)) → q ≢ k → is_live gone k q ≡ is_live gone (suc k) q
    less (inl e) n = absurd (n e)
    less (inr (inl p)) n = ap (λ b. b && not (has gone q)) (lt-ltb q k p ∙ sym (lt-ltb q (suc k) (omega (arith, p))))
    less (inr (inr p)) n =
        is_live_above gone k q (omega (arith, p)) ∙ sym (is_live_above gone (suc k) q (omega (arith, p)))

    at : get (live_map ns gone k) q ≡ cond (is_live gone k q) (Some (node_at ns q)) None → (q ≡ k) ⊎ (q ≢ k)
        → get (live_map ns gone (suc k)) q ≡ cond (is_live gone (suc k) q) (Some (node_at ns q)) None
    at rest (inl e) = here rest e (has gone k) refl
    at rest (inr n) = get-cond_other (has gone k) (live_map ns gone k) k (node_at ns k) q n ∙ rest
        ∙ ap (λ b. cond b (Some (node_at ns q)) None) (less (cases_order q k) n)

-- a key of the map is a live place
pub live_place : (ns : List Node) (gone : List ℕ) (n q : ℕ) → contains_key (live_map ns gone n) q ≡ true
    → (q < n) × (has gone q ≡ false)
live_place ns gone n q c = go (cases_Bool (is_live gone n q))
  where
    go : (is_live gone n q ≡ true) ⊎ (is_live gone n q ≡ false) → (q < n) × (has gone q ≡ false)
    go (inl e) = is_live_only gone n q e
    go (inr e) =
        absurd (false≢true (sym (ap (λ o. is_some o) (get-live_map ns gone n q
        ∙ ap (λ b. cond b (Some (node_at ns q)) None) e)) ∙ c))

pub get-live_map_live : (ns : List Node) (gone : List ℕ) (n q : ℕ) → (q < n) × (has gone q ≡ false)
    → get (live_map ns gone n) q ≡ Some (node_at ns q)
get-live_map_live ns gone n q a =
    get-live_map ns gone n q ∙ ap (λ b. cond b (Some (node_at ns q)) None) (is_live_if gone n q a.0 a.1)

pub get-live_map_dead : (ns : List Node) (gone : List ℕ) (n q : ℕ) → is_live gone n q ≡ false
    → get (live_map ns gone n) q ≡ None
get-live_map_dead ns gone n q e = get-live_map ns gone n q ∙ ap (λ b. cond b (Some (node_at ns q)) None) e

-- ---- one node is written
-- if its place is live afterwards, the map has it there
pub live_map-set_live : (ns : List Node) (gone gone' : List ℕ) (n n' id : ℕ) (x : Node) → id < length ns
    → is_live gone' n' id ≡ true → ((q : ℕ) → q ≢ id → is_live gone' n' q ≡ is_live gone n q)
    → live_map (set ns id x) gone' n' ≡ insert (live_map ns gone n) id x
live_map-set_live ns gone gone' n n' id x inside a same = same_nodes _ _ (λ q. at q (cases_eq q id))
  where
    at : (q : ℕ) → (q ≡ id) ⊎ (q ≢ id)
        → get (live_map (set ns id x) gone' n') q ≡ get (insert (live_map ns gone n) id x) q
    at q (inl e) =
        get-live_map (set ns id x) gone' n' q
        ∙ ap (λ b. cond b (Some (node_at (set ns id x) q)) None) (ap (λ j. is_live gone' n' j) e ∙ a)
        ∙ ap (λ j. Some (node_at (set ns id x) j)) e ∙ ap (λ y. Some y) (get_or-set_same ns id x blank inside)
        ∙ sym (get-insert_same (live_map ns gone n) id x q e)
    at q (inr d) =
        get-live_map (set ns id x) gone' n' q ∙ ap (λ b. cond b (Some (node_at (set ns id x) q)) None) (same q d)
        ∙ ap (λ y. cond (is_live gone n q) (Some y) None) (get_or-set_other ns id q x blank d)
        ∙ sym (get-insert_other (live_map ns gone n) id x q d ∙ get-live_map ns gone n q)

-- if its place is not, the map has nothing there
pub live_map-set_dead : (ns : List Node) (gone gone' : List ℕ) (n n' id : ℕ) (x : Node) → is_live gone' n' id ≡ false
    → ((q : ℕ) → q ≢ id → is_live gone' n' q ≡ is_live gone n q)
    → live_map (set ns id x) gone' n' ≡ remove (live_map ns gone n) id
live_map-set_dead ns gone gone' n n' id x a same = same_nodes _ _ (λ q. at q (cases_eq q id))
  where
    at : (q : ℕ) → (q ≡ id) ⊎ (q ≢ id)
        → get (live_map (set ns id x) gone' n') q ≡ get (remove (live_map ns gone n) id) q
    at q (inl e) = get-live_map_dead (set ns id x) gone' n' q (ap (λ j. is_live gone' n' j) e ∙ a)
        ∙ sym (get-remove_same (live_map ns gone n) id q e)
    at q (inr d) =
        get-live_map (set ns id x) gone' n' q ∙ ap (λ b. cond b (Some (node_at (set ns id x) q)) None) (same q d)
        ∙ ap (λ y. cond (is_live gone n q) (Some y) None) (get_or-set_other ns id q x blank d)
        ∙ sym (get-remove_other (live_map ns gone n) id q d ∙ get-live_map ns gone n q)

-- ---- the places that were given back

-- their list reads no node but their own
pub free_ids-set : (ns : List Node) (n h id : ℕ) (x : Node) → has (free_ids ns n h) id ≡ false
    → free_ids (set ns id x) n h ≡ free_ids ns n h
free_ids-set ns zero h id x r = refl
free_ids-set ns (suc n) h id x r =
    let parts = or_parts (eqb id h) (has (free_ids ns n (node_at ns h).next_out) id) r in
    let read : node_at (set ns id x) h ≡ node_at ns h =
    get_or-set_other ns id h x blank (λ e. eqb-false id h parts.0 (sym e)) in
    ap (λ is. h ∷ is) (ap (λ y. free_ids (set ns id x) n y.next_out) read
    ∙ free_ids-set ns n (node_at ns h).next_out id x parts.1)

-- ---- a list that begins with the old one
-- it has the old nodes
node_at-longer : (ns ms : List Node) → take (length ns) ms ≡ ns → (k : ℕ) → k < length ns → node_at ms k ≡ node_at ns k
node_at-longer ns ms e k p = sym (get_or-take (length ns) ms k blank p) ∙ ap (λ xs. node_at xs k) e

-- the same places were given back
pub free_ids-longer : (ns ms : List Node) (m n h : ℕ) → take (length ns) ms ≡ ns → AreApart (free_ids ns n h) m
    → m ≤ length ns → free_ids ms n h ≡ free_ids ns n h
free_ids-longer ns ms m zero h e a p = refl
free_ids-longer ns ms m (suc n) h e a p =
    ap (λ is. h ∷ is) (ap (λ y. free_ids ms n y.next_out) (node_at-longer ns ms e h (omega (arith, a.0)))
    ∙ free_ids-longer ns ms m n (node_at ns h).next_out e a.2 p)

-- the map is the same
pub live_map-longer : (ns ms : List Node) (gone : List ℕ) (n : ℕ) → take (length ns) ms ≡ ns → n ≤ length ns
    → live_map ms gone n ≡ live_map ns gone n
live_map-longer ns ms gone zero e p = refl
live_map-longer ns ms gone (suc k) e p =
    let rest : live_map ms gone k ≡ live_map ns gone k = live_map-longer ns ms gone k e (omega (arith, p)) in
    let last : node_at ms k ≡ node_at ns k = node_at-longer ns ms e k (omega (arith, p)) in
    λ i. cond (has gone k) (rest i) (insert (rest i) k (last i))

-- it is no shorter
pub length-longer : (ns ms : List Node) → take (length ns) ms ≡ ns → length ns ≤ length ms
length-longer ns ms e = omega (arith, length-take (length ns) ms, ap (λ xs. length xs) e)

-- ---- places that are apart
pub AreApart-more : (is : List ℕ) (m n : ℕ) → m ≤ n → AreApart is m → AreApart is n
AreApart-more [] m n p a = tt
AreApart-more (x ∷ is) m n p a = (omega (arith, a.0), a.1, AreApart-more is m n p a.2)

-- none of them is at the bound or above
pub has_above : (is : List ℕ) (m q : ℕ) → AreApart is m → m ≤ q → has is q ≡ false
has_above [] m q a p = refl
has_above (x ∷ is) m q a p = ap (λ b. b || has is q) (ne_eqb q x (λ e. omega (arith, e, a.0))) ∙ has_above is m q a.2 p

-- ---- the number of entries
-- of a key that the map does not have
pub len-insert_new : (m : Map) (k : ℕ) (x : Node) → get m k ≡ None → len (insert m k x) ≡ len m + 1
len-insert_new m k x e = len-insert nat_cmp_total m k x ∙ ap (λ o. cond (is_some o) (len m) (len m + 1)) e

-- of a key that it has
pub len-insert_live : (m : Map) (k : ℕ) (x : Node) → contains_key m k ≡ true → len (insert m k x) ≡ len m
len-insert_live m k x e = len-insert nat_cmp_total m k x ∙ ap (λ b. cond b (len m) (len m + 1)) e

pub len-remove_live : (m : Map) (k : ℕ) → contains_key m k ≡ true → len (remove m k) ≡ len m - 1
len-remove_live m k e = len-remove nat_cmp_total m k ∙ ap (λ b. cond b (len m - 1) (len m)) e
