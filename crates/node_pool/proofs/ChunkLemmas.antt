-- Chunks of 4,096 nodes, read and written as one list.
use Rattle.std.proofs.Common.{◌≡◌, ℕ, zero, suc, ◌+◌, ◌-◌, ◌*◌, ◌/◌, ◌%◌, ◌<◌, List, [], ◌∷◌, ◌++◌, length, get_or, set, refl, sym, ap, ◌∙◌, arith, length-append}
use Rattle.std.proofs.Math.Nat.{div-add-mod}
use Rattle.std.proofs.lemmas.List.{get_or_append_left, get_or-append-add, set-append_left, set-append_right}
use Rattle.node_pool.specs.declared.Node.{Node}
use Rattle.node_pool.specs.Inner.Chunks.{blank, node_at, joined, AreWhole}

-- ---- whole chunks
pub length-joined : (cs : List (List Node)) → AreWhole cs → length (joined cs) ≡ length cs * 4096
length-joined [] w = refl
length-joined (c ∷ cs) w = omega (arith, length-append c (joined cs), w.0, length-joined cs w.1)

pub length-get_or_whole : (cs : List (List Node)) (k : ℕ) (d : List Node) → AreWhole cs → k < length cs
    → length (get_or cs k d) ≡ 4096
length-get_or_whole [] k d w p = absurd (omega arith)
length-get_or_whole (c ∷ cs) zero d w p = w.0
length-get_or_whole (c ∷ cs) (suc k) d w p = length-get_or_whole cs k d w.1 (omega arith)

pub AreWhole-set : (cs : List (List Node)) (k : ℕ) (c : List Node) → AreWhole cs → length c ≡ 4096
    → AreWhole (set cs k c)
AreWhole-set [] k c w e = tt
AreWhole-set (x ∷ cs) zero c w e = (e, w.1)
AreWhole-set (x ∷ cs) (suc k) c w e = (w.0, AreWhole-set cs k c w.1 e)

pub AreWhole-push : (cs : List (List Node)) (c : List Node) → AreWhole cs → length c ≡ 4096 → AreWhole (cs ++ c ∷ [])
AreWhole-push [] c w e = (e, tt)
AreWhole-push (x ∷ cs) c w e = (w.0, AreWhole-push cs c w.1 e)

pub joined-push : (cs : List (List Node)) (c : List Node) → joined (cs ++ c ∷ []) ≡ joined cs ++ c
joined-push [] c = append-nil c
  where
    append-nil : (xs : List Node) → xs ++ [] ≡ xs
    append-nil [] = refl
    append-nil (x ∷ xs) = ap (λ ys. x ∷ ys) (append-nil xs)
joined-push (x ∷ cs) c = ap (λ ys. x ++ ys) (joined-push cs c) ∙ sym (append-assoc x (joined cs) c)
  where
    append-assoc : (xs ys zs : List Node) → (xs ++ ys) ++ zs ≡ xs ++ (ys ++ zs)
    append-assoc [] ys zs = refl
    append-assoc (x ∷ xs) ys zs = ap (λ ws. x ∷ ws) (append-assoc xs ys zs)

-- ---- one place
-- the place j of the chunk k
node_at-joined-add : (cs : List (List Node)) (k j : ℕ) (d : List Node) → AreWhole cs → k < length cs → j < 4096
    → node_at (joined cs) (k * 4096 + j) ≡ node_at (get_or cs k d) j
node_at-joined-add [] k j d w p q = absurd (omega arith)
node_at-joined-add (c ∷ cs) zero j d w p q =
    let here : zero * 4096 + j ≡ j = omega arith in
    ap (λ i. node_at (c ++ joined cs) i) here ∙ get_or_append_left c (joined cs) blank j (omega (arith, w.0))
node_at-joined-add (c ∷ cs) (suc k) j d w p q =
    let there : suc k * 4096 + j ≡ length c + (k * 4096 + j) = omega (arith, w.0) in
    ap (λ i. node_at (c ++ joined cs) i) there ∙ get_or-append-add c (joined cs) (k * 4096 + j) blank
    ∙ node_at-joined-add cs k j d w.1 (omega arith) q

pub node_at-joined : (cs : List (List Node)) (id : ℕ) (d : List Node) → AreWhole cs → id / 4096 < length cs
    → id % 4096 < 4096 → node_at (joined cs) id ≡ node_at (get_or cs (id / 4096) d) (id % 4096)
node_at-joined cs id d w p q =
    let parts : id ≡ id / 4096 * 4096 + id % 4096 = omega (arith, div-add-mod id 4096) in
    ap (λ i. node_at (joined cs) i) parts ∙ node_at-joined-add cs (id / 4096) (id % 4096) d w p q

-- a node is written there
joined-set-add : (cs : List (List Node)) (k j : ℕ) (d : List Node) (x : Node) → AreWhole cs → k < length cs → j < 4096
    → joined (set cs k (set (get_or cs k d) j x)) ≡ set (joined cs) (k * 4096 + j) x
joined-set-add [] k j d x w p q = absurd (omega arith)
joined-set-add (c ∷ cs) zero j d x w p q =
    let here : zero * 4096 + j ≡ j = omega arith in
    sym (ap (λ i. set (c ++ joined cs) i x) here ∙ set-append_left c (joined cs) j x (omega (arith, w.0)))
joined-set-add (c ∷ cs) (suc k) j d x w p q =
    let at = suc k * 4096 + j in let less : at - 4096 ≡ k * 4096 + j = omega arith in
    ap (λ ys. c ++ ys) (joined-set-add cs k j d x w.1 (omega arith) q ∙ ap (λ i. set (joined cs) i x) (sym less))
    ∙ sym (set-append_right c (joined cs) 4096 at x w.0 (omega arith))

pub joined-set : (cs : List (List Node)) (id : ℕ) (d : List Node) (x : Node) → AreWhole cs → id / 4096 < length cs
    → id % 4096 < 4096
    → joined (set cs (id / 4096) (set (get_or cs (id / 4096) d) (id % 4096) x)) ≡ set (joined cs) id x
joined-set cs id d x w p q =
    let parts : id ≡ id / 4096 * 4096 + id % 4096 = omega (arith, div-add-mod id 4096) in
    joined-set-add cs (id / 4096) (id % 4096) d x w p q ∙ ap (λ i. set (joined cs) i x) (sym parts)

-- a place below the whole length is a place of a chunk
pub chunk_place : (cs : List (List Node)) (id : ℕ) → AreWhole cs → id < length (joined cs)
    → (id / 4096 < length cs) × (id % 4096 < 4096)
chunk_place cs id w p = (omega (arith, length-joined cs w, div-add-mod id 4096), omega arith)
