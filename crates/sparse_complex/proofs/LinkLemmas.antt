-- Putting a node in and taking one out keeps the lists of all keys.
use Rattle.std.proofs.Common.{◌≡◌, ℕ, zero, suc, ◌-◌, ◌<◌, ◌≤◌, Bool, true, false, not, cond, ◌&&◌, ◌||◌, eqb, List, [], ◌∷◌, length, get_or, set, length-set, get_or-set_same, get_or-set_other, Some, None, is_some, refl, sym, ap, ◌∙◌, arith, nat_cmp}
use Rattle.std.specs.Cmp.{nat_cmp_total, unsigned_tied}
use Rattle.std.specs.FinMap as fin
use Rattle.std.proofs.lemmas.Bool.{eqb-true, ne_eqb, eq-eqb, true≢false, and_parts, and_from}
use Rattle.node_pool.specs.declared.Node.{Node}
use Rattle.sparse_complex.specs.declared.links.Head.{Head}
use Rattle.sparse_complex.specs.Inner.Lists.{Nodes, no_id, among, AreDistinct, node_of, node_at, is_node, no_head, head_at, ids_from, AreLists, with_node}
use Rattle.sparse_complex.proofs.ListLemmas.{in_head, in_tail, ids_from-list}
use Rattle.sparse_complex.proofs.ThreadLemmas.{members-ids}

-- ---- the map of nodes
pub ap-cond : {A B : Type 0} (f : A → B) (b : Bool) (x y : A) → f (cond b x y) ≡ cond b (f x) (f y)
ap-cond f true x y = refl
ap-cond f false x y = refl

pub node_at-insert : (nodes : Nodes) (j : ℕ) (n : Node) (i : ℕ)
    → node_at (fin.insert nodes j n) i ≡ cond (eqb i j) n (node_at nodes i)
unfolding node_at
node_at-insert nodes j n i =
    ap node_of (fin.get-insert nat_cmp_total nodes j n i)
    ∙ ap (λ b. node_of (cond b (Some n) (fin.get nodes i))) (unsigned_tied i j)
    ∙ ap-cond node_of (eqb i j) (Some n) (fin.get nodes i)

pub is_node-insert : (nodes : Nodes) (j : ℕ) (n : Node) (i : ℕ)
    → is_node (fin.insert nodes j n) i ≡ (eqb i j || is_node nodes i)
unfolding is_node
is_node-insert nodes j n i =
    ap is_some (fin.get-insert nat_cmp_total nodes j n i)
    ∙ ap (λ b. is_some (cond b (Some n) (fin.get nodes i))) (unsigned_tied i j)
    ∙ by (eqb i j)
  where
    by : (b : Bool) → is_some (cond b (Some n) (fin.get nodes i)) ≡ (b || is_some (fin.get nodes i))
    by true = refl
    by false = refl

pub node_at-remove : (nodes : Nodes) (j i : ℕ) → eqb i j ≡ false → node_at (fin.remove nodes j) i ≡ node_at nodes i
unfolding node_at
node_at-remove nodes j i e = ap node_of (fin.get-remove nat_cmp_total nodes j i)
    ∙ ap (λ b. node_of (cond b None (fin.get nodes i))) (unsigned_tied i j ∙ e)

pub is_node-remove : (nodes : Nodes) (j i : ℕ) → is_node (fin.remove nodes j) i ≡ (is_node nodes i && not (eqb i j))
unfolding is_node
is_node-remove nodes j i = ap is_some (fin.get-remove nat_cmp_total nodes j i)
    ∙ ap (λ b. is_some (cond b None (fin.get nodes i))) (unsigned_tied i j)
    ∙ by (eqb i j) (is_some (fin.get nodes i)) refl
  where
    by : (b c : Bool) → is_some (fin.get nodes i) ≡ c
        → is_some (cond b None (fin.get nodes i)) ≡ (is_some (fin.get nodes i) && not b)
    by true true e = sym (ap (λ c. c && false) e)
    by true false e = sym (ap (λ c. c && false) e)
    by false true e = e ∙ sym (ap (λ c. c && true) e)
    by false false e = e ∙ sym (ap (λ c. c && true) e)

-- what the code reads at an id
pub node_is : (nodes : Nodes) (i : ℕ) (n : Node) → fin.get nodes i ≡ Some n → node_at nodes i ≡ n
unfolding node_at
node_is nodes i n e = ap node_of e

-- ids that are apart are no more than the nodes
pub one_less : (nodes : Nodes) (x : ℕ) → is_node nodes x ≡ true → suc (fin.len (fin.remove nodes x)) ≡ fin.len nodes
unfolding is_node
one_less nodes x h = by (fin.len nodes) refl
  where
    by : (k : ℕ) → fin.len nodes ≡ k → suc (fin.len (fin.remove nodes x)) ≡ fin.len nodes
    by zero e =
        absurd (true≢false (sym h ∙ ap is_some (ap (λ m. fin.get m x) (fin.empty_of_len nodes e)
        ∙ fin.get-empty nat_cmp x)))
    by (suc k) e =
        let less : fin.len (fin.remove nodes x) ≡ fin.len nodes - 1 =
        fin.len-remove nat_cmp_total nodes x ∙ ap (λ b. cond b (fin.len nodes - 1) (fin.len nodes)) h in
        omega arith

pub distinct_length : (is : List ℕ) (nodes : Nodes) → AreDistinct is
    → ((i : ℕ) → among i is ≡ true → is_node nodes i ≡ true) → length is ≤ fin.len nodes
distinct_length [] nodes a m = omega arith
distinct_length (x ∷ is) nodes a m =
    let rest =
    distinct_length is (fin.remove nodes x) a.1
    (λ i h. is_node-remove nodes x i
    ∙ and_from (is_node nodes i) (not (eqb i x)) (m i (in_tail i x is h))
    (ap not (ne_eqb i x (λ e. true≢false (sym h ∙ ap (λ j. among j is) e ∙ a.0))))) in
    let less : suc (fin.len (fin.remove nodes x)) ≡ fin.len nodes = one_less nodes x (m x (in_head x is)) in
    omega arith

-- the chain of a list gives its ids
pub thread-ids_from : (nodes : Nodes) (key next prev : ℕ → ℕ) (width : ℕ) (head : ℕ → ℕ) (lists : ℕ → List ℕ)
    (t : AreLists (is_node nodes) key next prev width head lists)
    (ids : (i : ℕ) → is_node nodes i ≡ true → eqb i no_id ≡ false)
    (k : ℕ) → ids_from next (fin.len nodes) (head k) ≡ lists k
thread-ids_from nodes key next prev width head lists t ids k =
    ids_from-list next prev (lists k) no_id (head k) (fin.len nodes) (t.linked k)
    (members-ids (is_node nodes) key next prev width head lists t ids k)
    (distinct_length (lists k) nodes (t.distinct k)
    (λ i m. (and_parts (is_node nodes i) (eqb (key i) k) (sym (t.members k i) ∙ m)).0))

-- ---- one write
module _ (nodes : Nodes) (at : ℕ) (n : Node) where
  -- of a field that is written
  pub field-with_node : (f : Node → ℕ) (i : ℕ) → eqb i no_id ≡ false
      → f (node_at (with_node nodes at n) i) ≡ cond (eqb i at) (f n) (f (node_at nodes i))
  field-with_node f i ne = by (eqb at no_id) refl
    where
      by : (b : Bool) → eqb at no_id ≡ b
          → f (node_at (cond b nodes (fin.insert nodes at n)) i) ≡ cond (eqb i at) (f n) (f (node_at nodes i))
      by true e = sym (ap (λ b. cond b (f n) (f (node_at nodes i))) (ap (eqb i) (eqb-true at no_id e) ∙ ne))
      by false e = ap f (node_at-insert nodes at n i) ∙ ap-cond f (eqb i at) n (node_at nodes i)

  -- of one that is not
  pub field-same : (f : Node → ℕ) → f n ≡ f (node_at nodes at) → (i : ℕ) → eqb i no_id ≡ false
      → f (node_at (with_node nodes at n) i) ≡ f (node_at nodes i)
  field-same f e i ne = field-with_node f i ne ∙ by (eqb i at) refl
    where
      by : (b : Bool) → eqb i at ≡ b → cond b (f n) (f (node_at nodes i)) ≡ f (node_at nodes i)
      by true h = e ∙ ap (λ j. f (node_at nodes j)) (sym (eqb-true i at h))
      by false h = refl

  -- no node comes or goes
  pub is_node-with_node : (eqb at no_id ≡ false → is_node nodes at ≡ true) → (i : ℕ)
      → is_node (with_node nodes at n) i ≡ is_node nodes i
  is_node-with_node ok i = by (eqb at no_id) refl
    where
      by : (b : Bool) → eqb at no_id ≡ b → is_node (cond b nodes (fin.insert nodes at n)) i ≡ is_node nodes i
      by true e = refl
      by false e = is_node-insert nodes at n i ∙ or (eqb i at) refl
        where
          or : (b : Bool) → eqb i at ≡ b → (b || is_node nodes i) ≡ is_node nodes i
          or true h = sym (ap (is_node nodes) (eqb-true i at h) ∙ ok e)
          or false h = refl

-- ---- the heads
head_at-set : (heads : List Head) (k : ℕ) (h : Head) (j : ℕ) → k < length heads
    → head_at (set heads k h) j ≡ cond (eqb j k) h (head_at heads j)
unfolding head_at
head_at-set heads k h j l = by (eqb j k) refl
  where
    by : (b : Bool) → eqb j k ≡ b → get_or (set heads k h) j no_head ≡ cond b h (get_or heads j no_head)
    by true e = ap (λ i. get_or (set heads k h) i no_head) (eqb-true j k e) ∙ get_or-set_same heads k h no_head l
    by false e = get_or-set_other heads k j h no_head (λ q. true≢false (sym (eq-eqb j k q) ∙ e))

module _ (heads : List Head) (at k : ℕ) (h : Head) (l : k < length heads) where
  pub first-with : (f : Head → ℕ) (j : ℕ)
      → f (head_at (cond (eqb at no_id) (set heads k h) heads) j)
      ≡ cond (eqb at no_id && eqb j k) (f h) (f (head_at heads j))
  first-with f j = by (eqb at no_id)
    where
      by : (b : Bool) → f (head_at (cond b (set heads k h) heads) j) ≡ cond (b && eqb j k) (f h) (f (head_at heads j))
      by true = ap f (head_at-set heads k h j l) ∙ ap-cond f (eqb j k) h (head_at heads j)
      by false = refl

  pub first-same : (f : Head → ℕ) → f h ≡ f (head_at heads k) → (j : ℕ)
      → f (head_at (cond (eqb at no_id) (set heads k h) heads) j) ≡ f (head_at heads j)
  first-same f e j = first-with f j ∙ by (eqb at no_id) (eqb j k) refl
    where
      by : (a b : Bool) → eqb j k ≡ b → cond (a && b) (f h) (f (head_at heads j)) ≡ f (head_at heads j)
      by true true q = e ∙ ap (λ i. f (head_at heads i)) (sym (eqb-true j k q))
      by true false q = refl
      by false b q = refl

  pub length-with : length (cond (eqb at no_id) (set heads k h) heads) ≡ length heads
  length-with = by (eqb at no_id)
    where
      by : (b : Bool) → length (cond b (set heads k h) heads) ≡ length heads
      by true = length-set heads k h
      by false = refl
