-- What the code writes.
use Rattle.std.proofs.Common.{◌≡◌, ℕ, zero, suc, ◌<◌, Bool, true, false, cond, ◌||◌, eqb, List, [], ◌∷◌, length, get_or, set, None, is_some, refl, sym, ap, subst, ◌∙◌, arith}
use Rattle.std.specs.FinMap as fin
use Rattle.std.proofs.lemmas.Bool.{ne_eqb, eq-eqb}
use Rattle.node_pool.specs.declared.Node.{Node}
use Rattle.sparse_complex.specs.declared.links.Head.{Head}
use Rattle.sparse_complex.specs.Inner.Lists.{Nodes, no_id, node_at, is_node, no_head, head_at, AreInLists, with_node, with_next_out, with_prev_out, with_next_in, with_prev_in, with_first_out, with_first_in, unlinked_nodes, unlinked_heads, new_node, linked_nodes, linked_heads}
use Rattle.sparse_complex.proofs.ThreadLemmas.{next-live, prev-live, head-live}
use Rattle.sparse_complex.proofs.LinkLemmas.{is_node-insert, is_node-with_node, length-with}
use Rattle.sparse_complex.proofs.UnlinkLemmas.{n}

-- a node that is written at an id
pub with_node-is : (nodes : Nodes) (at : ℕ) (m n : Node) → (at ≡ no_id → ⊥) → m ≡ n
    → fin.insert nodes at m ≡ with_node nodes at n
with_node-is nodes at m n none e =
    ap (fin.insert nodes at) e ∙ sym (ap (λ b. cond b nodes (fin.insert nodes at n)) (ne_eqb at no_id none))

-- at no id nothing is written
with_node-none : (nodes : Nodes) (at : ℕ) (n : Node) → at ≡ no_id → nodes ≡ with_node nodes at n
with_node-none nodes at n e = sym (ap (λ b. cond b nodes (fin.insert nodes at n)) (eq-eqb at no_id e))

pub first-is : (heads : List Head) (at k : ℕ) (g h : Head) → at ≡ no_id → g ≡ h
    → set heads k g ≡ cond (eqb at no_id) (set heads k h) heads
first-is heads at k g h e f = ap (set heads k) f ∙ sym (ap (λ b. cond b (set heads k h) heads) (eq-eqb at no_id e))

pub first-none : (heads : List Head) (at k : ℕ) (h : Head) → (at ≡ no_id → ⊥)
    → heads ≡ cond (eqb at no_id) (set heads k h) heads
first-none heads at k h none = sym (ap (λ b. cond b (set heads k h) heads) (ne_eqb at no_id none))

-- a node that the pool has is one
pub is_node-contains : (nodes : Nodes) (i : ℕ) → is_node nodes i ≡ true → fin.contains_key nodes i ≡ true
unfolding is_node
is_node-contains nodes i h = h

contains-is_node : (nodes : Nodes) (i : ℕ) → fin.contains_key nodes i ≡ true → is_node nodes i ≡ true
unfolding is_node
contains-is_node nodes i h = h

-- an id that has no node
pub none_is_node : (nodes : Nodes) (i : ℕ) → fin.get nodes i ≡ None → is_node nodes i ≡ false
unfolding is_node
none_is_node nodes i h = ap is_some h

-- what the code reads at a key
get_or-default : (heads : List Head) (k : ℕ) (d e : Head) → k < length heads → get_or heads k d ≡ get_or heads k e
get_or-default [] k d e l = absurd (omega arith)
get_or-default (x ∷ heads) zero d e l = refl
get_or-default (x ∷ heads) (suc k) d e l = get_or-default heads k d e (omega arith)

pub head_is : (heads : List Head) (k : ℕ) (h : Head) → k < length heads → h ≡ get_or heads k h → head_at heads k ≡ h
unfolding head_at
head_is heads k h l e = get_or-default heads k no_head h l ∙ sym e

-- the nodes after each write of taking out the node m
abbrev after_1 : Nodes → Node → Nodes
after_1 nodes m = with_next_out nodes m.prev_out m.next_out

abbrev after_2 : Nodes → Node → Nodes
after_2 nodes m = with_prev_out (after_1 nodes m) m.next_out m.prev_out

abbrev after_3 : Nodes → Node → Nodes
after_3 nodes m = with_next_in (after_2 nodes m) m.prev_in m.next_in

abbrev after_4 : Nodes → Node → Nodes
after_4 nodes m = with_prev_in (after_3 nodes m) m.next_in m.prev_in

-- each write goes to a node that is there
pub record CanUnlink (nodes : Nodes) (heads : List Head) (id : ℕ) (m : Node) : Type 0 where
  pub from_in : m.from < length heads
  pub to_in : m.to < length (with_first_out heads m.prev_out m.from m.next_out)
  pub write_1 : eqb m.prev_out no_id ≡ false → is_node nodes m.prev_out ≡ true
  pub write_2 : eqb m.next_out no_id ≡ false → is_node (after_1 nodes m) m.next_out ≡ true
  pub write_3 : eqb m.prev_in no_id ≡ false → is_node (after_2 nodes m) m.prev_in ≡ true
  pub write_4 : eqb m.next_in no_id ≡ false → is_node (after_3 nodes m) m.next_in ≡ true
  pub give : is_node (after_4 nodes m) id ≡ true

pub can_unlink : (nodes : Nodes) (heads : List Head) (t : AreInLists nodes heads) (id : ℕ)
    (here : is_node nodes id ≡ true) (m : Node) → node_at nodes id ≡ m → CanUnlink nodes heads id m
can_unlink nodes heads t id here m e =
    let n = node_at nodes id in
    let w1 : eqb (node_at nodes id).prev_out no_id ≡ false → is_node nodes (node_at nodes id).prev_out ≡ true =
    prev-live _ _ _ _ _ _ _ t.out_lists t.ids id here in
    let l1 = is_node-with_node nodes n.prev_out (record (node_at nodes n.prev_out) { next_out = n.next_out }) w1 in
    let w2 : eqb (node_at nodes id).next_out no_id ≡ false
    → is_node (after_1 nodes (node_at nodes id)) (node_at nodes id).next_out ≡ true =
    λ z. l1 n.next_out ∙ next-live _ _ _ _ _ _ _ t.out_lists t.ids id here z in
    let l2 = is_node-with_node (after_1 nodes n) n.next_out
    (record (node_at (after_1 nodes n) n.next_out) { prev_out = n.prev_out }) w2 in
    let w3 : eqb (node_at nodes id).prev_in no_id ≡ false
    → is_node (after_2 nodes (node_at nodes id)) (node_at nodes id).prev_in ≡ true =
    λ z. l2 n.prev_in ∙ l1 n.prev_in ∙ prev-live _ _ _ _ _ _ _ t.in_lists t.ids id here z in
    let l3 = is_node-with_node (after_2 nodes n) n.prev_in
    (record (node_at (after_2 nodes n) n.prev_in) { next_in = n.next_in }) w3 in
    let w4 : eqb (node_at nodes id).next_in no_id ≡ false
    → is_node (after_3 nodes (node_at nodes id)) (node_at nodes id).next_in ≡ true =
    λ z. l3 n.next_in ∙ l2 n.next_in ∙ l1 n.next_in ∙ next-live _ _ _ _ _ _ _ t.in_lists t.ids id here z in
    let l4 = is_node-with_node (after_3 nodes n) n.next_in
    (record (node_at (after_3 nodes n) n.next_in) { prev_in = n.prev_in }) w4 in
    subst (CanUnlink nodes heads id) e (record {
      from_in = t.out_lists.bounded id here;
      to_in = subst (λ w. n.to < w) (sym (length-with heads n.prev_out n.from
          (record (head_at heads n.from) { first_out = n.next_out }) (t.out_lists.bounded id here)))
          (t.in_lists.bounded id here);
      write_1 = w1;
      write_2 = w2;
      write_3 = w3;
      write_4 = w4;
      give = l4 id ∙ l3 id ∙ l2 id ∙ l1 id ∙ here;
    })

-- the heads after the writes
abbrev heads_1 : List Head → Node → List Head
heads_1 heads m = with_first_out heads m.prev_out m.from m.next_out

pub unlinked_nodes-is : (nodes : Nodes) (id : ℕ) (m : Node) → node_at nodes id ≡ m
    → fin.remove (after_4 nodes m) id ≡ unlinked_nodes nodes id
unfolding unlinked_nodes
unlinked_nodes-is nodes id m e = ap (λ n. fin.remove (after_4 nodes n) id) (sym e)

pub unlinked_heads-is : (nodes : Nodes) (heads : List Head) (id : ℕ) (m : Node) → node_at nodes id ≡ m
    → with_first_in (heads_1 heads m) m.prev_in m.to m.next_in ≡ unlinked_heads nodes heads id
unfolding unlinked_heads
unlinked_heads-is nodes heads id m e = ap (λ n. with_first_in (heads_1 heads n) n.prev_in n.to n.next_in) (sym e)

-- nodes and heads that are told to be others
pub AreInLists-same : (nodes nodes' : Nodes) (heads heads' : List Head) → nodes' ≡ nodes → heads' ≡ heads
    → AreInLists nodes heads → AreInLists nodes' heads'
AreInLists-same nodes nodes' heads heads' e f t =
    subst (λ (s : Nodes × List Head). AreInLists s.0 s.1) (λ i. (sym e i, sym f i)) t

-- the head of a key is a node or no id, also in a map with one node more
head-ok-out : (nodes : Nodes) (heads : List Head) (t : AreInLists nodes heads) (k : ℕ)
    → eqb (head_at heads k).first_out no_id ≡ false → is_node nodes (head_at heads k).first_out ≡ true
head-ok-out nodes heads t k e = (head-live _ _ _ _ _ _ _ t.out_lists t.ids k e).0

head-ok-in : (nodes : Nodes) (heads : List Head) (t : AreInLists nodes heads) (k : ℕ)
    → eqb (head_at heads k).first_in no_id ≡ false → is_node nodes (head_at heads k).first_in ≡ true
head-ok-in nodes heads t k e = (head-live _ _ _ _ _ _ _ t.in_lists t.ids k e).0

is_node-put : (nodes : Nodes) (id : ℕ) (n : Node) (i : ℕ) → is_node nodes i ≡ true
    → is_node (fin.insert nodes id n) i ≡ true
is_node-put nodes id n i l = is_node-insert nodes id n i ∙ ap (λ b. eqb i id || b) l ∙ either (eqb i id)
  where
    either : (b : Bool) → (b || true) ≡ true
    either true = refl
    either false = refl

-- the nodes when the node of the heads h and g is put in
abbrev pub put_in : Nodes → ℕ → Head → Head → ℕ → ℕ → Nodes
put_in nodes id h g p q =
    fin.insert nodes id (record {
      from = p;
      to = q;
      next_out = h.first_out;
      prev_out = no_id;
      next_in = g.first_in;
      prev_in = no_id;
    })

pub record CanLink (nodes : Nodes) (id p q : ℕ) (h g : Head) : Type 0 where
  pub write_1 : eqb h.first_out no_id ≡ false → is_node (put_in nodes id h g p q) h.first_out ≡ true
  pub write_2 : eqb g.first_in no_id ≡ false
      → is_node (with_prev_out (put_in nodes id h g p q) h.first_out id) g.first_in ≡ true

pub can_link : (nodes : Nodes) (heads : List Head) (t : AreInLists nodes heads) (id p q : ℕ) (h g : Head)
    → head_at heads p ≡ h → head_at heads q ≡ g → CanLink nodes id p q h g
can_link nodes heads t id p q h g e f =
    let n = new_node heads p q in
    let w1 : eqb (head_at heads p).first_out no_id ≡ false
    → is_node (fin.insert nodes id (new_node heads p q)) (head_at heads p).first_out ≡ true =
    λ z. is_node-put nodes id n _ (head-ok-out nodes heads t p z) in
    let l1 = is_node-with_node (fin.insert nodes id n) (head_at heads p).first_out
    (record (node_at (fin.insert nodes id n) (head_at heads p).first_out) { prev_out = id }) w1 in
    let w2 : eqb (head_at heads q).first_in no_id ≡ false
    → is_node (with_prev_out (fin.insert nodes id (new_node heads p q)) (head_at heads p).first_out id)
    (head_at heads q).first_in ≡ true =
    λ z. l1 _ ∙ is_node-put nodes id n _ (head-ok-in nodes heads t q z) in
    subst (λ (s : Head × Head). CanLink nodes id p q s.0 s.1) (λ i. (e i, f i)) (record { write_1 = w1; write_2 = w2 })

pub linked_nodes-is : (nodes : Nodes) (heads : List Head) (id p q : ℕ) (h g : Head) → head_at heads p ≡ h
    → head_at heads q ≡ g
    → with_prev_in (with_prev_out (put_in nodes id h g p q) h.first_out id) g.first_in id
    ≡ linked_nodes nodes heads id p q
unfolding linked_nodes
linked_nodes-is nodes heads id p q h g e f =
    λ i. with_prev_in (with_prev_out (put_in nodes id (sym e i) (sym f i) p q) (sym e i).first_out id)
    (sym f i).first_in id

pub linked_heads-is : (heads : List Head) (id p q : ℕ)
    → with_first_in (with_first_out heads no_id p id) no_id q id ≡ linked_heads heads id p q
unfolding linked_heads
linked_heads-is heads id p q = refl

-- an id of the pool is apart from no id
pub small_id : (id : ℕ) → id < 562949953421312 → eqb id no_id ≡ false
small_id id l = ne_eqb id no_id (λ e. omega arith)
